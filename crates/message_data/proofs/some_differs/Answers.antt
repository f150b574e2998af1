-- At each turn some byte differs exactly where one of those left does, from the index reached on; past 127 none is compared.
use mathlib.Core.Path.{refl, sym, ◌∙◌}
use lib.ListN.{drop, drop_of_length-le}
use Rattle.message_data.specs.RegisterLaws.{past_alike, differs_step}
use Rattle.message_data.proofs.some_differs.Goals as goal

pub loop-byte-init : goal.loop-byte-init
loop-byte-init c = refl

pub returns-then-at-gt-LAST_INDEX : goal.returns-then-at-gt-LAST_INDEX
returns-then-at-gt-LAST_INDEX c = let a = c.args in
    let l = c.loop-byte in
    sym (l.invariant ∙ past_alike a.increment l.at (drop l.byte-index a.bytes.now) a.registers.now c.if-at-gt-LAST_INDEX.true)

pub returns-then-differs : goal.returns-then-differs
returns-then-differs c = sym (c.loop-byte.invariant ∙ differs_step _ _ _ c.loop-byte-test.true _ _ ∙ simp (← c.differs.ensures, c.if-differs.true))

pub loop-byte-preserved : goal.loop-byte-preserved
loop-byte-preserved c = c.loop-byte.invariant ∙ differs_step _ _ _ c.loop-byte-test.true _ _ ∙ simp (← c.differs.ensures, c.if-differs.false, c.next-at.ensures)

pub returns : goal.returns
returns c = sym (c.loop-byte.invariant ∙ rw (drop_of_length-le _ c.loop-byte-test.false))
