-- At each turn only blanks were passed.
use mathlib.Core.Path.{refl, sym, ◌∙◌}
use native.Mathlib.Omega.{arith}
use lib.ListN.{length, drop_of_length-le}
use Prim.Native.Nat.{◌≤◌}
use Rattle.named_value.specs.NumberLaws.{blanks_step}
use Rattle.named_value.proofs.past_blanks.Goals as goal

pub loop-i-init : goal.loop-i-init
loop-i-init c = refl

pub loop-i-preserved : goal.loop-i-preserved
loop-i-preserved c =
    c.loop-i.invariant ∙ blanks_step _ _ c.loop-i-test.true ∙ simp (← c.is_blank.ensures, c.if-not-is_blank.false)

pub returns-then-not-is_blank : goal.returns-then-not-is_blank
returns-then-not-is_blank c =
    sym (c.loop-i.invariant ∙ blanks_step _ _ c.loop-i-test.true ∙ simp (← c.is_blank.ensures, c.if-not-is_blank.true))

pub returns : goal.returns
returns c =
    let line = c.args.line.now in
    let whole : length line ≤ length line = omega arith in
    simp (drop_of_length-le line whole) (sym (c.loop-i.invariant ∙ rw (drop_of_length-le line c.loop-i-test.false)))
