-- At each turn storing the bytes left from the index reached on gives the wanted registers, and these bytes do not pass 127.
use mathlib.Core.Path.{refl, sym, ◌∙◌}
use lib.ListN.{drop_of_length-le}
use Rattle.message_data.specs.RegisterLaws.{runs_past_here, runs_past_after, stored_step}
use Rattle.message_data.proofs.put_all.Goals as goal

pub loop-byte-init : goal.loop-byte-init
loop-byte-init c = (c.requires, refl)

pub put-requires : goal.put-requires
put-requires c = runs_past_here _ _ _ c.loop-byte-test.true _ c.loop-byte.invariant.0

pub next-at-requires : goal.next-at-requires
next-at-requires c = runs_past_here _ _ _ c.loop-byte-test.true _ c.loop-byte.invariant.0

pub loop-byte-preserved : goal.loop-byte-preserved
loop-byte-preserved c =
    let l = c.loop-byte.invariant in
    let t = c.loop-byte-test.true in
    (simp c.next-at.ensures (runs_past_after _ _ _ t _ l.0), simp (c.next-at.ensures, c.put.ensures) (sym (stored_step _ _ _ t _ _) ∙ l.1))

pub returns : goal.returns
returns c = let l = c.loop-byte.invariant in
    rw (drop_of_length-le _ c.loop-byte-test.false) at l.1
