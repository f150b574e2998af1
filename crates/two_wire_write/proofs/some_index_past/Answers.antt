-- At each turn some index is past 127 exactly where one of the pairs left is.
use mathlib.Core.Path.{sym, ap, ◌∙◌}
use native.Mathlib.Omega.{arith}
use borrow.Author.Tests.{lt-ltb, le-ltb}
use Prim.Native.Nat.{◌<◌}
use lib.ListN.{length}
use Rattle.std.specs.Slice.Iter.{chunks_exact_rest}
use Rattle.two_wire_write.specs.Writing.{some_index_past}
use Rattle.two_wire_write.proofs.Pairs.{past_ahead, past_end}
use Rattle.two_wire_write.proofs.some_index_past.Goals as goal

pub loop-pair-init : goal.loop-pair-init
loop-pair-init c =
    let e = c.chunks_exact-pair-items.ensures in
    rw c.into_iter-pair-iterator.ensures.into_iter_gives (e.size, ap some_index_past (sym e.rest))

pub returns-then-pair-gt-LAST_INDEX : goal.returns-then-pair-gt-LAST_INDEX
returns-then-pair-gt-LAST_INDEX c =
    let l = c.loop-pair.invariant in
    let s = c.in-Some.ensures.steps.1 in
    sym (l.1 ∙ ap some_index_past s.0 ∙ past_ahead _ _ (s.1 ∙ l.0) ∙ simp (lt-ltb _ _ c.if-pair-gt-LAST_INDEX.true))

pub loop-pair-preserved : goal.loop-pair-preserved
loop-pair-preserved c =
    let l = c.loop-pair.invariant in
    let e = c.in-Some.ensures.steps in
    (e.0 ∙ l.0, l.1 ∙ ap some_index_past e.1.0 ∙ past_ahead _ _ (e.1.1 ∙ l.0) ∙ simp (le-ltb _ _ c.if-pair-gt-LAST_INDEX.false))

pub returns : goal.returns
returns c =
    let l = c.loop-pair.invariant in
    let few : length (chunks_exact_rest c.loop-pair.pair-iterator) < 2 = omega (arith, l.0, c.in-None.ensures.steps.1.0) in
    sym (l.1 ∙ past_end _ few)
