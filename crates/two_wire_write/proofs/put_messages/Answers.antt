-- At each turn storing the messages of the pairs left from here on gives the wanted buffer.
use mathlib.Core.Path.{refl, ap, ◌∙◌}
use mathlib.Core.List.{List}
use Prim.Native.Nat.{ℕ, ◌<◌}
use Rattle.std.specs.Slice.Iter.{chunks_exact_rest}
use native.Mathlib.Omega.{arith}
use borrow.Author.Rules.{rules}
use lib.ListN.{length}
use lib.Seq.{sets}
use Rattle.two_wire_write.specs.Writing.{messages, joined}
use Rattle.two_wire_write.proofs.Pairs.{length_ahead, sets_ahead, messages_end}
use Rattle.two_wire_write.proofs.put_messages.Goals as goal

pub loop-pair-init : goal.loop-pair-init
loop-pair-init c =
    let e = c.chunks_exact-pair-items.ensures in
    rw c.into_iter-pair-iterator.ensures.into_iter_gives (
      e.size,
      refl,
      omega (arith, ap (λ (l : List ℕ). length (joined (messages l))) e.rest),
      ap (λ (l : List ℕ). sets c.args.buffer.now 0 (joined (messages l))) e.rest,
    )

pub put_message-at-requires : goal.put_message-at-requires
put_message-at-requires c =
    let l = c.loop-pair.invariant in
    let s = c.in-Some.ensures.steps.1 in
    omega (arith, rw s.0 at l.2, length_ahead c.in-Some.pair.now (chunks_exact_rest c.next.new.self) (s.1 ∙ l.0))

pub loop-pair-preserved : goal.loop-pair-preserved
loop-pair-preserved c =
    let l = c.loop-pair.invariant in
    let e = c.in-Some.ensures.steps in
    let two = e.1.1 ∙ l.0 in (
      e.0 ∙ l.0,
      search rules,
      omega (arith, rw e.1.0 at l.2, length_ahead c.in-Some.pair.now (chunks_exact_rest c.next.new.self) two, c.put_message-at.ensures.0),
      simp (c.put_message-at.ensures.0, c.put_message-at.ensures.1) (sets_ahead _ _ two _ _ ∙ rw e.1.0 at l.3),
    )

pub returns : goal.returns
returns c =
    let l = c.loop-pair.invariant in
    let rest = chunks_exact_rest c.loop-pair.pair-iterator in
    let few : length rest < 2 = omega (arith, l.0, c.in-None.ensures.steps.1.0) in
    let e = messages_end rest few in
    (omega (arith, rw e at l.2), rw e at l.3)
