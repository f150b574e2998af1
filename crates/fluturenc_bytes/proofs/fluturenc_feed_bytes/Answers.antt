-- 11 for a short state and for numbers no reader has; else a run is lent the body, and its head is stored where it took something.
use Rattle.exported_state.specs.State.{state_length, holds_reader}
use Rattle.exported_state.specs.StateLaws.{held_head_lem}
use mathlib.Core.Path.{◌≡◌, sym, ap, ◌∙◌}
use native.Mathlib.Omega.{arith}
use borrow.Author.Tests.{lt-leb, le-leb}
use lib.ListN.{length, drop}
use Rattle.stream.specs.Written.{nibbles}
use Rattle.stream.specs.AnswersLaws.{answer_of}
use Rattle.fluturenc.specs.Calls.{feed_call, state_after}
use Rattle.fluturenc.specs.FeedingLaws.{lent_run, feed_lent, left_same, left_stored}
use borrow.Author.Rules.{rules}
use Rattle.fluturenc_bytes.proofs.fluturenc_feed_bytes.Goals as goal
use Rattle.fluturenc_bytes.proofs.fluturenc_feed_bytes.Goals.{then-t-gt0, else-t-gt0}

pub returns-then-state-lt-STATE : goal.returns-then-state-lt-STATE
unfolding feed_call holds_reader
returns-then-state-lt-STATE c =
    let short = lt-leb state_length (length c.args.state.now) (omega (arith, c.if-state-lt-STATE.true)) in
    record { says = simp short; count = simp short; keeps = simp short; leaves = simp short }

pub returns-then-is_tagged : goal.returns-then-is_tagged
returns-then-is_tagged c =
    let a = c.args in
    let s = a.state.now in
    let w = drop a.from (nibbles a.bytes.now) in
    let line = a.line.now in
    let h = c.head_in-h.result in
    let room = c.if-state-lt-STATE.false in
    let read = c.head_in-h.ensures ∙ held_head_lem s room in
    let e = feed_lent s room w line h read (sym c.is_tagged.ensures ∙ c.if-is_tagged.true) in
    let told = answer_of h.profile c.run-t.result.answer c.run-t.new.line (lent_run h s w line).outcome c.run-t.ensures.says in
    let r = c.run-t in
    let left : c.if-t-gt0.state ≡ state_after (lent_run h s w line) s = elim c.if-t-gt0.branch [
      | then-t-gt0 b ↦ b.state-is ∙ b.store_head.ensures ∙ left_stored s room w line h read r.result.taken r.new.body r.ensures.count r.ensures.keeps (omega (arith, b.if-t-gt0.true)) r.result.head r.ensures.next
      | else-t-gt0 b ↦ b.state-is ∙ left_same s room w line h read r.result.taken r.new.body r.ensures.count r.ensures.keeps (omega (arith, b.if-t-gt0.false))
    ] in
    record {
      says = simp (e, c.answer_number.ensures, told);
      count = simp (e, c.run-t.ensures.count);
      keeps = simp e left;
      leaves = simp (e, c.run-t.ensures.leaves);
    }

pub returns : goal.returns
unfolding feed_call holds_reader
returns c =
    let s = c.args.state.now in
    let room = le-leb state_length (length s) (omega (arith, c.if-state-lt-STATE.false)) in
    let tags = c.is_tagged.ensures in
    record {
      says = simp (room, ← tags, c.if-is_tagged.false);
      count = simp (room, ← tags, c.if-is_tagged.false);
      keeps = simp (room, ← tags, c.if-is_tagged.false);
      leaves = simp (room, ← tags, c.if-is_tagged.false);
    }
