-- The mark's answer is judged with what has left the window; the buffer follows that answer, and so does what the next mark keeps of it.
use mathlib.Core.Path.{refl}
use Rattle.mark_answer.specs.SoundLaws.{legible_body}
use Rattle.reader.proofs.complete.Goals as goal

pub returns : goal.returns
returns c =
    let l = c.text_length.ensures in
    let k = c.leave_kept-kept.ensures in
    record {
      next = simp (c.open_after-head.ensures, c.at_mark-closed.ensures.leaves, l, k);
      keeps = refl;
      says = simp (c.at_mark-closed.ensures.says, l, k);
      leaves = simp (c.hand_out.ensures, c.at_mark-closed.ensures.says, l, k, legible_body);
    }
