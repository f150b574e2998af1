-- A call takes no more nibbles than are left.
use Rattle.std.proofs.Common.{ℕ, List, ◌+◌, ◌*◌, ◌≤◌, length, drop, ap, arith, length-drop}
use Rattle.stream.specs.Written.{nibbles}
use Rattle.stream.specs.NibblesLaws.{nibbles_length}
use Rattle.list_frames.specs.declared.FrameLister.{FrameLister}
use Rattle.list_frames.specs.declared.FramesListed.{FramesListed}
use Rattle.list_frames.specs.FrameLister.{ListsFrames, listed_of}
use Rattle.list_frames.specs.FrameListerLaws.{taken_within}
use Rattle.frames.proofs.FrameReportLister.list.Goals as goal

-- it takes no more nibbles than are left
taken_fits :
    (l : FrameLister) (n at : ℕ) (piece d d₁ : List ℕ) (r : FramesListed)
    → ListsFrames (listed_of l n (drop at (nibbles piece))) r d d₁ → at ≤ 2 * length piece → at + r.taken ≤ 2 * length piece
unfolding listed_of
taken_fits l n at piece d d₁ r e within =
    let s = nibbles piece in
    let t = ap (λ (x : FramesListed). x.taken) e.next in
    let w = taken_within l n (drop at s) in
    omega (arith, t, w, length-drop at s, nibbles_length piece, within)

pub returns-clause-taken : goal.returns-clause-taken
returns-clause-taken c = taken_fits _ _ _ _ _ _ _ c.list-done.ensures
