-- A call takes no more nibbles than are left.
use Rattle.std.proofs.Common.{ℕ, List, ◌+◌, ◌*◌, ◌≤◌, length, drop, ap, arith, length-drop}
use Rattle.stream.specs.Written.{nibbles}
use Rattle.stream.specs.NibblesLaws.{nibbles_length}
use Rattle.list_marks.specs.declared.MarkLister.{MarkLister}
use Rattle.list_marks.specs.declared.MarksListed.{MarksListed}
use Rattle.list_marks.specs.MarkLister.{ListsMarks, listed_of}
use Rattle.list_marks.specs.MarkListerLaws.{taken_within}
use Rattle.list.proofs.MarkTableLister.list.Goals as goal

-- it takes no more nibbles than are left
taken_fits :
    (l : MarkLister) (n at : ℕ) (piece d d₁ : List ℕ) (r : MarksListed)
    → ListsMarks (listed_of l n (drop at (nibbles piece))) r d d₁ → at ≤ 2 * length piece → at + r.taken ≤ 2 * length piece
unfolding listed_of
taken_fits l n at piece d d₁ r e within =
    let s = nibbles piece in
    let t = ap (λ (x : MarksListed). x.taken) e.next in
    let w = taken_within l n (drop at s) in
    omega (arith, t, w, length-drop at s, nibbles_length piece, within)

pub returns-clause-taken : goal.returns-clause-taken
returns-clause-taken c = taken_fits _ _ _ _ _ _ _ c.list-done.ensures
