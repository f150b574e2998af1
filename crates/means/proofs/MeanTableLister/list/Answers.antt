-- A call takes no more nibbles than are left.
use Rattle.std.proofs.Common.{ℕ, List, ◌+◌, ◌*◌, ◌≤◌, length, drop, ap, arith, length-drop}
use Rattle.stream.specs.Written.{nibbles}
use Rattle.stream.specs.NibblesLaws.{nibbles_length}
use Rattle.list_means.specs.declared.MeanLister.{MeanLister}
use Rattle.list_means.specs.declared.MeansListed.{MeansListed}
use Rattle.list_means.specs.MeanLister.{ListsMeans, listed_of}
use Rattle.list_means.specs.MeanListerLaws.{taken_within}
use Rattle.means.proofs.MeanTableLister.list.Goals as goal

-- it takes no more nibbles than are left
taken_fits :
    (l : MeanLister) (n at : ℕ) (piece d d₁ : List ℕ) (r : MeansListed)
    → ListsMeans (listed_of l n (drop at (nibbles piece))) r d d₁ → at ≤ 2 * length piece → at + r.taken ≤ 2 * length piece
unfolding listed_of
taken_fits l n at piece d d₁ r e within =
    let s = nibbles piece in
    let t = ap (λ (x : MeansListed). x.taken) e.next in
    let w = taken_within l n (drop at s) in
    omega (arith, t, w, length-drop at s, nibbles_length piece, within)

pub returns-then-self-clause-taken : goal.returns-then-self-clause-taken
returns-then-self-clause-taken c = taken_fits _ _ _ _ _ _ _ c.list-done.ensures

pub returns-else-self-clause-taken : goal.returns-else-self-clause-taken
returns-else-self-clause-taken c = taken_fits _ _ _ _ _ _ _ c.list-done.ensures
