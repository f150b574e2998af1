-- The test of each count decides whether it is 0; the definition joins the tests by `&&`.
use mathlib.Core.Path.{◌≡◌, refl}
use mathlib.Core.Bool.{Bool}
use mathlib.Core.List.{List}
use Prim.Native.Nat.{ℕ}
use lib.Dec.{eqb}
use borrow.Author.Rules.{rules}
use Rattle.std.specs.Bool.{Decides}
use Rattle.std.specs.List.{All}
use Rattle.std.proofs.lemmas.Bool.Decides.{same_from_decides, Decides-by_and, Decides-eqb}
use Rattle.counts.specs.Counts.{all_zero}
use Rattle.counts.proofs.are_zero.Goals as goal

decided : (counts : List ℕ) (r : Bool) → Decides r (All (λ n. n ≡ 0) counts) → r ≡ all_zero counts
decided counts r h = same_from_decides r (all_zero counts) h (Decides-by_and (λ n. eqb n 0) (λ n. n ≡ 0) all_zero (λ n. Decides-eqb n 0) refl (λ _ _. refl) counts)

pub returns : goal.returns
returns c = decided c.args.counts.now c.all.result (search rules)
