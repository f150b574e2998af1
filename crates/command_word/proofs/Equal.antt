-- Two texts are the same where the library says that they are equal, and one begins with another where it says so.
use Rattle.std.specs.Prelude.{◌≡◌, refl, ◌&&◌, List, [], ◌∷◌, ℕ, eqb}
use Rattle.std.specs.Cmp.Lexicographic.{pointwise}
use Rattle.std.proofs.Common.{sym, ap, ◌∙◌}
use Rattle.std.proofs.lemmas.Bool.Decides.{same_from_decides, Decides-eqb}
use Rattle.command_word.specs.Word.{same}

pub equal_is : (s t : List ℕ) → pointwise eqb s t ≡ same s t
equal_is [] [] = refl
equal_is [] (d ∷ t) = refl
equal_is (c ∷ s) [] = refl
equal_is (c ∷ s) (d ∷ t) = ap (λ b. eqb c d && b) (equal_is s t)

eqb_turned : (a b : ℕ) → eqb a b ≡ eqb b a
eqb_turned a b = same_from_decides (eqb a b) (eqb b a) (Decides-eqb a b) (λ e. sym ((Decides-eqb b a).0 e), λ e. (Decides-eqb b a).1 (sym e))

pub same_turned : (s t : List ℕ) → same s t ≡ same t s
same_turned [] [] = refl
same_turned [] (d ∷ t) = refl
same_turned (c ∷ s) [] = refl
same_turned (c ∷ s) (d ∷ t) = ap (λ b. b && same s t) (eqb_turned c d) ∙ ap (λ b. eqb d c && b) (same_turned s t)
