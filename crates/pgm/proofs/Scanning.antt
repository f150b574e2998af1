-- A file's start is judged byte by byte, whichever of the two equal bytes is named first.
use Rattle.std.specs.Prelude.{◌≡◌, refl, ◌&&◌, List, [], ◌∷◌, ℕ, eqb}
use Rattle.std.specs.List.{starts_with}
use Rattle.std.proofs.Common.{sym, ap, ◌∙◌}
use Rattle.std.proofs.lemmas.Bool.Decides.{same_from_decides, Decides-eqb}
use Rattle.picture_file.specs.PictureFile.{starts}

eqb_turned : (a b : ℕ) → eqb a b ≡ eqb b a
eqb_turned a b = same_from_decides (eqb a b) (eqb b a) (Decides-eqb a b) (λ e. sym ((Decides-eqb b a).0 e), λ e. (Decides-eqb b a).1 (sym e))

pub starts_with_is : (bytes file : List ℕ) → starts_with eqb file bytes ≡ starts bytes file
starts_with_is [] file = refl
starts_with_is (b ∷ bs) [] = refl
starts_with_is (b ∷ bs) (x ∷ xs) = ap (λ t. t && starts_with eqb xs bs) (eqb_turned b x) ∙ ap (λ t. eqb x b && t) (starts_with_is bs xs)
