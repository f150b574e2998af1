-- A cut at work: four lines as written, cut within the first and within the third. The second alone is whole, and so is its gap; the claim of a cut
-- clean stream is not empty.
use Rattle.std.specs.Prelude.{◌≡◌, refl, [], ◌∷◌, ℕ, ◌+◌}
use Rattle.line_code.specs.declared.Kind.TheVariants.{BL}
use Rattle.profile.specs.declared.Profile.{Profile}
use Rattle.profile.specs.declared.Profile.TheVariants.{VV5404, VV5300}
use Rattle.recovery.specs.CutStream.{whole_between, closed_between, CutStream}
use Rattle.recovery.proofs.CutStreamLaws.{cut_stream}
use Rattle.recovery.proofs.Examples.{sample, four, four_writable}

-- the cut: so many nibbles from the place 100 on
abbrev pub size : Profile → ℕ
size VV5404 = 1500
size VV5300 = 700

pub line_within : (p : Profile) → whole_between 100 (100 + size p) (four p) ≡ sample p BL 3 ∷ []
line_within VV5404 = refl
line_within VV5300 = refl

pub gap_within : (p : Profile) → closed_between 100 (100 + size p) (four p) ≡ sample p BL 3 ∷ []
gap_within VV5404 = refl
gap_within VV5300 = refl

pub cut_four : (p : Profile) → CutStream p (four p) 100 (size p)
cut_four p = cut_stream p (four_writable p) 100 (size p)
