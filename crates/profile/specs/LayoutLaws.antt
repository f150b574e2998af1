-- Laws of the layout: lengths of rules and of what fits them.
use Rattle.std.specs.Prelude.{◌≡◌, refl, true, List, [], ◌∷◌, ℕ, suc, ◌+◌, ◌≤◌, length}
use Rattle.std.proofs.Common.{sym, ap, true≢false, lit≤}
use Rattle.bits.specs.Every.{and_right}
use Rattle.line_code.specs.declared.Kind.{Kind}
use Rattle.line_code.specs.declared.Kind.TheVariants.{BL, BK, VL, SOF, EOF}
use Rattle.profile.specs.declared.Profile.{Profile}
use Rattle.profile.specs.declared.Profile.TheVariants.{VV5404, VV5300}
use Rattle.profile.specs.declared.Rule.{Rule}
use Rattle.profile.specs.Profile.{body_length, image_start, image_length, longest}
use Rattle.profile.specs.Layout.{allows, fits, rules}

pub body_small : (p : Profile) → body_length p ≤ longest
body_small VV5404 = lit≤ tt
body_small VV5300 = lit≤ tt

pub rules_length : (p : Profile) (k : Kind) → length (rules p k) ≡ body_length p
rules_length VV5404 BL = refl
rules_length VV5404 BK = refl
rules_length VV5404 VL = refl
rules_length VV5404 SOF = refl
rules_length VV5404 EOF = refl
rules_length VV5300 BL = refl
rules_length VV5300 BK = refl
rules_length VV5300 VL = refl
rules_length VV5300 SOF = refl
rules_length VV5300 EOF = refl

pub fits_length : (rs : List Rule) (bs : List ℕ) → fits rs bs ≡ true → length bs ≡ length rs
fits_length [] [] h = refl
fits_length [] (b ∷ bs) h = absurd (true≢false (sym h))
fits_length (r ∷ rs) [] h = absurd (true≢false (sym h))
fits_length (r ∷ rs) (b ∷ bs) h = ap suc (fits_length rs bs (and_right (allows r b) (fits rs bs) h))

-- the image stands in the middle of its body
pub image_centred : (p : Profile) → image_start p + image_length p + image_start p ≡ body_length p
image_centred VV5404 = refl
image_centred VV5300 = refl
