-- What a body may hold at each place, and which two bytes follow the end of a line (01, 'Line layout').
use Rattle.std.specs.Prelude.{Bool, true, false, ◌&&◌, List, [], ◌∷◌, ◌++◌, ℕ, zero, suc, ◌-◌, ◌/◌, eqb, leb, replicate}
use Rattle.line_code.specs.declared.Kind.{Kind}
use Rattle.line_code.specs.declared.Kind.TheVariants.{BL, BK, VL, SOF, EOF}
use Rattle.profile.specs.declared.Profile.{Profile}
use Rattle.profile.specs.declared.Profile.TheVariants.{VV5404, VV5300}
use Rattle.profile.specs.declared.Rule.{Rule}
use Rattle.profile.specs.declared.Rule.TheVariants.{Filler, Pixel, Any}
use Rattle.profile.specs.Profile.{body_length, image_length, filler_byte, null_byte}

-- a pixel or a mean: 01 to FE
abbrev pub is_pixel : ℕ → Bool
is_pixel b = leb 0x01 b && leb b 0xFE

-- what a place under a rule may hold
abbrev pub allows : Rule → ℕ → Bool
allows Filler b = eqb b filler_byte
allows Pixel b = is_pixel b
allows Any b = leb b 0xFF

-- every place of the body holds what its rule allows, and there are as many bytes as rules
abbrev pub fits : List Rule → List ℕ → Bool
fits [] [] = true
fits [] (b ∷ bs) = false
fits (r ∷ rs) [] = false
fits (r ∷ rs) (b ∷ bs) = allows r b && fits rs bs

-- data at even places, 07 at odd ones: n of each
abbrev pub spaced : Rule → ℕ → List Rule
spaced r zero = []
spaced r (suc n) = r ∷ Filler ∷ spaced r n

-- a body of an image and its border. Profile 0 has all of it as image; profile 1: two 07, two border, the image, two border, two 07
abbrev pub laid : Profile → Rule → List Rule → List Rule
laid VV5404 border image = image
laid VV5300 border image = Filler ∷ Filler ∷ border ∷ border ∷ (image ++ (border ∷ border ∷ Filler ∷ Filler ∷ []))

-- the image of EOF: profile 1 has bin averages at its places 0, 2, 4 and 6
abbrev pub averages : Profile → List Rule
averages VV5404 = replicate (image_length VV5404) Filler
averages VV5300 = spaced Pixel 4 ++ replicate (image_length VV5300 - 8) Filler

-- the rule of each place of a body
abbrev pub rules : Profile → Kind → List Rule
rules p BL = replicate (body_length p) Filler
rules p BK = laid p Pixel (replicate (image_length p) Pixel)
rules p VL = laid p Pixel (replicate (image_length p) Pixel)
rules p SOF = laid p Filler (spaced Any (image_length p / 2))
rules p EOF = laid p Filler (averages p)

-- both bytes are this one
abbrev pub both_are : ℕ → ℕ → ℕ → Bool
both_are x a b = eqb a x && eqb b x

-- both bytes are pixels
abbrev pub both_pixels : ℕ → ℕ → Bool
both_pixels a b = is_pixel a && is_pixel b

-- the two gap bytes after a line of a kind. Profile 0: FF FF. Profile 1: the line means after a VL, 07 07 after any other
abbrev pub gap_fits : Profile → Kind → ℕ → ℕ → Bool
gap_fits VV5404 k a b = both_are null_byte a b
gap_fits VV5300 BL a b = both_are filler_byte a b
gap_fits VV5300 BK a b = both_are filler_byte a b
gap_fits VV5300 VL a b = both_pixels a b
gap_fits VV5300 SOF a b = both_are filler_byte a b
gap_fits VV5300 EOF a b = both_are filler_byte a b
