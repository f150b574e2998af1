-- The two sensor profiles (01, 'What is built first' and 'Line layout'): each number of a profile, stated once.
use Rattle.std.specs.Prelude.{cond, ℕ, eqb, None, Option, Some}
use Rattle.profile.specs.declared.Profile.{Profile}
use Rattle.profile.specs.declared.Profile.TheVariants.{VV5404, VV5300}

-- the profile with a number: 0 is VV5404, 1 is VV5300, and there are no others
unfoldable pub profile_numbered : ℕ → Option Profile
profile_numbered n = cond (eqb n 0) (Some VV5404) (cond (eqb n 1) (Some VV5300) None)

-- the paper's number of a profile
abbrev pub profile_number : Profile → ℕ
profile_number VV5404 = 0
profile_number VV5300 = 1

-- the pixels of a VV5404's line, which are its whole body
abbrev pub width : ℕ
width = 356

-- the bytes of a body
abbrev pub body_length : Profile → ℕ
body_length VV5404 = width
body_length VV5300 = 168

-- the place of a body's first image byte
abbrev pub image_start : Profile → ℕ
image_start VV5404 = 0
image_start VV5300 = 4

-- the image bytes of a body
abbrev pub image_length : Profile → ℕ
image_length VV5404 = width
image_length VV5300 = 160

-- the place in a gap's text, counted in nibbles from its code's first, from which it holds nothing but F: in profile 1 its two bytes come first
abbrev pub gap_start : Profile → ℕ
gap_start VV5404 = 2
gap_start VV5300 = 6

-- the length of the longest body
abbrev pub longest : ℕ
longest = body_length VV5404

-- the byte that fills places without data
abbrev pub filler_byte : ℕ
filler_byte = 0x07

-- the null byte
abbrev pub null_byte : ℕ
null_byte = 0xFF
