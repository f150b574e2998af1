-- Heads that send odd pixels first (02, A2; figure 7 of 004): where a line's body holds each pixel.
use Rattle.std.specs.Prelude.{cond, List, ℕ, ◌+◌, ◌-◌, ◌*◌, ◌/◌, ◌%◌, eqb, ltb, length, get_or}
use Rattle.bits.specs.Agree.{listed}
use Rattle.refusal.specs.Refusal.{wrong_body_length, not_visible}
use Rattle.line_code.specs.declared.Kind.TheVariants.{VL}
use Rattle.line_code.specs.LineCode.{kind_number}
use Rattle.profile.specs.Profile.{width}
use Rattle.lent_buffer.specs.Filled.{Output, require, fitted}
use Rattle.pixel_order.specs.declared.Way.{Way}
use Rattle.pixel_order.specs.declared.Way.TheVariants.{ToPixels, ToBody}

-- the odd pixels of a line, and the even ones: as many of each
abbrev pub half : ℕ
half = 178

-- the body place of pixel i
unfoldable pub place_of : ℕ → ℕ
place_of i = cond (eqb (i % 2) 1) ((i - 1) / 2) (half + i / 2)

-- the pixel at body place j: 2j + 1 at place j below 178, 2j at place 178 + j
unfoldable pub pixel_at : ℕ → ℕ
pixel_at j = cond (ltb j half) (2 * j + 1) (2 * (j - half))

-- the place that the byte at a place comes from
abbrev pub source_of : Way → ℕ → ℕ
source_of ToPixels i = place_of i
source_of ToBody j = pixel_at j

-- the other way
abbrev pub back : Way → Way
back ToPixels = ToBody
back ToBody = ToPixels

-- the bytes of a line, put in the order of a way: the pixels of a body, or the body of pixels
unfoldable pub reordered : Way → List ℕ → List ℕ
reordered w bytes = listed (λ i. get_or bytes (source_of w i) 0) width

-- what a call answers: a kind by its number, the bytes given and the room. 23, 15, 12, or the bytes in the way's order
unfoldable pub reorder_of : Way → ℕ → List ℕ → ℕ → Output
reorder_of w kind bytes room =
    require (eqb kind (kind_number VL)) not_visible (require (eqb (length bytes) width) wrong_body_length (fitted (reordered w bytes) room))
