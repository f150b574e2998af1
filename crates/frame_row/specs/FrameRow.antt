-- The row of a line of a profile 0 frame (02, A1, A2 and A13): what is kept of it. For a picture that is a visible line's pixels, and nothing of any
-- other; for a comparison it is the line whole, as a list of lines has it.
use Rattle.std.specs.Prelude.{◌≡◌, Bool, ◌&&◌, cond, List, [], ◌∷◌, ◌++◌, ℕ, ◌+◌, eqb, leb, length, take, drop, None, Option, Some}
use Rattle.line_code.specs.declared.Kind.TheVariants.{VL}
use Rattle.line_code.specs.LineCode.{kind_number}
use Rattle.profile.specs.Profile.{width}
use Rattle.pixel_order.specs.declared.Way.TheVariants.{ToPixels}
use Rattle.pixel_order.specs.PixelOrder.{reordered}
use Rattle.line_records.specs.Lines.{line_size, in_two}
use Rattle.frame_row.specs.declared.Order.{Order}
use Rattle.frame_row.specs.declared.Order.TheVariants.{AsSent, OddFirst}
use Rattle.frame_row.specs.declared.Keeping.{Keeping}
use Rattle.frame_row.specs.declared.Keeping.TheVariants.{VisiblePixels, WholeLines}

-- a body's pixels: as sent, or put in order where the head sends odd pixels first
abbrev pub pixels_of : Order → List ℕ → List ℕ
pixels_of AsSent body = body
pixels_of OddFirst body = reordered ToPixels body

-- the number of a visible line's kind
abbrev pub is_visible : ℕ → Bool
is_visible k = eqb k (kind_number VL)

-- the row of the line at a place of its frame, of this kind and with this body
abbrev pub kept_row : Keeping → ℕ → ℕ → List ℕ → List ℕ
kept_row (VisiblePixels o) place kind body = cond (is_visible kind) (pixels_of o body) []
kept_row WholeLines place kind body = (kind ∷ in_two place) ++ body

-- how long it is, where the body has 356 bytes
abbrev pub row_size : Keeping → ℕ → ℕ
row_size (VisiblePixels o) kind = cond (is_visible kind) width 0
row_size WholeLines kind = line_size

-- a row of a line that was due is put after the bytes kept, unless the line buffer is shorter than a body, or there is no room for the row
unfoldable pub row_fits : Keeping → ℕ → ℕ → List ℕ → List ℕ → Bool
row_fits k kept kind body buffer = eqb (length body) width && leb (kept + row_size k kind) (length buffer)

-- a buffer with a line's row after the bytes kept
unfoldable pub with_row : Keeping → ℕ → ℕ → ℕ → List ℕ → List ℕ → List ℕ
with_row k kept place kind body buffer = take kept buffer ++ (kept_row k place kind body ++ drop (kept + row_size k kind) buffer)

-- a call that puts a row where it fits, and says where the rows end then
pub record Keeps (k : Keeping) (kept place kind : ℕ) (body before : List ℕ) (answer : Option ℕ) (after : List ℕ) : Type 0 where
  pub ending : answer ≡ cond (row_fits k kept kind body before) (Some (kept + row_size k kind)) None
  pub leaves : after ≡ cond (row_fits k kept kind body before) (with_row k kept place kind body before) before
