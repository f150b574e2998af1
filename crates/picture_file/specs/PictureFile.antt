-- A picture as a binary PGM file (02, A1; Netpbm's "P5").
use Rattle.std.specs.Prelude.{◌≡◌, Bool, true, false, ◌&&◌, cond, List, [], ◌∷◌, ◌++◌, ℕ, ◌*◌, ◌/◌, ◌%◌, eqb, length, drop}
use Rattle.text.specs.Text.{ascii, space, newline, digit, decimal}
use Rattle.refusal.specs.Refusal.{bad_header, wrong_picture_length, bad_pixel}
use Rattle.profile.specs.Profile.{width}
use Rattle.profile.specs.Layout.{is_pixel}
use Rattle.lent_buffer.specs.Filled.{Output, refused, require, fitted}
use Rattle.picture_file.specs.declared.Format.{Format}
use Rattle.picture_file.specs.declared.Format.TheVariants.{Bordered, Plain}

-- the rows of a picture: a frame's visible lines with borders on, or off
abbrev pub height : Format → ℕ
height Bordered = 292
height Plain = 288

-- the pixels of a picture
abbrev pub size : Format → ℕ
size b = height b * width

-- the greatest value of a pixel, as the header gives it
abbrev pub maxval : ℕ
maxval = 255

-- the format's name, width and height, the greatest value, each line with its newline
unfoldable pub header : Format → List ℕ
header b = ascii "P5\n" ++ (decimal width ++ (space ∷ (decimal (height b) ++ (newline ∷ (decimal maxval ++ (newline ∷ []))))))

-- a number in three decimal digits, as each number of the header has
abbrev pub three_digits : ℕ → List ℕ
three_digits n = digit (n / 100 % 10) ∷ digit (n / 10 % 10) ∷ digit (n % 10) ∷ []

-- how many bytes the header has
abbrev pub header_length : ℕ
header_length = 15

-- the file of rows: the header, then the pixels
abbrev pub image_of : Format → List ℕ → List ℕ
image_of b rows = header b ++ rows

-- each byte is a pixel, 01 to FE
abbrev pub pixels : List ℕ → Bool
pixels [] = true
pixels (p ∷ ps) = is_pixel p && pixels ps

-- the file of a picture: as many rows as its border setting has, pixels only, after that header
pub record Picture (rows file : List ℕ) : Type 0 where
  pub format : Format
  pub sized : length rows ≡ size format
  pub good : pixels rows ≡ true
  pub made : file ≡ image_of format rows

-- a file starts with these bytes
abbrev pub starts : List ℕ → List ℕ → Bool
starts [] file = true
starts (b ∷ bs) [] = false
starts (b ∷ bs) (x ∷ xs) = eqb x b && starts bs xs

-- by the border setting that passes a test; a refusal where neither does
unfoldable pub either : (Format → Bool) → (Format → Output) → ℕ → Output
either test then n = cond (test Bordered) (then Bordered) (cond (test Plain) (then Plain) (refused n))

-- 22, 12, or the file: of rows of a picture's size, and the room
abbrev pub write_as : Format → List ℕ → ℕ → Output
write_as b rows room = require (pixels rows) bad_pixel (fitted (image_of b rows) room)

-- what writing answers: 21, or by the size of the rows
unfoldable pub write_of : List ℕ → ℕ → Output
write_of rows room = either (λ b. eqb (length rows) (size b)) (λ b. write_as b rows room) wrong_picture_length

-- 21, 22, 12, or the rows: of what follows a header, and the room
abbrev pub read_as : Format → List ℕ → ℕ → Output
read_as b rows room = require (eqb (length rows) (size b)) wrong_picture_length (require (pixels rows) bad_pixel (fitted rows room))

-- what reading answers: 20, or by the header of the file
unfoldable pub read_of : List ℕ → ℕ → Output
read_of file room = either (λ b. starts (header b) file) (λ b. read_as b (drop header_length file) room) bad_header
