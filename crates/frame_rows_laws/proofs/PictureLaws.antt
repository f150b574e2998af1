-- The rows of a complete frame are a picture's: writing them is not refused 21 and, where each visible body is laid out as 01 says, not 22.
use Rattle.std.specs.Prelude.{◌≡◌, refl, Bool, true, false, cond, List, [], ◌∷◌, ◌++◌, ℕ, zero, suc, ◌<◌, ◌≤◌, length, get_or, replicate}
use Rattle.std.proofs.Common.{sym, ap, subst, ◌∙◌, true≢false, le_of_suc-le-suc, not-suc-le-zero, arith}
use Rattle.bits.specs.Agree.{listed}
use Rattle.bits.specs.Every.{and_left, and_right, and_both}
use Rattle.line_code.specs.declared.Kind.TheVariants.{VL}
use Rattle.profile.specs.declared.Profile.TheVariants.{VV5404}
use Rattle.profile.specs.declared.Rule.TheVariants.{Pixel}
use Rattle.profile.specs.Profile.{width}
use Rattle.profile.specs.Layout.{is_pixel, rules, fits}
use Rattle.profile.specs.LayoutLaws.{rules_length, fits_length}
use Rattle.lent_buffer.specs.Filled.{used}
use Rattle.pixel_order.specs.declared.Way.TheVariants.{ToPixels}
use Rattle.pixel_order.specs.PixelOrder.{source_of, reordered}
use Rattle.pixel_order.proofs.PixelOrderLaws.{source_inside}
use Rattle.picture_file.specs.PictureFile.{image_of, pixels, Picture, write_as, write_of}
use Rattle.picture_file.proofs.PictureFileLaws.{size_tells, picture_written}
use Rattle.frame_row.specs.declared.Order.{Order}
use Rattle.frame_row.specs.declared.Order.TheVariants.{AsSent, OddFirst}
use Rattle.frame_row.specs.declared.Keeping.TheVariants.{VisiblePixels}
use Rattle.frame_row.specs.FrameRow.{pixels_of, is_visible, kept_row}
use Rattle.frame_rows.specs.FrameRows.{Shown}
use Rattle.frame_rows_laws.specs.Gathering.{kept_rows_from, picture_of, CompletesRows, Laid, Every}

-- Pixels.

pixels_append : (a b : List ℕ) → pixels a ≡ true → pixels b ≡ true → pixels (a ++ b) ≡ true
pixels_append [] b h g = g
pixels_append (p ∷ a) b h g = and_both (is_pixel p) _ (and_left (is_pixel p) _ h) (pixels_append a b (and_right (is_pixel p) _ h) g)

pixel_at_lem : (body : List ℕ) (i : ℕ) → i < length body → pixels body ≡ true → is_pixel (get_or body i 0) ≡ true
pixel_at_lem [] i g h = absurd (not-suc-le-zero g)
pixel_at_lem (p ∷ body) zero g h = and_left (is_pixel p) _ h
pixel_at_lem (p ∷ body) (suc i) g h = pixel_at_lem body i (le_of_suc-le-suc g) (and_right (is_pixel p) _ h)

pixels_listed : (f : ℕ → ℕ) (n : ℕ) → ((i : ℕ) → i < n → is_pixel (f i) ≡ true) → pixels (listed f n) ≡ true
pixels_listed f zero h = refl
pixels_listed f (suc n) h = and_both (is_pixel (f 0)) _ (h 0 (omega arith)) (pixels_listed (λ i. f (suc i)) n (λ i g. h (suc i) (omega arith)))

fits_pixels : (n : ℕ) (body : List ℕ) → fits (replicate n Pixel) body ≡ true → pixels body ≡ true
fits_pixels zero [] h = refl
fits_pixels zero (p ∷ body) h = absurd (true≢false (sym h))
fits_pixels (suc n) [] h = absurd (true≢false (sym h))
fits_pixels (suc n) (p ∷ body) h = and_both (is_pixel p) _ (and_left (is_pixel p) _ h) (fits_pixels n body (and_right (is_pixel p) _ h))

-- The rows of lines.

order_pixels : (o : Order) (body : List ℕ) → length body ≡ width → pixels body ≡ true → pixels (pixels_of o body) ≡ true
unfolding reordered
order_pixels AsSent body e h = h
order_pixels OddFirst body e h =
    pixels_listed (λ i. get_or body (source_of ToPixels i) 0) width (λ i g. pixel_at_lem body (source_of ToPixels i) (omega (arith, source_inside ToPixels i g)) h)

row_pixels : (o : Order) (place : ℕ) (l : Shown) → Laid l → pixels (kept_row (VisiblePixels o) place l.given.kind l.body) ≡ true
row_pixels o place l h = by (is_visible l.given.kind) h
  where
    by : (t : Bool) → (t ≡ true → fits (rules VV5404 VL) l.body ≡ true) → pixels (cond t (pixels_of o l.body) []) ≡ true
    by true f = order_pixels o l.body (fits_length (rules VV5404 VL) l.body (f refl) ∙ rules_length VV5404 VL) (fits_pixels width l.body (f refl))
    by false f = refl

rows_pixels : (o : Order) (place : ℕ) (ls : List Shown) → Every Laid ls → pixels (kept_rows_from (VisiblePixels o) place ls) ≡ true
rows_pixels o place [] h = refl
rows_pixels o place (l ∷ ls) h =
    pixels_append (kept_row (VisiblePixels o) place l.given.kind l.body) (kept_rows_from (VisiblePixels o) (suc place) ls) (row_pixels o place l h.0)
    (rows_pixels o (suc place) ls h.1)

every_back : (P : Shown → Type 0) (a b : List Shown) → Every P (a ++ b) → Every P b
every_back P [] b h = h
every_back P (l ∷ a) b h = every_back P a b h.1

-- The picture.

module _ (o : Order) (ls : List Shown) (n : ℕ) (rows : List ℕ) (c : CompletesRows (VisiblePixels o) ls n rows) where
  -- not 21: the size of the rows tells the border setting
  pub rows_sized : (room : ℕ) → write_of rows room ≡ write_as (picture_of c.borders) rows room
  unfolding write_of
  rows_sized room = size_tells (λ b. write_as b rows room) _ (picture_of c.borders) (length rows) c.sized

  -- not 22 either: the file is that of a picture
  pub rows_picture : Every Laid ls → Picture rows (image_of (picture_of c.borders) rows)
  rows_picture h =
      record {
        format = picture_of c.borders;
        sized = c.sized;
        good = ap pixels c.shows ∙ rows_pixels o 0 c.frame (every_back Laid c.earlier c.frame (subst (Every Laid) c.ends h));
        made = refl;
      }

  -- so it is written where there is room
  pub rows_written : (room : ℕ) → Every Laid ls → length (image_of (picture_of c.borders) rows) ≤ room
      → write_of rows room ≡ used (length (image_of (picture_of c.borders) rows)) (image_of (picture_of c.borders) rows)
  rows_written room h = picture_written rows (image_of (picture_of c.borders) rows) room (rows_picture h)
