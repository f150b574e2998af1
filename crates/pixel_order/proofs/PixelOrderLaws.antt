-- Each way undoes the other, since the place of a pixel and the pixel at a place are inverse to each other at each of the 356 places.
use Rattle.std.specs.Prelude.{◌≡◌, refl, Bool, true, ◌&&◌, List, ℕ, zero, suc, ◌+◌, ◌*◌, ◌<◌, ◌≤◌, eqb, ltb, length, get_or}
use Rattle.std.proofs.Common.{sym, ap, ◌∙◌, le_of_suc-le-suc, not-suc-le-zero, arith, eqb-true, ltb-true, lt-ltb, le-ltb, eq-eqb, le-leb, ext_get_or}
use Rattle.bits.specs.Agree.{listed}
use Rattle.bits.specs.Every.{and_left, and_right, every, each}
use Rattle.line_code.specs.declared.Kind.TheVariants.{VL}
use Rattle.line_code.specs.LineCode.{kind_number}
use Rattle.profile.specs.Profile.{width}
use Rattle.lent_buffer.specs.Filled.{used, require}
use Rattle.lent_buffer.specs.FilledLaws.{passed, used_fitted}
use Rattle.pixel_order.specs.declared.Way.{Way}
use Rattle.pixel_order.specs.declared.Way.TheVariants.{ToPixels, ToBody}
use Rattle.pixel_order.specs.PixelOrder.{half, place_of, pixel_at, source_of, back, reordered, reorder_of}

-- The places of a line.

-- a place comes from a place of the line, and the other way brings that back
abbrev returns : Way → ℕ → Bool
returns w i = eqb (source_of w (source_of (back w) i)) i && ltb (source_of (back w) i) width

all_return : (w : Way) → every (returns w) width ≡ true
unfolding place_of pixel_at
all_return ToPixels = refl
all_return ToBody = refl

module _ (w : Way) (i : ℕ) (h : i < width) where
  source_back : source_of w (source_of (back w) i) ≡ i
  source_back = eqb-true _ _ (and_left _ (ltb (source_of (back w) i) width) (each (returns w) width (all_return w) i h))

  back_inside : source_of (back w) i < width
  back_inside = ltb-true _ _ (and_right (eqb (source_of w (source_of (back w) i)) i) _ (each (returns w) width (all_return w) i h))

pub source_inside : (w : Way) (i : ℕ) → i < width → source_of w i < width
source_inside ToPixels = back_inside ToBody
source_inside ToBody = back_inside ToPixels

-- The bytes of a line.

length_listed : (f : ℕ → ℕ) (n : ℕ) → length (listed f n) ≡ n
length_listed f zero = refl
length_listed f (suc n) = ap suc (length_listed (λ i. f (suc i)) n)

get_d_listed : (f : ℕ → ℕ) (n i : ℕ) → i < n → get_or (listed f n) i 0 ≡ f i
get_d_listed f zero i h = absurd (not-suc-le-zero h)
get_d_listed f (suc n) zero h = refl
get_d_listed f (suc n) (suc i) h = get_d_listed (λ j. f (suc j)) n i (le_of_suc-le-suc h)

pub reordered_length : (w : Way) (bytes : List ℕ) → length (reordered w bytes) ≡ width
unfolding reordered
reordered_length w bytes = length_listed (λ i. get_or bytes (source_of w i) 0) width

pub reordered_at : (w : Way) (bytes : List ℕ) (i : ℕ) → i < width → get_or (reordered w bytes) i 0 ≡ get_or bytes (source_of w i) 0
unfolding reordered
reordered_at w bytes = get_d_listed (λ i. get_or bytes (source_of w i) 0) width

pub undone : (w : Way) (bytes : List ℕ) → length bytes ≡ width → reordered (back w) (reordered w bytes) ≡ bytes
undone w bytes e = ext_get_or 0 _ _ (reordered_length (back w) _ ∙ sym e) same
  where
    same : (i : ℕ) → i < length (reordered (back w) (reordered w bytes)) → get_or (reordered (back w) (reordered w bytes)) i 0 ≡ get_or bytes i 0
    same i g =
        let h : i < width = omega (arith, reordered_length (back w) (reordered w bytes)) in
        reordered_at (back w) (reordered w bytes) i h
        ∙ reordered_at w bytes (source_of (back w) i) (back_inside w i h)
        ∙ ap (λ (k : ℕ). get_or bytes k 0) (source_back w i h)

-- What 02 says of a body.

-- where the odd pixels begin and end, and the even ones
pub edges : (pixel_at 0 ≡ 1) × (pixel_at 177 ≡ 355) × (pixel_at 178 ≡ 0) × (pixel_at 355 ≡ 354)
unfolding pixel_at
edges = (refl, refl, refl, refl)

-- body place j below 178 holds pixel 2j + 1
pub odd_first : (pixels : List ℕ) (j : ℕ) → j < half → get_or (reordered ToBody pixels) j 0 ≡ get_or pixels (2 * j + 1) 0
unfolding pixel_at
odd_first pixels j h = reordered_at ToBody pixels j (omega arith) ∙ simp (lt-ltb j half h)

-- place 178 + j holds pixel 2j
pub even_after : (pixels : List ℕ) (j : ℕ) → j < half → get_or (reordered ToBody pixels) (half + j) 0 ≡ get_or pixels (2 * j) 0
unfolding pixel_at
even_after pixels j h =
    reordered_at ToBody pixels (half + j) (omega arith) ∙ simp (le-ltb (half + j) half (omega arith)) (ap (λ (k : ℕ). get_or pixels k 0) (omega arith))

-- The calls.

pub in_order_lem : (w : Way) (kind room : ℕ) (bytes : List ℕ) → eqb kind (kind_number VL) ≡ true → length bytes ≡ width → width ≤ room
    → reorder_of w kind bytes room ≡ used width (reordered w bytes)
unfolding reorder_of require
in_order_lem w kind room bytes k e g = simp (k, eq-eqb _ _ e, reordered_length w bytes, le-leb _ _ g)

-- the bytes that a call puts in order, the call the other way puts back, given the room
pub put_back : (w : Way) (kind room room' n : ℕ) (bytes line : List ℕ)
    → reorder_of w kind bytes room ≡ used n line → width ≤ room' → reorder_of (back w) kind line room' ≡ used n bytes
unfolding reorder_of
put_back w kind room room' n bytes line h g =
    let k = passed (eqb kind (kind_number VL)) _ _ h in
    let e = passed (eqb (length bytes) width) _ _ k.1 in
    let l = used_fitted (reordered w bytes) room e.1 in
    in_order_lem (back w) kind room' line k.0 (ap length l.0 ∙ reordered_length w bytes) g
    ∙ ap (λ (x : List ℕ). used width (reordered (back w) x)) l.0
    ∙ ap (used width) (undone w bytes (eqb-true _ _ e.0))
    ∙ ap (λ (m : ℕ). used m bytes) (sym (l.1 ∙ reordered_length w bytes))
