-- A row put at a place of the rows' buffer.
use mathlib.Core.Path.{◌≡◌, ap, ◌∙◌}
use mathlib.Core.Bool.{Bool, true, false, cond}
use mathlib.Core.List.{List, [], ◌∷◌, ◌++◌, append-nil, append_assoc}
use Prim.Native.Nat.{ℕ, ◌+◌, ◌-◌, ◌≤◌}
use native.Mathlib.Omega.{arith}
use lib.ListN.{length, take, drop, length-drop, drop_of_length-le, take-append-drop}
use lib.Seq.{take_all, take-length, drop-drop, sets-eq}
use Rattle.lent_buffer.specs.Filled.{Output, used, buffer_after}
use Rattle.text.specs.Put.{Puts}
use Rattle.profile.specs.Profile.{width}
use Rattle.line_records.specs.Lines.{line_size, in_two}
use Rattle.frame_row.specs.declared.Order.{Order}
use Rattle.frame_row.specs.declared.Keeping.{Keeping}
use Rattle.frame_row.specs.declared.Keeping.TheVariants.{VisiblePixels, WholeLines}
use Rattle.frame_row.specs.FrameRow.{pixels_of, is_visible, with_row}

-- A row put at a place: `part` is what lies after the place, once bytes are at its front.

module _ (d part : List ℕ) (at : ℕ) where
  put : (row : List ℕ) (n : ℕ) → part ≡ row ++ drop n (take (length d - at) (drop at d))
      → take at d ++ (part ++ drop (length d - at) (drop at d)) ≡ take at d ++ (row ++ drop (at + n) d)
  put row n e =
      let q : length (drop at d) ≤ length d - at = omega (arith, length-drop at d) in
      simp (drop_of_length-le (drop at d) {i = length d - at} q, append-nil, e, take_all (length d - at) (drop at d) q, drop-drop)

  pub put_copied : (row : List ℕ) (n : ℕ) → length row ≡ n → part ≡ take (length row) row ++ drop (length row) (take (length d - at) (drop at d))
      → take at d ++ (part ++ drop (length d - at) (drop at d)) ≡ take at d ++ (row ++ drop (at + n) d)
  put_copied row n h e = put row n (e ∙ ap (λ (l : List ℕ). l ++ drop (length row) (take (length d - at) (drop at d))) (take-length row) ∙ ap (λ (m : ℕ). row ++ drop m (take (length d - at) (drop at d))) h)

  pub put_used : (o : Output) (row : List ℕ) (n : ℕ) → o ≡ used n row → part ≡ buffer_after o (take (length d - at) (drop at d))
      → take at d ++ (part ++ drop (length d - at) (drop at d)) ≡ take at d ++ (row ++ drop (at + n) d)
  put_used o row n f e = put row n (e ∙ ap (λ (x : Output). buffer_after x (take (length d - at) (drop at d))) f)

-- The buffer with a row, by what is kept and the line's kind: a visible line's pixels; nothing of another line; the line whole.

module _ {k : Keeping} {o : Order} (e : k ≡ VisiblePixels o) (kept place kind : ℕ) (body d : List ℕ) where
  seen : Bool → List ℕ
  seen t = take kept d ++ (cond t (pixels_of o body) [] ++ drop (kept + cond t width 0) d)

  by_kind : with_row k kept place kind body d ≡ seen (is_visible kind)
  unfolding with_row seen
  by_kind = ap (λ (m : Keeping). with_row m kept place kind body d) e

  pub with_pixels : is_visible kind ≡ true → with_row k kept place kind body d ≡ take kept d ++ (pixels_of o body ++ drop (kept + width) d)
  unfolding seen
  with_pixels v = by_kind ∙ ap seen v

  pub with_nothing : is_visible kind ≡ false → with_row k kept place kind body d ≡ d
  unfolding seen
  with_nothing v =
      let z : kept + 0 ≡ kept = omega arith in
      by_kind ∙ ap seen v ∙ ap (λ (n : ℕ). take kept d ++ drop n d) z ∙ take-append-drop kept d

pub with_line_lem : {k : Keeping} → k ≡ WholeLines → (kept place kind : ℕ) (body d : List ℕ)
    → with_row k kept place kind body d ≡ take kept d ++ (((kind ∷ in_two place) ++ body) ++ drop (kept + line_size) d)
unfolding with_row
with_line_lem e kept place kind body d = ap (λ (m : Keeping). with_row m kept place kind body d) e

-- a text of n bytes, for which there is room
pub put_whole : (d v : List ℕ) {after : List ℕ} {at next : ℕ} (n : ℕ) → length v ≡ n → at + n ≤ length d → Puts d at v next after
    → after ≡ take at d ++ (v ++ drop (at + n) d)
put_whole d v {after} {at} n e h p =
    p.stored
    ∙ sets-eq v d at (omega (arith, e))
    ∙ append_assoc (take at d) v (drop (at + length v) d)
    ∙ ap (λ (k : ℕ). take at d ++ (v ++ drop (at + k) d)) e
