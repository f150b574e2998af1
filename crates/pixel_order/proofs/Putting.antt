-- A line is put in its order byte by byte.
use mathlib.Core.Path.{◌≡◌, ap, ◌∙◌}
use mathlib.Core.List.{List, ◌++◌}
use Prim.Native.Nat.{ℕ, ◌+◌, ◌<◌, ◌≤◌}
use native.Mathlib.Nat.{zero-add}
use native.Mathlib.Numerals.{add-one}
use native.Mathlib.Omega.{arith}
use lib.ListN.{length, get_or, set, take, drop}
use lib.Seq.{take_all, paste-suc}
use Rattle.profile.specs.Profile.{width}
use Rattle.pixel_order.specs.declared.Way.{Way}
use Rattle.pixel_order.specs.PixelOrder.{source_of, reordered}
use Rattle.pixel_order.proofs.PixelOrderLaws.{reordered_length, reordered_at}

-- a buffer whose first i bytes are those of a line in order
abbrev pub filled : Way → List ℕ → List ℕ → ℕ → List ℕ
filled w bytes buffer i = take i (reordered w bytes) ++ drop i buffer

module _ (w : Way) (bytes buffer : List ℕ) where
  pub put_next : (to : List ℕ) (i source : ℕ) → i < width → width ≤ length buffer → to ≡ filled w bytes buffer i → source ≡ source_of w i
      → set to i (get_or bytes source 0) ≡ filled w bytes buffer (i + 1)
  put_next to i source h room e f =
      let g : i < length (reordered w bytes) = omega (arith, reordered_length w bytes) in
      simp (e, f, add-one, ← reordered_at w bytes i h) (simp zero-add at (paste-suc buffer 0 (reordered w bytes) i 0 (omega (arith, zero-add i)) g))

  pub put_all : (to : List ℕ) (i : ℕ) → i ≡ width → to ≡ filled w bytes buffer i → to ≡ reordered w bytes ++ drop width buffer
  put_all to i h e =
      e
      ∙ ap (filled w bytes buffer) h
      ∙ ap (λ (l : List ℕ). l ++ drop width buffer) (take_all width (reordered w bytes) (omega (arith, reordered_length w bytes)))
