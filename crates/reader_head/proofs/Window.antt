-- The window as the code computes it: nibbles shifted out, and flushed.
use mathlib.Core.Path.{◌≡◌, ap, sym, ◌∙◌}
use mathlib.Core.List.{List}
use Prim.Native.Nat.{ℕ, zero, suc, ◌+◌, ◌-◌, ◌*◌, ◌/◌, ◌%◌, ◌^◌, ◌≤◌, ◌<◌}
use native.Mathlib.Omega.{arith}
use lib.Pow.{shr-shr}
use Rattle.profile.specs.declared.Profile.{Profile}
use Rattle.mark_text.specs.declared.Kept.{Kept}
use Rattle.mark_text.specs.MarkText.{kept_at, body_at}
use Rattle.reader_head.specs.declared.Head.{Head}
use Rattle.reader_head.specs.Head.{aged, shifted, flushed}

-- nibbles that leave at the new end are a shift
pub aged_shift : (k w : ℕ) → aged k w ≡ w / 2 ^ (4 * k)
aged_shift zero w = omega arith
aged_shift (suc k) w = aged_shift k (w / 16) ∙ shr-shr w 4 (4 * k) ∙ ap (λ (n : ℕ). w / 2 ^ n) (omega arith)

pub all_aged : (k w : ℕ) → k ≡ 8 → w < 4294967296 → 0 ≡ aged k w
all_aged k w e h =
    let z : 0 ≡ aged 8 w = omega arith in
    z ∙ ap (λ (n : ℕ). aged n w) (sym e)

pub flushed_next : (i : ℕ) (h : Head) → i < 8 → flushed (8 - i) h ≡ flushed (8 - (i + 1)) (shifted h 0)
flushed_next i h l =
    let e : 8 - i ≡ suc (8 - (i + 1)) = omega arith in
    ap (λ (n : ℕ). flushed n h) e

pub flushed_all : (i : ℕ) (h : Head) → 8 ≤ i → flushed (8 - i) h ≡ h
flushed_all i h l =
    let e : 8 - i ≡ 0 = omega arith in
    ap (λ (n : ℕ). flushed n h) e

-- a nibble is its own low four bits
low_four : {v w : ℕ} → (v ≡ w) × (v < 16) → v % 16 ≡ w
low_four e = omega (arith, e.0, e.1)

pub kept_nibble : (p : Profile) (k : ℕ) (t : Kept) {v w : ℕ} {r : Kept} → r ≡ kept_at p k (v % 16) t → (v ≡ w) × (v < 16) → r ≡ kept_at p k w t
kept_nibble p k t e f = e ∙ ap (λ (n : ℕ). kept_at p k n t) (low_four f)

pub body_nibble : (k : ℕ) (b : List ℕ) {v w : ℕ} {r : List ℕ} → r ≡ body_at k (v % 16) b → (v ≡ w) × (v < 16) → r ≡ body_at k w b
body_nibble k b e f = e ∙ ap (λ (n : ℕ). body_at k n b) (low_four f)
