-- A sensor put into a buffer: what stands there once its registers are copied to the front, and its index and flag are stored behind them.
use Rattle.std.proofs.Common.{◌≡◌, ap, ◌∙◌, ℕ, ◌≤◌, length, List, ◌∷◌, ◌++◌, slice_set, arith}
use Rattle.std.specs.Prelude.{drop, get_or}
use Rattle.std.proofs.lemmas.List.{drop_more, set-append_right}

pub sensor_stored : (r b : List ℕ) (i f : ℕ) → length r ≡ 128 → 130 ≤ length b → slice_set (slice_set (r ++ drop 128 b) 128 i) 129 f ≡ r ++ (i ∷ f ∷ drop 130 b)
sensor_stored r b i f e h =
    let first : drop 128 b ≡ get_or b 128 0 ∷ drop 129 b = drop_more b 128 0 (omega (arith, h)) in
    let second : drop 129 b ≡ get_or b 129 0 ∷ drop 130 b = drop_more b 129 0 (omega (arith, h)) in
    let one : slice_set (r ++ drop 128 b) 128 i ≡ r ++ (i ∷ drop 129 b) =
    set-append_right r (drop 128 b) 128 128 i e (omega arith) ∙ ap (λ (l : List ℕ). r ++ slice_set l 0 i) first in
    ap (λ (l : List ℕ). slice_set l 129 f) one
    ∙ set-append_right r (i ∷ drop 129 b) 128 129 f e (omega arith)
    ∙ ap (λ (l : List ℕ). r ++ (i ∷ slice_set l 0 f)) second
