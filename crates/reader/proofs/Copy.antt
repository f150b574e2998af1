-- A copy to the front of a list grows by one.
use mathlib.Core.Path.{◌≡◌, ap, sym, ◌∙◌}
use mathlib.Core.List.{List, [], ◌∷◌, ◌++◌, append_assoc}
use Prim.Native.Nat.{ℕ, suc, ◌+◌, ◌<◌}
use native.Mathlib.Nat.{le_of_lt}
use native.Mathlib.Numerals.{add-one}
use lib.ListN.{length, take, drop, get_or, set}
use lib.Seq.{drop-cons, take-suc, set_at, length-take-le}
use Rattle.reader.specs.Parts.{copied}

pub copied_next : (d s : List ℕ) (n : ℕ) → n < length d → n < length s → set (copied d s n) n (get_or s n 0) ≡ copied d s (n + 1)
copied_next d s n hd hs =
    ap (λ (l : List ℕ). set (take n s ++ l) n (get_or s n 0)) (drop-cons d n 0 hd)
    ∙ set_at (take n s) (get_or d n 0) (drop (suc n) d) (get_or s n 0) n (length-take-le n s (le_of_lt hs))
    ∙ sym (append_assoc (take n s) (get_or s n 0 ∷ []) (drop (suc n) d))
    ∙ ap (λ (l : List ℕ). l ++ drop (suc n) d) (sym (take-suc s n 0 hs))
    ∙ ap (λ (k : ℕ). copied d s k) (sym (add-one n))
