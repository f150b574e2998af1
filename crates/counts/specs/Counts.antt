-- Counts, held at the greatest u64.
use Rattle.std.specs.Prelude.{Bool, true, ◌&&◌, cond, List, [], ◌∷◌, ℕ, ◌+◌, eqb, ltb, length, get_or, set}

-- where a count stops: the greatest u64
abbrev pub greatest_count : ℕ
greatest_count = 18446744073709551615

-- a count with one more, which stays at the greatest
unfoldable pub one_more : ℕ → ℕ
one_more n = cond (ltb n greatest_count) (n + 1) n

-- those of a list that are so, counted on from n
abbrev pub counting : {A : Type 0} → (A → Bool) → ℕ → List A → ℕ
counting which n [] = n
counting which n (x ∷ w) = counting which (cond (which x) (one_more n) n) w

-- counts side by side, with one more at a place: none where there is no such place
unfoldable pub one_more_at : List ℕ → ℕ → List ℕ
one_more_at counts i = cond (ltb i (length counts)) (set counts i (one_more (get_or counts i 0))) counts

-- all of them are 0
abbrev pub all_zero : List ℕ → Bool
all_zero [] = true
all_zero (n ∷ counts) = eqb n 0 && all_zero counts
