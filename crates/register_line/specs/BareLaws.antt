-- A line's characters that count, one after another; and they are no more than the line has.
use Rattle.std.specs.Prelude.{◌≡◌, refl, Bool, true, false, cond, List, [], ◌∷◌, ℕ, zero, suc, ◌+◌, ◌<◌, ◌≤◌, eqb, length, drop, get_or}
use Rattle.std.proofs.Common.{add-one, arith, drop-cons}
use Rattle.named_value.specs.Number.{is_blank}
use Rattle.register_line.specs.Bare.{hash, counted, bare_length}

-- where a line ends of which some characters are read, up to an end, and some that count are left
abbrev pub reach : ℕ → ℕ → ℕ → ℕ
reach i end zero = end
reach i end (suc n) = i + suc n

pub reach_start : (n : ℕ) → n ≡ reach 0 0 n
reach_start zero = refl
reach_start (suc n) = omega arith

reach_on : (i end n : ℕ) (blank : Bool) → reach i end (counted blank n) ≡ reach (i + 1) (cond blank end (i + 1)) n
reach_on i end zero true = refl
reach_on i end zero false = refl
reach_on i end (suc n) true = omega arith
reach_on i end (suc n) false = omega arith

module _ (line : List ℕ) (i : ℕ) (h : i < length line) where
  bare_step : bare_length (drop i line) ≡ cond (eqb (get_or line i 0) hash) 0 (counted (is_blank (get_or line i 0)) (bare_length (drop (i + 1) line)))
  bare_step = rw (add-one i, drop-cons line i 0)

  -- a comment ends the line
  pub reach_comment : (end : ℕ) → eqb (get_or line i 0) hash ≡ true → reach i end (bare_length (drop i line)) ≡ end
  reach_comment end e = simp (bare_step, e)

  -- another character is read
  pub reach_step : (end : ℕ) → eqb (get_or line i 0) hash ≡ false
      → reach i end (bare_length (drop i line)) ≡ reach (i + 1) (cond (is_blank (get_or line i 0)) end (i + 1)) (bare_length (drop (i + 1) line))
  reach_step end e = simp (bare_step, e) (reach_on i end (bare_length (drop (i + 1) line)) (is_blank (get_or line i 0)))

pub bare_within : (line : List ℕ) → bare_length line ≤ length line
bare_within [] = omega arith
bare_within (c ∷ line) = either (eqb c hash) (is_blank c) (bare_length line) (bare_within line)
  where
    either : (t blank : Bool) (n : ℕ) → n ≤ length line → cond t 0 (counted blank n) ≤ suc (length line)
    either true blank n h = omega arith
    either false true zero h = omega arith
    either false true (suc n) h = omega arith
    either false false n h = omega arith
