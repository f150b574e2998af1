-- Blanks, a word and a number, one character after another.
use Rattle.std.specs.Prelude.{◌≡◌, true, false, ◌&&◌, cond, List, ℕ, ◌+◌, ◌<◌, ◌≤◌, eqb, length, drop, get_or}
use Rattle.std.proofs.Common.{add-one, drop_of_length-le}
use Rattle.std.proofs.Math.Seq.{drop-cons}
use Rattle.named_value.specs.Number.{is_blank, past_blanks, ends_word, first_word_is, no_number, digit_onto, digits_onto, number_in, value_in}

module _ (word line : List ℕ) (i : ℕ) (h : i < length word) where
  pub starts_step : i < length line
      → first_word_is (drop i word) (drop i line) ≡ (eqb (get_or line i 0) (get_or word i 0) && first_word_is (drop (i + 1) word) (drop (i + 1) line))
  unfolding first_word_is
  starts_step l = rw (add-one i, drop-cons word i 0, drop-cons line i 0)

  pub starts_short : length line ≤ i → first_word_is (drop i word) (drop i line) ≡ false
  unfolding first_word_is
  starts_short l = rw (drop_of_length-le line, drop-cons word i 0)

pub starts_whole : (word line : List ℕ) (i : ℕ) → length word ≤ i → first_word_is (drop i word) (drop i line) ≡ ends_word (drop i line)
unfolding first_word_is
starts_whole word line i h = rw (drop_of_length-le word)

pub ends_line_lem : (line : List ℕ) (i : ℕ) → length line ≤ i → ends_word (drop i line) ≡ true
ends_line_lem line i h = rw (drop_of_length-le line)

module _ (line : List ℕ) (i : ℕ) (h : i < length line) where
  pub ends_blank : ends_word (drop i line) ≡ is_blank (get_or line i 0)
  ends_blank = rw (drop-cons line i 0)

  pub number_starts : number_in (drop i line) ≡ digits_onto 0 (drop i line)
  number_starts = rw (drop-cons line i 0)

  pub digits_step : (n : ℕ) → digits_onto n (drop i line) ≡ digits_onto (digit_onto n (get_or line i 0)) (drop (i + 1) line)
  digits_step n = rw (add-one i, drop-cons line i 0)

  pub blanks_step : past_blanks (drop i line) ≡ cond (is_blank (get_or line i 0)) (past_blanks (drop (i + 1) line)) (drop i line)
  blanks_step = rw (add-one i, drop-cons line i 0)

  pub value_step : value_in (drop i line) ≡ cond (is_blank (get_or line i 0)) (number_in (past_blanks (drop (i + 1) line))) no_number
  value_step = rw (add-one i, drop-cons line i 0)
