-- How long the lines on a signal can be.
use Rattle.std.specs.Prelude.{◌≡◌, refl, Bool, true, false, cond, List, [], ◌++◌, ℕ, ◌+◌, ◌≤◌, eqb, length, get_or}
use Rattle.std.proofs.Common.{arith, length-append}
use Rattle.text.specs.Text.{ascii, decimal}
use Rattle.text.specs.TextLaws.{decimal_short}
use Rattle.signal_tally.specs.declared.Signal.{Signal}
use Rattle.spacing.specs.declared.Spacing.{Spacing}
use Rattle.signal_report.specs.SignalReport.{count_line, numbered_line, refused_count, refused_codes, broken_lines, refused_ends, refused_lines, bit_line, low_bits, high_bits, repaired_lines, range_words, others_line, lines_noun, period_line, period_lines, signal_lines}

-- a line with a count: its words and at most 20 digits
pub count_short : (before : List ℕ) (n : ℕ) (after : List ℕ) → length (count_line before n after) ≤ length before + 20 + length after
unfolding count_line
count_short before n after = either (eqb n 0)
  where
    either : (b : Bool) → length (cond b [] (before ++ (decimal n ++ after))) ≤ length before + 20 + length after
    either true = omega arith
    either false = simp length-append (omega (arith, decimal_short n))

-- a line with a number of one digit
numbered_short : (before : List ℕ) (k n : ℕ) (after : List ℕ) → length (decimal k) ≡ 1
    → length (numbered_line before k n after) ≤ length before + 24 + length after
unfolding numbered_line
numbered_short before k n after digit = either (eqb n 0)
  where
    either : (b : Bool) → length (cond b [] (before ++ (decimal k ++ (ascii " x " ++ (decimal n ++ after))))) ≤ length before + 24 + length after
    either true = omega arith
    either false = simp length-append (omega (arith, decimal_short n, digit))

refused_short : (c : List ℕ) → length (refused_lines c) ≤ 510
unfolding refused_lines refused_codes broken_lines refused_ends refused_count decimal
refused_short c =
    simp length-append
    (omega (
      arith,
      numbered_short (ascii "refused: ") 1 (get_or c 1 0) (ascii ", damaged code\n") refl,
      numbered_short (ascii "refused: ") 2 (get_or c 2 0) (ascii ", reserved code\n") refl,
      numbered_short (ascii "refused: ") 3 (get_or c 3 0) (ascii ", unfinished line\n") refl,
      numbered_short (ascii "refused: ") 4 (get_or c 4 0) (ascii ", wrong length\n") refl,
      numbered_short (ascii "refused: ") 5 (get_or c 5 0) (ascii ", bad number\n") refl,
      numbered_short (ascii "refused: ") 6 (get_or c 6 0) (ascii ", bad byte in the body\n") refl,
      numbered_short (ascii "refused: ") 7 (get_or c 7 0) (ascii ", no end of line\n") refl,
      numbered_short (ascii "refused: ") 8 (get_or c 8 0) (ascii ", end of line without a line\n") refl,
      numbered_short (ascii "refused: ") 9 (get_or c 9 0) (ascii ", bad gap\n") refl,
    ))

repaired_short : (c : List ℕ) → length (repaired_lines c) ≤ 320
unfolding repaired_lines low_bits high_bits bit_line decimal
repaired_short c =
    simp length-append
    (omega (
      arith,
      numbered_short (ascii "repaired: bit ") 0 (get_or c 0 0) (ascii "\n") refl,
      numbered_short (ascii "repaired: bit ") 1 (get_or c 1 0) (ascii "\n") refl,
      numbered_short (ascii "repaired: bit ") 2 (get_or c 2 0) (ascii "\n") refl,
      numbered_short (ascii "repaired: bit ") 3 (get_or c 3 0) (ascii "\n") refl,
      numbered_short (ascii "repaired: bit ") 4 (get_or c 4 0) (ascii "\n") refl,
      numbered_short (ascii "repaired: bit ") 5 (get_or c 5 0) (ascii "\n") refl,
      numbered_short (ascii "repaired: bit ") 6 (get_or c 6 0) (ascii "\n") refl,
      numbered_short (ascii "repaired: bit ") 7 (get_or c 7 0) (ascii "\n") refl,
    ))

others_short : (s : Spacing) → length (others_line s) ≤ 100
others_short s = either (eqb s.others 0)
  where
    either : (b : Bool) → length (cond b [] (ascii "other periods: " ++ (decimal s.others ++ (ascii ", " ++ range_words s)))) ≤ 100
    either true = omega arith
    either false = simp length-append (omega (arith, decimal_short s.others, decimal_short s.least, decimal_short s.greatest))

period_short : (n : ℕ) (rate : List ℕ) → length (period_line n rate) ≤ 34 + length rate
unfolding period_line
period_short n rate =
    omega (arith, count_short (ascii "period: ") n (lines_noun n ++ rate), length-append (lines_noun n) rate, noun_short (eqb n 1))
  where
    noun_short : (b : Bool) → length (cond b (ascii " line") (ascii " lines")) ≤ 6
    noun_short true = omega arith
    noun_short false = omega arith

periods_short : (s : Spacing) → length (period_lines s) ≤ 220
unfolding period_lines
periods_short s =
    simp length-append
    (omega (
      arith,
      period_short s.thirty (ascii " at 30 frames a second\n"),
      period_short s.twentyfive (ascii " at 25 frames a second\n"),
      others_short s,
    ))

-- all of them
pub signal_short : (s : Signal) → length (signal_lines s) ≤ 1050
unfolding signal_lines
signal_short s = simp length-append (omega (arith, refused_short s.refused, repaired_short s.repaired, periods_short s.spacing))
