-- What is told of a capture's signal: refused marks, repairs and periods. A count that is 0 has no line.
use Rattle.std.specs.Prelude.{cond, List, [], ◌++◌, ℕ, eqb, get_or}
use Rattle.text.specs.Text.{ascii, decimal}
use Rattle.signal_tally.specs.declared.Signal.{Signal}
use Rattle.spacing.specs.declared.Spacing.{Spacing}

-- a line with a count: the words before it, the count, the words after it
unfoldable pub count_line : List ℕ → ℕ → List ℕ → List ℕ
count_line before n after = cond (eqb n 0) [] (before ++ (decimal n ++ after))

-- a line with a count of what has a number: `refused: 4 x 12, wrong length`, `repaired: bit 0 x 3`
unfoldable pub numbered_line : List ℕ → ℕ → ℕ → List ℕ → List ℕ
numbered_line before number n after = cond (eqb n 0) [] (before ++ (decimal number ++ (ascii " x " ++ (decimal n ++ after))))

-- refused marks, by number: by their codes, lines, and ends of lines
unfoldable pub refused_count : ℕ → ℕ → List ℕ → List ℕ
refused_count number n after = numbered_line (ascii "refused: ") number n after

-- refused codes, by number
unfoldable pub refused_codes : List ℕ → List ℕ
refused_codes counts =
    refused_count 1 (get_or counts 1 0) (ascii ", damaged code\n")
    ++ refused_count 2 (get_or counts 2 0) (ascii ", reserved code\n")

-- refused lines, by number
unfoldable pub broken_lines : List ℕ → List ℕ
broken_lines counts =
    refused_count 3 (get_or counts 3 0) (ascii ", unfinished line\n")
    ++ (refused_count 4 (get_or counts 4 0) (ascii ", wrong length\n")
    ++ (refused_count 5 (get_or counts 5 0) (ascii ", bad number\n")
    ++ (refused_count 6 (get_or counts 6 0) (ascii ", bad byte in the body\n")
    ++ refused_count 7 (get_or counts 7 0) (ascii ", no end of line\n"))))

-- refused ends and gaps, by number
unfoldable pub refused_ends : List ℕ → List ℕ
refused_ends counts =
    refused_count 8 (get_or counts 8 0) (ascii ", end of line without a line\n")
    ++ refused_count 9 (get_or counts 9 0) (ascii ", bad gap\n")

-- refused marks, a line for each number
unfoldable pub refused_lines : List ℕ → List ℕ
refused_lines counts = refused_codes counts ++ (broken_lines counts ++ refused_ends counts)

-- repaired codes, by bit
unfoldable pub bit_line : ℕ → ℕ → List ℕ
bit_line bit n = numbered_line (ascii "repaired: bit ") bit n (ascii "\n")

-- repairs of bits 0 to 3
unfoldable pub low_bits : List ℕ → List ℕ
low_bits counts = bit_line 0 (get_or counts 0 0) ++ (bit_line 1 (get_or counts 1 0) ++ (bit_line 2 (get_or counts 2 0) ++ bit_line 3 (get_or counts 3 0)))

-- repairs of bits 4 to 7
unfoldable pub high_bits : List ℕ → List ℕ
high_bits counts = bit_line 4 (get_or counts 4 0) ++ (bit_line 5 (get_or counts 5 0) ++ (bit_line 6 (get_or counts 6 0) ++ bit_line 7 (get_or counts 7 0)))

-- repairs, a line for each bit
unfoldable pub repaired_lines : List ℕ → List ℕ
repaired_lines counts = low_bits counts ++ high_bits counts

-- the periods of the lines: those with a name, and the others from the least to the greatest
abbrev pub range_words : Spacing → List ℕ
range_words s = decimal s.least ++ (ascii " to " ++ (decimal s.greatest ++ ascii " nibbles\n"))

-- periods without a name
abbrev pub others_line : Spacing → List ℕ
others_line s = cond (eqb s.others 0) [] (ascii "other periods: " ++ (decimal s.others ++ (ascii ", " ++ range_words s)))

-- one line, or several
abbrev pub lines_noun : ℕ → List ℕ
lines_noun n = cond (eqb n 1) (ascii " line") (ascii " lines")

-- lines at a rate
unfoldable pub period_line : ℕ → List ℕ → List ℕ
period_line n rate = count_line (ascii "period: ") n (lines_noun n ++ rate)

-- the periods of lines
unfoldable pub period_lines : Spacing → List ℕ
period_lines s =
    period_line s.thirty (ascii " at 30 frames a second\n")
    ++ (period_line s.twentyfive (ascii " at 25 frames a second\n") ++ others_line s)

-- all of it
unfoldable pub signal_lines : Signal → List ℕ
signal_lines s = refused_lines s.refused ++ (repaired_lines s.repaired ++ period_lines s.spacing)
