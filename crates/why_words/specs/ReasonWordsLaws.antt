-- How long the words of a reason can be.
use Rattle.std.specs.Prelude.{Bool, true, false, cond, List, ℕ, ◌+◌, ◌≤◌, eqb, length, None, Option, Some}
use Rattle.std.proofs.Common.{arith, length-append}
use Rattle.text.specs.Text.{ascii}
use Rattle.text.specs.TextLaws.{decimal_short}
use Rattle.line_code.specs.declared.Kind.{Kind}
use Rattle.line_code.specs.declared.Kind.TheVariants.{BL, BK, VL, SOF, EOF}
use Rattle.line_code.specs.LineCode.{reading_of, kind_of}
use Rattle.reason.specs.declared.FailedSums.{FailedSums}
use Rattle.reason.specs.declared.Reason.{Reason}
use Rattle.reason.specs.declared.Reason.TheVariants.{GoodLine, GoodGap, DamagedCode, ReservedCode, UnfinishedLine, WrongLength, BadNumber, BadBody, NoEndOfLine, EndWithoutLine, BadGap, ShortGap, Refused}
use Rattle.why_words.specs.ReasonWords.{kind_in_words, line_name, with_line_name, sum_word, sum_words, damaged_words, reserved_words, unfinished_words, length_words, bad_byte_words, end_words, count_words, long_line_words, answer_words, long_gap_words, good_gap_words, refused_number, explained_words}

kind_short : (k : Kind) → length (kind_in_words k) ≤ 20
kind_short BL = omega arith
kind_short BK = omega arith
kind_short VL = omega arith
kind_short SOF = omega arith
kind_short EOF = omega arith

name_short : (k : Option Kind) → length (line_name k) ≤ 20
name_short None = omega arith
name_short (Some k) = kind_short k

line_short : (words : List ℕ) (code : ℕ) → length (with_line_name words code) ≤ length words + 20
unfolding with_line_name
line_short words code = simp length-append (omega (arith, name_short (kind_of (reading_of code))))

pub either_short : (b : Bool) (v w : List ℕ) (n : ℕ) → length v ≤ n → length w ≤ n → length (cond b v w) ≤ n
either_short true v w n h g = h
either_short false v w n h g = g

sum_short : (b : Bool) (name : List ℕ) → length (sum_word b name) ≤ length name
unfolding sum_word
sum_short true name = omega arith
sum_short false name = omega arith

sums_short : (s : FailedSums) → length (sum_words s) ≤ 12
unfolding sum_words
sums_short s =
    simp length-append
    (omega (arith, sum_short s.p0 (ascii " P0"), sum_short s.p1 (ascii " P1"), sum_short s.p2 (ascii " P2"), sum_short s.p3 (ascii " P3")))

long_line_short : (refusal code : ℕ) → length (long_line_words refusal code) ≤ 120
unfolding long_line_words refused_number
long_line_short refusal code = simp length-append (omega (arith, decimal_short refusal, line_short (ascii ": ") code))

answer_short : (refusal : ℕ) → length (answer_words refusal) ≤ 40
unfolding answer_words refused_number
answer_short refusal = either_short (eqb refusal 0) _ _ 40 (omega arith) (simp length-append (omega (arith, decimal_short refusal)))

long_gap_short : (refusal : ℕ) → length (long_gap_words refusal) ≤ 120
unfolding long_gap_words
long_gap_short refusal = simp length-append (omega (arith, answer_short refusal))

pub reason_short : (cut : Bool) (refusal code : ℕ) (r : Reason) → length (explained_words cut refusal code r) ≤ 120
unfolding explained_words good_gap_words damaged_words reserved_words unfinished_words length_words bad_byte_words end_words count_words refused_number
reason_short cut refusal code GoodLine = omega (arith, line_short (ascii "good ") code)
reason_short cut refusal code GoodGap = either_short cut _ _ 120 (long_gap_short refusal) (omega arith)
reason_short cut refusal code (DamagedCode byte sums) = simp length-append (omega (arith, sums_short sums))
reason_short cut refusal code ReservedCode = simp length-append (omega arith)
reason_short cut refusal code UnfinishedLine =
    either_short cut _ _ 120 (long_line_short refusal code)
    (simp length-append (omega (arith, line_short (ascii "refused 3: ") code)))
reason_short cut refusal code (WrongLength found wanted) =
    simp length-append (omega (arith, line_short (ascii "refused 4: ") code, decimal_short found, decimal_short wanted))
reason_short cut refusal code (BadNumber place byte) = simp length-append (omega (arith, line_short (ascii "refused 5: ") code, decimal_short place))
reason_short cut refusal code (BadBody place byte) = simp length-append (omega (arith, line_short (ascii "refused 6: ") code, decimal_short place))
reason_short cut refusal code (NoEndOfLine next) = simp length-append (omega (arith, line_short (ascii "refused 7: ") code))
reason_short cut refusal code EndWithoutLine = omega arith
reason_short cut refusal code (BadGap place nibble) = simp length-append (omega (arith, decimal_short place))
reason_short cut refusal code (ShortGap nibbles) = simp length-append (omega (arith, decimal_short nibbles))
reason_short cut refusal code (Refused r) = simp length-append (omega (arith, decimal_short r.0))
