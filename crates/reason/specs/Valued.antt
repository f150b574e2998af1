-- The paper's number and values of each reason (02, A9).
use Rattle.std.specs.Prelude.{List, ℕ}
use Rattle.refusal.specs.Refusal.{damaged_code, reserved_code, unfinished_line, wrong_length, bad_number, bad_body, no_end_of_line, end_without_line, bad_gap}
use Rattle.reason.specs.declared.FailedSums.{FailedSums}
use Rattle.reason.specs.declared.Reason.{Reason}
use Rattle.reason.specs.declared.Reason.TheVariants as reason
use Rattle.reason.specs.Explanation.{explanation}

-- a reason's values: none, one, two, or a code byte and the parity sums that it fails
pub data Values : Type 0 where
  no_values : Values
  one_value : ℕ → Values
  two_values : ℕ → ℕ → Values
  byte_and_sums : ℕ → FailedSums → Values

-- a good line, a good gap, a mark's refusal with its number and values, or a refusal of the call itself
pub data Valued : Type 0 where
  good_line : Valued
  good_gap_lem : Valued
  numbered : ℕ → Values → Valued
  refused : ℕ → Valued

-- each reason: 1 with the byte and its parity sums, 4 with the nibbles found and wanted, 5, 6 and 9 with a place and what stands there, 7 with
-- the code that came. 9 of a gap under two bytes has its length alone. The refusals of the call itself have their number alone
abbrev pub valued : Reason → Valued
valued reason.GoodLine = good_line
valued reason.GoodGap = good_gap_lem
valued (reason.DamagedCode byte sums) = numbered damaged_code (byte_and_sums byte sums)
valued reason.ReservedCode = numbered reserved_code no_values
valued reason.UnfinishedLine = numbered unfinished_line no_values
valued (reason.WrongLength found wanted) = numbered wrong_length (two_values found wanted)
valued (reason.BadNumber place byte) = numbered bad_number (two_values place byte)
valued (reason.BadBody place byte) = numbered bad_body (two_values place byte)
valued (reason.NoEndOfLine code) = numbered no_end_of_line (one_value code)
valued reason.EndWithoutLine = numbered end_without_line no_values
valued (reason.BadGap place nibble) = numbered bad_gap (two_values place nibble)
valued (reason.ShortGap nibbles) = numbered bad_gap (one_value nibbles)
valued (reason.Refused r) = refused r.0

-- what a call says, in the paper's numbers and values: of a profile number, the number of the kind of the mark before, and the run
unfoldable pub explanation_values : ℕ → ℕ → List ℕ → Valued
explanation_values p k w = valued (explanation p k w)
