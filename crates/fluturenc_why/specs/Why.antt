-- A reason in numbers (02, A9): the number, and up to two values in places of their own, of those that crate reason gives each reason.
use Rattle.std.specs.Prelude.{◌≡◌, ℕ, ◌+◌, ◌*◌}
use Rattle.exported_call.specs.LentCall.{bit_of}
use Rattle.reason.specs.declared.FailedSums.{FailedSums}
use Rattle.reason.specs.Valued.{Values, no_values, one_value, two_values, byte_and_sums, Valued, good_line, good_gap_lem, numbered, refused}

-- in place of a refusal's number
abbrev pub good_line_number : ℕ
good_line_number = 128

-- the number of a good gap, above every refusal
abbrev pub good_gap_number : ℕ
good_gap_number = 129

-- in place of a value that there is not: the greatest of 64 bits
abbrev pub no_value : ℕ
no_value = 0xFFFFFFFFFFFFFFFF

-- the number: 128 and 129 of what is good, the refusal's of anything else
abbrev pub valued_number : Valued → ℕ
valued_number good_line = good_line_number
valued_number good_gap_lem = good_gap_number
valued_number (numbered n _) = n
valued_number (refused n) = n

-- the parity sums that fail, as bits: P0 the lowest
abbrev pub sum_bits : FailedSums → ℕ
sum_bits s = bit_of s.p0 + 2 * bit_of s.p1 + 4 * bit_of s.p2 + 8 * bit_of s.p3

-- the first of some values, and the second, where there is one; of a damaged code the byte, and the parity sums
abbrev pub first_value : Values → ℕ
first_value no_values = no_value
first_value (one_value v) = v
first_value (two_values v w) = v
first_value (byte_and_sums byte sums) = byte

-- the second value of a reason, where there is one
abbrev pub second_value : Values → ℕ
second_value no_values = no_value
second_value (one_value v) = no_value
second_value (two_values v w) = w
second_value (byte_and_sums byte sums) = sum_bits sums

-- the first number beside the answer
abbrev pub valued_first : Valued → ℕ
valued_first good_line = no_value
valued_first good_gap_lem = no_value
valued_first (numbered n given) = first_value given
valued_first (refused n) = no_value

-- the second number beside the answer
abbrev pub valued_second : Valued → ℕ
valued_second good_line = no_value
valued_second good_gap_lem = no_value
valued_second (numbered n given) = second_value given
valued_second (refused n) = no_value

-- what the call gives: the number, and the two values in their places
pub record WhyGives (v : Valued) (answer first second : ℕ) : Type 0 where
  pub says : answer ≡ valued_number v
  pub one : first ≡ valued_first v
  pub two : second ≡ valued_second v
