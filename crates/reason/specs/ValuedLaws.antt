-- A reason's number and values tell the reason: no two reasons have the same.
use Rattle.std.specs.Prelude.{◌≡◌, refl, cond, List, ℕ, eqb}
use Rattle.std.proofs.Common.{sym, ap, ◌∙◌}
use Rattle.refusal.specs.Refusal.{reserved_code, unfinished_line, wrong_length, bad_number, bad_body, no_end_of_line}
use Rattle.reason.specs.declared.Reason.{Reason}
use Rattle.reason.specs.declared.Reason.TheVariants.{GoodLine, GoodGap, DamagedCode, ReservedCode, UnfinishedLine, WrongLength, BadNumber, BadBody, NoEndOfLine, EndWithoutLine, BadGap, ShortGap, Refused}
use Rattle.reason.specs.Explanation.{explanation}
use Rattle.reason.specs.Valued.{Values, no_values, one_value, two_values, byte_and_sums, Valued, good_line, good_gap_lem, numbered, refused, valued, explanation_values}

-- the reason of a number and values
with_values : ℕ → Values → Reason
with_values n no_values = cond (eqb n reserved_code) ReservedCode (cond (eqb n unfinished_line) UnfinishedLine EndWithoutLine)
with_values n (one_value v) = cond (eqb n no_end_of_line) (NoEndOfLine v) (ShortGap v)
with_values n (two_values v w) = cond (eqb n wrong_length) (WrongLength v w) (cond (eqb n bad_number) (BadNumber v w) (cond (eqb n bad_body) (BadBody v w) (BadGap v w)))
with_values n (byte_and_sums byte sums) = DamagedCode byte sums

reason_for : Valued → Reason
reason_for good_line = GoodLine
reason_for good_gap_lem = GoodGap
reason_for (numbered n values) = with_values n values
reason_for (refused n) = Refused (record { 0 = n })

back : (r : Reason) → r ≡ reason_for (valued r)
unfolding reason_for with_values
back GoodLine = refl
back GoodGap = refl
back (DamagedCode byte sums) = refl
back ReservedCode = refl
back UnfinishedLine = refl
back (WrongLength found wanted) = refl
back (BadNumber place byte) = refl
back (BadBody place byte) = refl
back (NoEndOfLine code) = refl
back EndWithoutLine = refl
back (BadGap place nibble) = refl
back (ShortGap nibbles) = refl
back (Refused r) = refl

-- two reasons of the same number and values are one
pub same_reason : (r q : Reason) → valued r ≡ valued q → r ≡ q
same_reason r q h = back r ∙ ap reason_for h ∙ sym (back q)

-- so an answer that says what the explanation says is the explanation
pub explanation_told : (r : Reason) (p k : ℕ) (w : List ℕ) → valued r ≡ explanation_values p k w → r ≡ explanation p k w
unfolding explanation_values
explanation_told r p k w h = same_reason r (explanation p k w) h
