-- Demand 2 at work at the reader's own calls: three lines that the writer writes, bits of the second one's codes flipped, and runs that a 10 stops.
-- No hypothesis of it is empty.
use Rattle.std.specs.Prelude.{◌≡◌, refl, Bool, true, List, [], ◌∷◌, ◌++◌, ℕ, length, take, drop}
use Rattle.std.proofs.Common.{◌∙◌, ap, arith, lit≤}
use Rattle.std.specs.Int.Count.{ones}
use Rattle.refusal.specs.Refusal.{damaged_code, end_without_line}
use Rattle.line_code.specs.declared.Kind.TheVariants.{BL, VL, SOF}
use Rattle.line_code.specs.declared.Repair.TheVariants.{Clean, Bit}
use Rattle.line_code.specs.LineCode.{clean_byte}
use Rattle.line_number.specs.LineNumber.{number_byte}
use Rattle.profile.specs.declared.Profile.{Profile}
use Rattle.profile.specs.declared.Profile.TheVariants.{VV5404, VV5300}
use Rattle.stream.specs.Answers.{refused}
use Rattle.stream.specs.Written.{Sent, written}
use Rattle.stream.specs.Nibbles.{nibbles_only}
use Rattle.recovery.specs.CleanAnswers.{line_read, gap_read}
use Rattle.recovery.proofs.Examples.{sample, sample_writable}
use Rattle.flip_laws.specs.Flips.{Flips, no_bit, one_bit, two_bits, end_code_place, Arrived, with_flips, arrived_with, unflipped, flip_answers}
use Rattle.demands.specs.DemandTwo.{answers_to, AllArrived, none_arrived, and_arrived}
use Rattle.demands.proofs.DemandTwoLaws.{demand_two}
use Rattle.demands.specs.Examples.{written_as, calls_on, calls_last, calls_taken, calls_finish}

-- Three lines, the second with bits of its codes flipped.

abbrev sof : Profile → Sent
sof p = sample p SOF 0

abbrev bl : Profile → Sent
bl p = sample p BL 3

abbrev vl : Profile → Sent
vl p = sample p VL 10

module _ (p : Profile) (start end : Flips) where
  abbrev second : Arrived
  second = arrived_with (bl p) start end

  abbrev three : List Arrived
  three = unflipped (sof p) ∷ second ∷ unflipped (vl p) ∷ []

  abbrev three_nibbles : List ℕ
  three_nibbles = written (sof p) ++ (with_flips p second (written (bl p)) ++ (written (vl p) ++ []))

  three_arrived : AllArrived p three three_nibbles
  three_arrived =
      and_arrived _ _ (written_as p (sof p) (sample_writable p SOF 0 (lit≤ tt)))
      (and_arrived _ _ (written_as p (bl p) (sample_writable p BL 3 (lit≤ tt)))
      (and_arrived _ _ (written_as p (vl p) (sample_writable p VL 10 (lit≤ tt))) none_arrived))

  three_answers : nibbles_only three_nibbles ≡ true → answers_to p (calls_on p three_nibbles) ≡ flip_answers true three
  three_answers h =
      let w = three_nibbles in
      ((demand_two p).lines_read three w three_arrived).alone (calls_on p w) (calls_last p w) (calls_taken p w h)
      ∙ ap (λ (b : Bool). flip_answers b three) (calls_finish p w)

-- Bit 5 of its start code and bit 0 of its end code.

abbrev bit5 : Flips
bit5 = one_bit 5 (lit≤ tt)

abbrev bit0 : Flips
bit0 = one_bit 0 (lit≤ tt)

-- in its nibbles 9D becomes BD, and 80 becomes 81
pub codes_flipped : (p : Profile)
    → (take 8 (with_flips p (second p bit5 bit0) (written (bl p))) ≡ 15 ∷ 15 ∷ 15 ∷ 15 ∷ 0 ∷ 0 ∷ 0xB ∷ 0xD ∷ [])
    × (take 2 (drop (end_code_place p) (with_flips p (second p bit5 bit0) (written (bl p)))) ≡ 0x8 ∷ 0x1 ∷ [])
unfolding clean_byte
codes_flipped VV5404 = (refl, refl)
codes_flipped VV5300 = (refl, refl)

one_each : (p : Profile) → nibbles_only (three_nibbles p bit5 bit0) ≡ true
unfolding clean_byte number_byte ones
one_each VV5404 = refl
one_each VV5300 = refl

-- each line and its gap come as sent, in order, and the two bits are named
pub both_repaired : (p : Profile)
    → answers_to p (calls_on p (three_nibbles p bit5 bit0))
    ≡ line_read (sof p) Clean Clean
    ∷ gap_read (sof p) (length (written (sof p)))
    ∷ line_read (bl p) (Bit 5) (Bit 0)
    ∷ gap_read (bl p) (length (written (bl p)))
    ∷ line_read (vl p) Clean Clean
    ∷ gap_read (vl p) 0
    ∷ []
both_repaired p = three_answers p bit5 bit0 (one_each p)

-- Bits 0 and 1 of its start code: 9E.

abbrev bits01 : Flips
bits01 = two_bits 0 1 (lit≤ tt) (lit≤ tt) (λ e. omega arith)

two_in_start : (p : Profile) → nibbles_only (three_nibbles p bits01 no_bit) ≡ true
unfolding clean_byte number_byte ones
two_in_start VV5404 = refl
two_in_start VV5300 = refl

-- 1 and 8 in its stead
pub start_lost : (p : Profile)
    → answers_to p (calls_on p (three_nibbles p bits01 no_bit))
    ≡ line_read (sof p) Clean Clean
    ∷ gap_read (sof p) (length (written (sof p)))
    ∷ refused damaged_code
    ∷ refused end_without_line
    ∷ line_read (vl p) Clean Clean
    ∷ gap_read (vl p) 0
    ∷ []
start_lost p = three_answers p bits01 no_bit (two_in_start p)
