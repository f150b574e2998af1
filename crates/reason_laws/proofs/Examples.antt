-- Runs and their reasons, computed: one of each reason, and the edges of 02's A9.
use Rattle.std.specs.Prelude.{◌≡◌, refl, true, false, List, [], ◌∷◌, ◌++◌, ℕ, replicate}
use Rattle.std.proofs.Common.{arith}
use Rattle.std.specs.Int.Count.{ones, ones_in}
use Rattle.line_code.specs.LineCode.{kind_numbered, reserved_of, meaning_of, reading_of}
use Rattle.line_number.specs.LineNumber.{number_good}
use Rattle.profile.specs.declared.Profile.{Profile}
use Rattle.profile.specs.Profile.{profile_numbered}
use Rattle.profile.specs.declared.Profile.TheVariants.{VV5404}
use Rattle.stream.specs.Answers.{require, good_gap}
use Rattle.stream.specs.Written.{nibbles, mark_of}
use Rattle.mark_text.specs.MarkText.{kept_at, stray_at}
use Rattle.mark_answer.specs.KeptAnswer.{kept_answer}
use Rattle.reader_head.specs.Head.{shows_mark, slide, bump, leave_kept, passes}
use Rattle.reader.specs.Reader.{fresh_reader, take_head, take_outcome}
use Rattle.run.specs.Run.{run_of}
use Rattle.refinement.specs.Runs.{RunCall, run, runs_taken, no_call, run_first}
use Rattle.reason.specs.declared.Reason.{Reason}
use Rattle.reason.specs.declared.Reason.TheVariants.{GoodLine, GoodGap, DamagedCode, ReservedCode, UnfinishedLine, WrongLength, BadNumber, BadBody, NoEndOfLine, EndWithoutLine, BadGap, ShortGap, Refused}
use Rattle.reason.specs.Sums.{failed_sums}
use Rattle.reason.specs.Explanation.{opener, code_at, number_reason, next_reason, line_reason, two_bytes_reason, reason_of, first_reason, run_reason, explanation}
use Rattle.reason_laws.specs.Short.{good_gap_lem, in_short, kind_before, is_answered, calls_give}
use Rattle.reason_laws.proofs.ReaderLaws.{number_of_the_calls}

-- a profile number, a kind number, a run, and its reason
pub record ReasonCase : Type 0 where
  pub profile : ℕ
  pub kind : ℕ
  pub run : List ℕ
  pub reason : Reason

abbrev case : ℕ → ℕ → List ℕ → Reason → ReasonCase
case p k w r = record { profile = p; kind = k; run = w; reason = r }

-- each case is explained as it says
unfoldable pub ExplanationsHold : List ReasonCase → Type 0
ExplanationsHold [] = Unit {0}
ExplanationsHold (c ∷ cs) = (explanation c.profile c.kind c.run ≡ c.reason) × ExplanationsHold cs

-- a line's mark with two number bytes and a body, then a mark
abbrev line_with : ℕ → ℕ → ℕ → List ℕ → ℕ → List ℕ
line_with code a b body next = mark_of code ++ (nibbles (a ∷ b ∷ body) ++ mark_of next)

-- cases of each reason
unfoldable pub examples : List ReasonCase
examples =
    -- refusals, in their order; 10 also behind the next mark's code; a mark's F are the last four
    case 2 6 (16 ∷ []) (Refused (record { 0 = 11 }))
    ∷ case 0 6 (16 ∷ []) (Refused (record { 0 = 13 }))
    ∷ case 0 0 (16 ∷ []) (Refused (record { 0 = 10 }))
    ∷ case 0 0 (mark_of 0x9D ++ (mark_of 0x80 ++ (15 ∷ 16 ∷ []))) (Refused (record { 0 = 10 }))
    ∷ case 0 0 [] (Refused (record { 0 = 36 }))
    ∷ case 0 0 (opener ++ (8 ∷ [])) (Refused (record { 0 = 36 }))
    ∷ case 0 0 (15 ∷ mark_of 0x9D) (Refused (record { 0 = 36 }))
    -- 1: FF, whose code lies on the next mark
    ∷ case 0 0 (opener ++ mark_of 0xC7) (DamagedCode 0xFF (record { p0 = false; p1 = true; p2 = true; p3 = true }))
    ∷ case 0 0 (mark_of 0x9E) (DamagedCode 0x9E (record { p0 = true; p1 = true; p2 = false; p3 = false }))
    -- 2, 3: 1D is a BL with bit 7 repaired
    ∷ case 0 0 (mark_of 0x1D) UnfinishedLine
    ∷ case 0 0 (mark_of 0xED) ReservedCode
    ∷ case 0 0 (mark_of 0x9D ++ (1 ∷ 2 ∷ [])) UnfinishedLine
    -- 4: the next mark may lie on the code
    ∷ case 0 0 (mark_of 0x9D ++ mark_of 0x80) (WrongLength 2 718)
    ∷ case 1 0 (opener ++ (9 ∷ mark_of 0x80)) (WrongLength 1 342)
    ∷ case 0 0 (line_with 0x9D 1 1 (replicate 357 7) 0x80) (WrongLength 720 718)
    -- 5, 6, 7, and a good line
    ∷ case 0 0 (line_with 0x9D 3 0 (replicate 356 0) 0x9D) (BadNumber 0 3)
    ∷ case 0 0 (line_with 0x9D 1 0x81 (replicate 356 0) 0x9D) (BadNumber 1 0x81)
    ∷ case 0 0 (line_with 0x9D 1 1 (replicate 355 7 ++ (8 ∷ [])) 0x9D) (BadBody 355 8)
    ∷ case 1 0 (line_with 0xB6 1 1 (7 ∷ 7 ∷ 1 ∷ 255 ∷ replicate 164 0) 0x9D) (BadBody 3 255)
    ∷ case 0 0 (line_with 0x9C 1 1 (replicate 356 7) 0x9D) (NoEndOfLine 0x9D)
    ∷ case 0 0 (line_with 0x9C 1 1 (replicate 356 7) 0x81) GoodLine
    -- 8, 9, and a good gap
    ∷ case 0 0 (mark_of 0x80 ++ (1 ∷ [])) EndWithoutLine
    ∷ case 0 1 (mark_of 0x80 ++ (15 ∷ 15 ∷ 15 ∷ 14 ∷ 0 ∷ [])) (BadGap 3 14)
    ∷ case 0 1 (mark_of 0x80 ++ mark_of 0x9D) GoodGap
    ∷ case 1 1 (mark_of 0x80 ++ (0 ∷ 8 ∷ 0 ∷ [])) (ShortGap 3)
    ∷ case 1 1 (mark_of 0x80 ++ nibbles (8 ∷ 9 ∷ [])) (BadGap 0 0)
    ∷ case 1 1 (mark_of 0x80 ++ nibbles (7 ∷ 8 ∷ [])) (BadGap 2 0)
    ∷ case 1 3 (mark_of 0x80 ++ (0 ∷ 8 ∷ 0 ∷ 9 ∷ 15 ∷ 14 ∷ [])) (BadGap 5 14)
    ∷ case 1 3 (mark_of 0x80 ++ (0 ∷ 8 ∷ 0 ∷ 9 ∷ 15 ∷ [])) GoodGap
    ∷ []

pub examples_hold : ExplanationsHold examples
unfolding ExplanationsHold examples explanation run_reason profile_numbered kind_numbered reserved_of meaning_of reading_of number_good ones ones_in code_at failed_sums number_reason next_reason line_reason two_bytes_reason reason_of first_reason
examples_hold =
    (refl, (refl, (refl, (refl, (refl, (refl, (refl, (refl, (refl, (refl, (refl, (refl, (refl, (refl, (refl, (refl, (refl, (refl, (refl, (refl, (refl, (refl, (refl, (refl, (refl, (refl, (refl, (refl, (refl, tt)))))))))))))))))))))))))))))

-- for each kind of the mark before, nibbles after which it is that kind: no mark, or a mark whose code is clean; 0 also after an end of line
pub each_kind : (p : Profile)
    → (kind_before p [] ≡ kind_numbered 0)
    × (kind_before p (mark_of 0x80) ≡ kind_numbered 0)
    × (kind_before p (mark_of 0x9D) ≡ kind_numbered 1)
    × (kind_before p (mark_of 0xAB) ≡ kind_numbered 2)
    × (kind_before p (mark_of 0xB6) ≡ kind_numbered 3)
    × (kind_before p (mark_of 0xC7) ≡ kind_numbered 4)
    × (kind_before p (mark_of 0xDA) ≡ kind_numbered 5)
unfolding reading_of meaning_of kind_numbered
each_kind p = (refl, refl, refl, refl, refl, refl, refl)

-- an end of line is answered without a finish where the next mark's code has come, and not where a nibble of it is still to come
pub next_code_answers : (is_answered (mark_of 0x80 ++ mark_of 0x9D) false ≡ true) × (is_answered (mark_of 0x80 ++ (opener ++ (9 ∷ []))) false ≡ false)
unfolding code_at
next_code_answers = (refl, refl)

-- two runs without a finish, which take a BL's mark, an end of line and the next mark's code: what they answer the end of line has the number of
-- its reason, a good gap
abbrev two_runs : List RunCall
two_runs = run (mark_of 0x9D ++ mark_of 0x80) (replicate 356 0) ∷ run (mark_of 0x9D) (replicate 356 0) ∷ []

two_runs_take : runs_taken (fresh_reader VV5404) two_runs ≡ mark_of 0x9D ++ (mark_of 0x80 ++ mark_of 0x9D)
unfolding run_of passes shows_mark slide bump leave_kept take_head take_outcome kept_at stray_at kept_answer require good_gap reading_of meaning_of kind_numbered
two_runs_take = refl

pub without_a_finish : in_short (calls_give VV5404 (mark_of 0x9D) (mark_of 0x80 ++ mark_of 0x9D) two_runs) ≡ good_gap_lem
unfolding explanation run_reason profile_numbered kind_numbered meaning_of reading_of code_at reason_of first_reason
without_a_finish =
    number_of_the_calls VV5404 (mark_of 0x9D) (mark_of 0x80 ++ mark_of 0x9D) 1 {cs = two_runs} (run_first (run_first no_call)) refl two_runs_take
    (omega arith) refl refl (each_kind VV5404).2
