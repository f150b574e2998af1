-- What each exported call answers, and what it leaves in the buffers that it was lent.
use Rattle.std.specs.Prelude.{cond, List, ℕ, eqb, leb, ltb, length, None, Option, Some}
use Rattle.refusal.specs.Refusal.{bad_state, no_room}
use Rattle.exported_call.specs.LentCall.{Called}
use Rattle.profile.specs.declared.Profile.TheVariants.{VV5404}
use Rattle.profile.specs.Profile.{profile_numbered}
use Rattle.stream.specs.Answers.{refused, answer_for, buffer_after}
use Rattle.reader.specs.Reader.{fresh_reader, finish_of}
use Rattle.run.specs.Run.{Ran, ran, run_of}
use Rattle.frame_judge.specs.Frame.{judge_of}
use Rattle.exported_numbers.specs.CallNumbers.{answer_number, judge_number, judge_numbered, ruling_number}
use Rattle.exported_state.specs.State.{state_length, stored, holds_reader, reader_in}
use Rattle.profile.specs.declared.Profile.{Profile}

-- A call on a reader's state.

-- opening, by the profile that the number names: 11 for none, 12 for too few bytes
abbrev pub open_for : Option Profile → List ℕ → Called
open_for None s = record { answer = bad_state; state = s }
open_for (Some p) s =
    cond (leb state_length (length s)) (record { answer = 0; state = stored (fresh_reader p) s }) (record { answer = no_room; state = s })

-- 11, 12, or a fresh reader
unfoldable pub open_call : ℕ → List ℕ → Called
open_call profile s = open_for (profile_numbered profile) s

-- 11, or what finish answers, and the reader that it leaves
unfoldable pub finish_call : List ℕ → Called
finish_call s =
    cond (holds_reader s)
    (record { answer = answer_number (answer_for (finish_of (reader_in s)).outcome); state = stored (finish_of (reader_in s)).reader s })
    (record { answer = bad_state; state = s })

-- Feeding.

-- what a feeding call gives: answer, nibbles taken, state and line buffer
pub record FeedCalled : Type 0 where
  pub answer : ℕ
  pub taken : ℕ
  pub state : List ℕ
  pub line : List ℕ

-- a state after a run: as it was where nothing is taken, else with the run's reader
abbrev pub state_after : Ran → List ℕ → List ℕ
state_after t s = cond (eqb t.taken 0) s (stored t.reader s)

-- what a run gives, in numbers and bytes
abbrev pub feed_ran : Ran → List ℕ → List ℕ → FeedCalled
feed_ran t s line =
    record { answer = answer_number (answer_for t.outcome); taken = t.taken; state = state_after t s; line = buffer_after t.outcome line }

-- 11, or what a run of the reader that the state holds answers and leaves: of the state, the nibbles and the line buffer
unfoldable pub feed_call : List ℕ → List ℕ → List ℕ → FeedCalled
feed_call s w line = feed_ran (cond (holds_reader s) (run_of (reader_in s) w (length line)) (ran (reader_in s) (refused bad_state) 0)) s line

-- Judging.

-- what a call of the judge gives, in numbers
pub record JudgeCalled : Type 0 where
  pub answer : ℕ
  pub judge : ℕ

-- 11 for a number that is no judge's, or what the judge answers, and the judge that it leaves
unfoldable pub judge_call : ℕ → ℕ → ℕ → JudgeCalled
judge_call n kind number =
    cond (ltb n 0x30000)
    (record {
      answer = ruling_number (judge_of VV5404 (judge_numbered n) kind number).ruling;
      judge = judge_number (judge_of VV5404 (judge_numbered n) kind number).judge;
    })
    (record { answer = bad_state; judge = n })
