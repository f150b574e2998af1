-- What an exported call gives back: its number, and what was lent to it.
use Rattle.std.specs.Prelude.{◌≡◌, Bool, true, false, List, ℕ, Err, Ok, Result}
use Rattle.lent_buffer.specs.Filled.{Output, answer_for, buffer_after}
use Rattle.refusal.specs.declared.Refusal.{Refusal}

-- Calls that fill a lent buffer: 0 or the refusal, and how much is filled.

-- the answer's number: 0, or the refusal
abbrev pub written_number : Result ℕ Refusal → ℕ
written_number (Ok n) = 0
written_number (Err r) = r.0

-- the length used, 0 with a refusal
abbrev pub written_count : Result ℕ Refusal → ℕ
written_count (Ok n) = n
written_count (Err r) = 0

-- the buffer is left as by every call that fills one
pub record WriteGives (o : Output) (answer written : ℕ) (before after : List ℕ) : Type 0 where
  pub says : answer ≡ written_number (answer_for o)
  pub count : written ≡ written_count (answer_for o)
  pub leaves : after ≡ buffer_after o before

-- Calls on a state in lent bytes.

-- a bool as a byte of it
abbrev pub bit_of : Bool → ℕ
bit_of true = 1
bit_of false = 0

-- the answer, and the state afterwards
pub record Called : Type 0 where
  pub answer : ℕ
  pub state : List ℕ

-- what a call on lent bytes gives: its answer, and the bytes as it leaves them
pub record StateGives (c : Called) (answer : ℕ) (state : List ℕ) : Type 0 where
  pub says : answer ≡ c.answer
  pub keeps : state ≡ c.state
