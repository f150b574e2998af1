-- The wrong readers and writers that 01 names ('How tight the statements are'), each by what every program of its sort does. Definitions only.
use Rattle.std.specs.Prelude.{◌≡◌, List, [], ◌∷◌, ◌++◌, ℕ, ◌≤◌, length, Err, Result}
use Rattle.lent_buffer.specs.Filled.{Gives}
use Rattle.profile.specs.declared.Profile.{Profile}
use Rattle.profile.specs.Profile.{body_length}
use Rattle.stream.specs.Answers.{outcome_of}
use Rattle.stream.specs.Written.{Sent}
use Rattle.writer.specs.WriterTable.{write_sent}
use Rattle.recovery.specs.Calls.{Call, feed, CallResult, takes, LineOut, line_in, on_lines}
use Rattle.refusal.specs.declared.Refusal.{Refusal}

-- Readers of the type R, by their calls.

module _ {R : Type 0} (on : R → Call → CallResult R) (p : Profile) where
  -- 10 and 12 come only where they are due: a nibble that is fed with room for a line is taken
  abbrev pub TakesNibbles : Type 0
  TakesNibbles = (r : R) (n : ℕ) (buffer w : List ℕ) → n ≤ 15 → body_length p ≤ length buffer → takes (on r (feed n buffer)).answer n w ≡ n ∷ w

  -- a reader that refuses each mark: no call hands out a line
  abbrev pub RefusesEachMark : Type 0
  RefusesEachMark = (r : R) (c : Call) → line_in (outcome_of p (on r c).answer (on r c).buffer) ≡ []

  -- one that reports the same line always: whatever comes out of the calls of r is the line l
  abbrev pub ReportsAlways : R → LineOut → Type 0
  ReportsAlways r l = (cs : List Call) (x : LineOut) (before after : List LineOut) → on_lines on p r cs ≡ before ++ (x ∷ after) → x ≡ l

  -- one that takes the first line truly and then copies it: of what comes out of the calls of r every later line is the first one
  abbrev pub CopiesFirst : R → Type 0
  CopiesFirst r = (cs : List Call) (first x : LineOut) (before after : List LineOut) → on_lines on p r cs ≡ first ∷ (before ++ (x ∷ after)) → x ≡ first

-- Writers, by what they answer for a line and a lent buffer, and what they leave in it.

-- what a call of a writer answers, and the buffer that it leaves
pub record WriteCall : Type 0 where
  pub answer : Result ℕ Refusal
  pub buffer : List ℕ

module _ (p : Profile) (write : Sent → List ℕ → WriteCall) where
  -- the table's answers, and the buffer as they say: what the writer's contract asks
  abbrev pub WritesByTable : Type 0
  WritesByTable = (s : Sent) (buffer : List ℕ) → Gives (write_sent p s (length buffer)) (write s buffer).answer buffer (write s buffer).buffer

  -- a writer that writes nothing
  abbrev pub WritesNothing : Type 0
  WritesNothing = (s : Sent) (buffer : List ℕ) → (write s buffer).buffer ≡ buffer

  -- one that always refuses
  abbrev pub RefusesAlways : Type 0
  RefusesAlways = (s : Sent) (buffer : List ℕ) → (n : ℕ) × ((write s buffer).answer ≡ Err (record { 0 = n }))
