-- What the contracts of the run's private functions cite besides.
use Rattle.std.specs.Prelude.{◌≡◌, List, ℕ, ◌≤◌, length, drop}
use Rattle.stream.specs.declared.Answer.{Answer}
use Rattle.stream.specs.Answers.{answer_for, buffer_after}
use Rattle.reader_head.specs.declared.Head.{Head}
use Rattle.reader.specs.Reader.{reader_of}
use Rattle.run_ahead.specs.declared.Reached.{Reached}
use Rattle.run.specs.Run.{Ran, onward}

-- a run of a reader of these parts, from its first nibble on
abbrev pub ran_from : Head → List ℕ → List ℕ → Ran
ran_from h body w = onward (reader_of h body) w 0

-- what a run gives, in its parts: the head, the body, the count, the answer and the buffer
pub record Ends (t : Ran) (h : Head) (body : List ℕ) (taken : ℕ) (a : Answer) (before after : List ℕ) : Type 0 where
  pub next : h ≡ t.reader.head
  pub keeps : body ≡ t.reader.body
  pub count : taken ≡ t.taken
  pub says : a ≡ answer_for t.outcome
  pub leaves : after ≡ buffer_after t.outcome before

-- a run from the place i on, and from the place i' with what is read up to there, is the same
unfoldable pub Leads : List ℕ → Head → List ℕ → ℕ → Head → List ℕ → ℕ → Type 0
Leads s h body i h' body' i' = onward (reader_of h body) (drop i s) i ≡ onward (reader_of h' body') (drop i' s) i'

-- what reading ahead from a place gives: the run from there is the same, of the same profile, and the place is no earlier one and within the run
pub record Reaches (s : List ℕ) (h : Head) (body : List ℕ) (from : ℕ) (r : Reached) (body' : List ℕ) : Type 0 where
  pub leads : Leads s h body from r.head body' r.at
  pub same_profile : r.head.profile ≡ h.profile
  pub from_on : from ≤ r.at
  pub within : r.at ≤ length s
