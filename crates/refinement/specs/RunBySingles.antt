-- A run, call by call (02, A5): what it gives back and how many nibbles it takes, told by feeding its inputs singly with its buffer.
-- Definitions only.
use Rattle.std.specs.Prelude.{◌≡◌, true, false, List, [], ◌∷◌, ◌++◌, ℕ, suc, ◌≤◌, ◌<◌, length}
use Rattle.refusal.specs.Refusal.{not_a_nibble, bad_state, no_room}
use Rattle.profile.specs.Profile.{body_length}
use Rattle.stream.specs.declared.Answer.{Answer}
use Rattle.stream.specs.declared.Answer.TheVariants as answers
use Rattle.reader.specs.declared.Reader.{Reader}
use Rattle.reader_head.specs.Head.{passes}
use Rattle.recovery.specs.Calls.{feed, CallResult}
use Rattle.refinement.specs.ReaderCalls.{reader_call}
use Rattle.run.specs.Run.{run_of}
use Rattle.refinement.specs.Runs.{run, run_result}

-- a call that leaves the buffer as it was
abbrev pub untouched : Reader → Answer → List ℕ → CallResult Reader
untouched r a buffer = record { reader = r; answer = a; buffer = buffer }

-- nibbles fed singly, each with the same buffer, of which none gives an answer: they lead from a reader to another, and leave the buffer as it was
pub data Quiet (buffer : List ℕ) : Reader → List ℕ → Reader → Type 0 where
  no_single : {r : Reader} → Quiet buffer r [] r
  and_single : {r next end : Reader} {n : ℕ} {w : List ℕ} → n ≤ 15 → reader_call r (feed n buffer) ≡ untouched next answers.Nothing buffer
      → Quiet buffer next w end → Quiet buffer r (n ∷ w) end

-- refused neither 11 nor 12
pub record Begins (r : Reader) (buffer : List ℕ) : Type 0 where
  pub passing : passes r.head ≡ true
  pub room : body_length r.head.profile ≤ length buffer

-- what a run of the inputs w gives back, and how many of them it takes
pub data RunDoes (r : Reader) (buffer : List ℕ) : List ℕ → CallResult Reader → ℕ → Type 0 where
  -- 11 and then 12, before anything is taken: of an empty run too
  bad_state_lem : {w : List ℕ} → passes r.head ≡ false → RunDoes r buffer w (untouched r (answers.Refused (record { 0 = bad_state })) buffer) 0
  no_room_lem : {w : List ℕ} → passes r.head ≡ true → length buffer < body_length r.head.profile
      → RunDoes r buffer w (untouched r (answers.Refused (record { 0 = no_room })) buffer) 0
  -- no single gives an answer: the run takes all of them and answers nothing; an empty one takes 0
  to_its_end : {w : List ℕ} {end : Reader} → Begins r buffer → Quiet buffer r w end
      → RunDoes r buffer w (untouched end answers.Nothing buffer) (length w)
  -- the first single that gives an answer: reader, answer and buffer are that single's, and it is the last one taken
  to_an_answer : (before after : List ℕ) (n : ℕ) {there : Reader} → Begins r buffer → Quiet buffer r before there → n ≤ 15
      → ((reader_call there (feed n buffer)).answer ≡ answers.Nothing → ⊥)
      → RunDoes r buffer (before ++ (n ∷ after)) (reader_call there (feed n buffer)) (suc (length before))
  -- an input above 15 before any answer: 10, just before that place; what was taken stays taken
  to_no_nibble : (before after : List ℕ) (n : ℕ) {there : Reader} → Begins r buffer → Quiet buffer r before there → 15 < n
      → RunDoes r buffer (before ++ (n ∷ after)) (untouched there (answers.Refused (record { 0 = not_a_nibble })) buffer) (length before)

-- a run's result and its count are these
abbrev pub RunIs : Reader → List ℕ → List ℕ → CallResult Reader → ℕ → Type 0
RunIs r w buffer c k = (run_result r (run w buffer) ≡ c) × ((run_of r w (length buffer)).taken ≡ k)
