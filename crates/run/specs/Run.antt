-- A run of nibbles in one call (02, A5): it goes on until the first answer, an input above 15, or the run's end.
use Rattle.std.specs.Prelude.{Bool, ◌||◌, not, cond, List, [], ◌∷◌, ℕ, suc, ◌+◌, eqb, leb, length}
use Rattle.refusal.specs.Refusal.{not_a_nibble, bad_state, no_room}
use Rattle.profile.specs.Profile.{body_length, longest}
use Rattle.stream.specs.Answers.{Outcome, nothing, refused, answer_for, is_answer}
use Rattle.reader_head.specs.declared.Head.{Head}
use Rattle.reader.specs.declared.Reader.{Reader}
use Rattle.reader_head.specs.Head.{passes}
use Rattle.reader.specs.Reader.{taking}

-- a reader after a run, what the run answered, and how many nibbles it took
pub record Ran : Type 0 where
  pub reader : Reader
  pub outcome : Outcome
  pub taken : ℕ

-- what a run gives
abbrev pub ran : Reader → Outcome → ℕ → Ran
ran r o i = record { reader = r; outcome = o; taken = i }

-- a run of which i nibbles are taken, from there on: an input above 15 stops it just before that place with 10; a nibble is taken, and stops
-- it where it brings an answer
abbrev pub onward : Reader → List ℕ → ℕ → Ran
onward r [] i = ran r nothing i
onward r (n ∷ w) i =
    cond (leb n 15)
    (cond (is_answer (answer_for (taking r n).outcome))
    (ran (taking r n).reader (taking r n).outcome (i + 1))
    (onward (taking r n).reader w (i + 1)))
    (ran r (refused not_a_nibble) i)

-- a run, with a buffer of so many bytes: 11, 12, before anything is taken; or as far as it goes
unfoldable pub run_of : Reader → List ℕ → ℕ → Ran
run_of r w room =
    cond (passes r.head)
    (cond (leb (body_length r.head.profile) room) (onward r w 0) (ran r (refused no_room) 0))
    (ran r (refused bad_state) 0)

-- a run of a reader whose body is lent: 11 also where that is not as long as the longest body
unfoldable pub lent_run_of : Head → List ℕ → List ℕ → ℕ → Ran
lent_run_of h body w room =
    let r : Reader = record { head = h; body = body } in
    cond (eqb (length body) longest) (run_of r w room) (ran r (refused bad_state) 0)

-- Where it stops.

-- at an input that is above 15, or that brings an answer when it is taken
unfoldable pub stops : Reader → ℕ → Bool
stops r n = not (leb n 15) || is_answer (answer_for (taking r n).outcome)

-- the place of the first input at which a run stops, from 0; the run's length where there is none
abbrev pub stop_place : Reader → List ℕ → ℕ
stop_place r [] = 0
stop_place r (n ∷ w) = cond (stops r n) 0 (suc (stop_place (taking r n).reader w))
