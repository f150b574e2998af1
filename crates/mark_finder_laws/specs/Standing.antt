-- What a finder has found of a capture with an end of line before it (02, A9), whatever the pieces. Definitions only.
use Rattle.std.specs.Prelude.{◌≡◌, true, false, cond, List, [], ◌∷◌, ◌++◌, ℕ, ◌+◌, ◌-◌, ◌*◌, ◌/◌, ◌%◌, ◌≤◌, eqb, length, take, drop}
use Rattle.text.specs.Put.{Puts}
use Rattle.profile.specs.declared.Profile.{Profile}
use Rattle.stream.specs.Answers.{Outcome, answer_for, is_answer}
use Rattle.stream.specs.Stream.{fresh, run, outcomes}
use Rattle.stream.specs.Written.{nibbles}
use Rattle.recovery.specs.Calls.{mark_nibbles}
use Rattle.recovery.specs.CleanAnswers.{said}
use Rattle.refinement.specs.Refine.{Follows}
use Rattle.mark_finder.specs.declared.Located.{Located}
use Rattle.mark_finder.specs.declared.Finder.{Finder}
use Rattle.mark_finder.specs.MarkFinder.{kind_before_it, refusal_in, AfterFind}

-- the first piece: an end of line, as the finder's FRONT has it
abbrev pub front_piece : List ℕ
front_piece = 0xFF ∷ 0xFF ∷ 0x00 ∷ 0x80 ∷ []

-- the nibbles taken: those of the bytes before a piece, and of the piece up to a place
abbrev pub so_far : List ℕ → List ℕ → ℕ → List ℕ
so_far before piece from = nibbles before ++ take from (nibbles piece)

-- the answers that they bring from a fresh reader on, in order
abbrev pub answers : Profile → List ℕ → List Outcome
answers p w = said (outcomes p fresh w)

-- where the open mark begins: eight nibbles before the place at which the last answer came, counted on from nibble i, or s where none comes
abbrev pub begin_from : ℕ → ℕ → List Outcome → ℕ
begin_from s i [] = s
begin_from s i (o ∷ os) = begin_from (cond (is_answer (answer_for o)) (i + 1 - mark_nibbles) s) (i + 1) os

-- where the last mark of a text begins
abbrev pub begin_in : Profile → List ℕ → ℕ
begin_in p w = begin_from 0 0 (outcomes p fresh w)

-- a mark begins at a nibble: F F F F 0 0 and its code stand there
pub record BeginsAt (w : List ℕ) (i : ℕ) : Type 0 where
  pub high : ℕ
  pub low : ℕ
  pub rest : List ℕ
  pub there : drop i w ≡ 15 ∷ 15 ∷ 15 ∷ 15 ∷ 0 ∷ 0 ∷ high ∷ low ∷ rest

-- the bytes of the mark that begins at nibble `start`: the capture's own, from the one that it begins in up to a place of the piece. They are put
-- at the front of a buffer, as far as there is room, and n of them stand there
pub record KeepsBytes (before piece : List ℕ) (start to n : ℕ) (held : List ℕ) : Type 0 where
  pub older : List ℕ
  pub bytes : List ℕ
  pub splits : older ++ bytes ≡ before ++ take to piece
  pub older_is : length older ≡ start / 2
  pub base : List ℕ
  pub kept : Puts base 0 bytes n held

-- a finder has taken the bytes before a piece, and of the piece the nibbles up to a place: its reader is the meaning's; the open mark's number is
-- the count of the answers so far; its place is where it begins; and its bytes are kept
pub record StandsAt (p : Profile) (before piece : List ℕ) (from : ℕ) (f : Finder) (held : List ℕ) : Type 0 where
  pub follows : Follows p f.reader (run p fresh (so_far before piece from))
  pub number_is : f.number ≡ length (answers p (so_far before piece from))
  pub offset_is : f.offset ≡ length before
  pub place_is : f.place ≡ begin_in p (so_far before piece from) / 2
  pub low_is : f.low ≡ eqb (begin_in p (so_far before piece from) % 2) 1
  pub begins : f.begin ≤ from / 2 + from % 2
  pub keeps : KeepsBytes before piece (begin_in p (so_far before piece from)) f.begin f.length held

-- a mark that is told between two places of a piece: its answer is the one that the nibbles between bring; its number is the count of the answers
-- before; its place is where it begins, without the four bytes of the end of line; the kind of the mark before it is the reader's own; and its
-- bytes go through the byte of the last nibble, where the next mark's code ends
pub record TellsMark (p : Profile) (before piece : List ℕ) (from next : ℕ) (m : Located) (n : ℕ) (held : List ℕ) : Type 0 where
  pub answer : Outcome
  pub next_answer : answers p (so_far before piece next) ≡ answers p (so_far before piece from) ++ (answer ∷ [])
  pub refusal_is : m.refusal ≡ refusal_in (answer_for answer)
  pub number_is : m.number ≡ length (answers p (so_far before piece from))
  pub place_is : m.place ≡ begin_in p (so_far before piece from) / 2 - 4
  pub low_is : m.low ≡ eqb (begin_in p (so_far before piece from) % 2) 1
  pub before_is : m.before ≡ kind_before_it (run p fresh (so_far before piece from)).at
  pub keeps : KeepsBytes before piece (begin_in p (so_far before piece from)) (next / 2 + next % 2) n held

-- what a call gives: the finder stands where it went; a mark that it tells is the capture's; where it tells none, the piece is taken
pub record FindsNext (p : Profile) (before piece : List ℕ) (from : ℕ) (a : AfterFind) : Type 0 where
  pub stands : StandsAt p before piece (from + a.found.taken) a.found.finder a.buffer
  pub tells : a.found.answered ≡ true → TellsMark p before piece from (from + a.found.taken) a.found.mark a.found.length a.buffer
  pub ends : a.found.answered ≡ false → from + a.found.taken ≡ 2 * length piece
