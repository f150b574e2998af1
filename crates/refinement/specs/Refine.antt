-- A reader that stands for a state of the meaning, and nibbles fed to it one by one. Definitions only.
use Rattle.std.specs.Prelude.{◌≡◌, List, [], ◌∷◌, ℕ, min, length, take, drop}
use Rattle.profile.specs.declared.Profile.{Profile}
use Rattle.profile.specs.Profile.{longest}
use Rattle.stream.specs.declared.Mark.{Mark}
use Rattle.stream.specs.Answers.{Outcome}
use Rattle.stream.specs.Stream.{State}
use Rattle.stream.specs.Nibbles.{AllNibbles}
use Rattle.reader_head.specs.declared.Head.{Head}
use Rattle.reader.specs.declared.Reader.{Reader}
use Rattle.reader_head.specs.Head.{count_stop}
use Rattle.reader.specs.Reader.{feed_of}
use Rattle.refinement.specs.Window.{num}
use Rattle.reader_laws.specs.Passing.{Ok}
use Rattle.refinement.specs.StoredText.{stored_kept, stored_body}

-- all but the body: the open mark, and the text
pub record SameHead (p : Profile) (h : Head) (m : Mark) (t : List ℕ) : Type 0 where
  pub profile_same : h.profile ≡ p
  pub at_same : h.at ≡ m
  pub count_same : h.count ≡ min (length t) count_stop
  pub window_same : h.window ≡ num (take 8 t)
  pub kept_same : h.kept ≡ stored_kept p (drop 8 t)
  pub small : AllNibbles t

-- all of it
pub record Same (p : Profile) (r : Reader) (s : State) : Type 0 where
  pub head_same : SameHead p r.head s.at s.text
  -- the body that stood there at the mark
  pub base : List ℕ
  pub base_length : length base ≡ longest
  pub body_same : r.body ≡ stored_body base (drop 8 s.text)

-- the reader stands for the state, and passes its own test
pub record Follows (p : Profile) (r : Reader) (s : State) : Type 0 where
  pub same : Same p r s
  pub ok : Ok r.head

-- feeding nibbles, one call each: the call with k nibbles still to come is lent a buffer of room k bytes
abbrev pub fed_reader : (ℕ → ℕ) → Reader → List ℕ → Reader
fed_reader room r [] = r
fed_reader room r (n ∷ w) = fed_reader room (feed_of r n (room (length w))).reader w

-- and what those calls bring
abbrev pub fed_outcomes : (ℕ → ℕ) → Reader → List ℕ → List Outcome
fed_outcomes room r [] = []
fed_outcomes room r (n ∷ w) = (feed_of r n (room (length w))).outcome ∷ fed_outcomes room (feed_of r n (room (length w))).reader w
