-- Marks found in a capture (02, A9), piece by piece: each with its number, its place, the reader's answer to it, and its own bytes.
use Rattle.std.specs.Prelude.{◌≡◌, Bool, true, false, cond, List, ℕ, ◌+◌, ◌-◌, ◌/◌, ◌%◌, min, eqb, ltb, length, take, drop}
use Rattle.std.proofs.lemmas.List.Edits.{sets}
use Rattle.counts.specs.Counts.{greatest_count, one_more}
use Rattle.line_code.specs.LineCode.{kind_number}
use Rattle.profile.specs.declared.Profile.{Profile}
use Rattle.profile.specs.Profile.{longest}
use Rattle.stream.specs.declared.Answer.{Answer}
use Rattle.stream.specs.declared.Answer.TheVariants as answer
use Rattle.stream.specs.declared.Before.{Before}
use Rattle.stream.specs.declared.Before.TheVariants.{NoLine, RefusedLine, HandedOut}
use Rattle.stream.specs.declared.Mark.{Mark}
use Rattle.stream.specs.declared.Mark.TheVariants.{NoMark, Open}
use Rattle.stream.specs.Answers.{answer_for, is_answer}
use Rattle.reader.specs.declared.Reader.{Reader}
use Rattle.reader.specs.Reader.{fresh_reader}
use Rattle.run.specs.Run.{Ran}
use Rattle.capture_bytes.specs.Unpacked.{run_from}
use Rattle.mark_finder.specs.declared.Located.{Located}
use Rattle.mark_finder.specs.declared.Finder.{Finder}
use Rattle.mark_finder.specs.declared.FoundMark.{FoundMark}

-- a finder before a capture's first byte
abbrev pub fresh_finder : Profile → Finder
fresh_finder p = record { reader = fresh_reader p; number = 0; place = 0; low = false; offset = 0; begin = 0; length = 0 }

-- The open mark.

-- the paper's number of the kind that the mark before is, 0 for none
abbrev pub number_before : Before → ℕ
number_before NoLine = 0
number_before (RefusedLine k) = kind_number k
number_before (HandedOut k) = kind_number k

-- the kind of the mark before the open one, as a number
abbrev pub kind_before_it : Mark → ℕ
kind_before_it NoMark = 0
kind_before_it (Open before code) = number_before before

-- the number that an answer refuses with, 0 for a good line or gap
abbrev pub refusal_in : Answer → ℕ
refusal_in answer.Nothing = 0
refusal_in (answer.Line f) = 0
refusal_in (answer.Gap g) = 0
refusal_in (answer.Refused r) = r.0

-- with its answer: its place in the capture is counted without the four bytes of the end of line before it
abbrev pub located : Finder → Answer → Located
located f a =
    record {
      profile = f.reader.head.profile;
      before = kind_before_it f.reader.head.at;
      number = f.number;
      refusal = refusal_in a;
      place = f.place - 4;
      low = f.low;
    }

-- the mark whose code ends just before a nibble of the piece: it begins eight nibbles before that
abbrev pub opening_next : Finder → Reader → ℕ → Finder
opening_next f r next =
    record {
      reader = r;
      number = one_more f.number;
      place = min (f.offset + (next - 8) / 2) greatest_count;
      low = eqb ((next - 8) % 2) 1;
      offset = f.offset;
      begin = (next - 8) / 2;
      length = 0;
    }

-- Its bytes.

-- the bytes from one place up to another
abbrev pub span : List ℕ → ℕ → ℕ → List ℕ
span bytes from to = take (to - from) (drop from bytes)

-- those of a piece up to a place are put behind the ones that are kept, as far as there is room: how many there are then, and the buffer
abbrev pub kept_count : Finder → List ℕ → ℕ → List ℕ → ℕ
kept_count f piece to held = f.length + min (length (span piece f.begin to)) (length held - f.length)

-- the bytes kept of a mark, with those of a piece up to a place
abbrev pub kept_bytes : Finder → List ℕ → ℕ → List ℕ → List ℕ
kept_bytes f piece to held = sets held f.length (span piece f.begin to)

-- A call.

-- what it gives, and the buffer afterwards
pub record AfterFind : Type 0 where
  pub found : FoundMark
  pub buffer : List ℕ

-- a mark is answered by the nibble before a place: its bytes go on through that nibble's own
abbrev pub answering : Finder → List ℕ → ℕ → List ℕ → Ran → AfterFind
answering f piece next held t =
    record {
      found =
          record {
            finder = opening_next f t.reader next;
            taken = t.taken;
            answered = true;
            mark = located f (answer_for t.outcome);
            length = kept_count f piece (next / 2 + next % 2) held;
          };
      buffer = kept_bytes f piece (next / 2 + next % 2) held;
    }

-- none is
abbrev pub going_on : Finder → List ℕ → Ran → AfterFind
going_on f held t =
    record {
      found =
          record {
            finder =
                record {
                  reader = t.reader;
                  number = f.number;
                  place = f.place;
                  low = f.low;
                  offset = f.offset;
                  begin = f.begin;
                  length = f.length;
                };
            taken = t.taken;
            answered = false;
            mark = located f (answer_for t.outcome);
            length = f.length;
          };
      buffer = held;
    }

-- by what a run over the piece's nibbles from a place on gives
abbrev pub find_by : Finder → List ℕ → ℕ → List ℕ → Ran → AfterFind
find_by f piece from held t = cond (is_answer (answer_for t.outcome)) (answering f piece (from + t.taken) held t) (going_on f held t)

-- the search for the next mark's answer, from a nibble's place of a piece on
unfoldable pub find_of : Finder → List ℕ → ℕ → List ℕ → AfterFind
find_of f piece from held = find_by f piece from held (run_from f.reader.head f.reader.body piece from longest)

-- a call that gives, and leaves the buffer, so
pub record Finds (a : AfterFind) (r : FoundMark) (after : List ℕ) : Type 0 where
  pub gives : r ≡ a.found
  pub leaves : after ≡ a.buffer

-- A piece that is left.

-- what is left where a piece ends
pub record AfterPiece : Type 0 where
  pub finder : Finder
  pub buffer : List ℕ

-- all of its bytes from the mark's on are kept; the next piece begins with its last four
unfoldable pub end_piece_of : Finder → List ℕ → List ℕ → AfterPiece
end_piece_of f piece held =
    record {
      finder =
          record {
            reader = f.reader;
            number = f.number;
            place = f.place;
            low = f.low;
            offset = min (f.offset + (length piece - 4)) greatest_count;
            begin = 4;
            length = kept_count f piece (length piece) held;
          };
      buffer = kept_bytes f piece (length piece) held;
    }

-- what a call at a piece's end gives
pub record EndsPiece (a : AfterPiece) (r : Finder) (after : List ℕ) : Type 0 where
  pub gives : r ≡ a.finder
  pub leaves : after ≡ a.buffer

-- the last four of a buffer's first n bytes at its front; none where there are not so many
unfoldable pub last_four : List ℕ → ℕ → List ℕ
last_four buffer n = cond (ltb n 4) buffer (cond (ltb (length buffer) n) buffer (sets buffer 0 (take 4 (drop (n - 4) buffer))))

-- Which marks are told.

-- the one with the number wanted, or, where that is 0, each that is refused; mark 0 is none of the capture's
unfoldable pub is_wanted : Located → ℕ → Bool
is_wanted m wanted = cond (eqb m.number 0) false (cond (eqb wanted 0) (ltb 0 m.refusal) (eqb m.number wanted))
