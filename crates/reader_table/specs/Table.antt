-- The table of readers (02, A12): eight places, each free or a technician's, and what each call does. Definitions only.
use Rattle.std.specs.Prelude.{cond, List, [], ◌∷◌, ℕ, suc, eqb, ltb, length, get_or, set, replicate, Err, None, Ok, Option as Optional, Result, Some}
use Rattle.std.proofs.Math.Option.{Option, none, some}
use Rattle.refusal.specs.Refusal.{bad_state, no_such_technician, no_place_free, place_not_held}
use Rattle.refusal.specs.declared.Refusal.{Refusal}
use Rattle.profile.specs.declared.Profile.{Profile}
use Rattle.profile.specs.declared.Profile.TheVariants.{VV5404}
use Rattle.profile.specs.Profile.{profile_numbered}
use Rattle.stream.specs.declared.Answer.{Answer}
use Rattle.stream.specs.Answers.{nothing, refused, answer_for}
use Rattle.reader.specs.declared.Reader.{Reader}
use Rattle.reader.specs.Reader.{fresh_reader}
use Rattle.run.specs.Run.{run_of}
use Rattle.refinement.specs.ReaderCalls.{lent}
use Rattle.refinement.specs.Runs.{RunCall, run, one, run_result}
use Rattle.technician.specs.Technician.{is_technician}
use Rattle.reader_table.specs.declared.TablePlace.{TablePlace}
use Rattle.reader_table.specs.declared.ReaderTable.{ReaderTable}

-- Places.

-- the owner of a free place
abbrev pub nobody : ℕ
nobody = 0

-- a place held by a technician
abbrev pub place_for : ℕ → Reader → TablePlace
place_for who r = record { owner = who; reader = r }

-- a place that is free
abbrev pub free_place : TablePlace
free_place = place_for nobody (fresh_reader VV5404)

-- how many places a table has (02, A12)
abbrev pub place_count : ℕ
place_count = 8

-- all places are free
abbrev pub empty_table : ReaderTable
empty_table = record { places = replicate place_count free_place }

-- the place with this number; one that is not there counts as free
unfoldable pub place_at : ReaderTable → ℕ → TablePlace
place_at t i = get_or t.places i free_place

-- the table with another place at this number
unfoldable pub with_place : ReaderTable → ℕ → TablePlace → ReaderTable
with_place t i p = record { places = set t.places i p }

-- all that a technician sees of a place: its reader where it is theirs, and none where it is another's, free or not there
unfoldable pub held_by : ReaderTable → ℕ → ℕ → Option Reader
held_by t who i = cond (eqb (place_at t i).owner who) (some (place_at t i).reader) none

-- the lowest free place; the count of places where all are taken
abbrev pub lowest_free : List TablePlace → ℕ
lowest_free [] = 0
lowest_free (p ∷ ps) = cond (eqb p.owner nobody) 0 (suc (lowest_free ps))

-- Opening: 32, 11, 33, or a fresh reader in the lowest free place.

-- what an opening is told: the place that it is given, or a refusal with its number
pub data Placing : Type 0 where
  at_place : ℕ → Placing
  not_placed : ℕ → Placing

-- the program's answer that says this
abbrev pub opening_for : Placing → Result ℕ Refusal
opening_for (at_place i) = Ok i
opening_for (not_placed n) = Err (record { 0 = n })

-- the table after an opening, and what it is told
pub record PlaceOpened : Type 0 where
  pub table : ReaderTable
  pub placing : Placing

-- a refused opening: the table stays
abbrev pub not_opened : ReaderTable → ℕ → PlaceOpened
not_opened t n = record { table = t; placing = not_placed n }

-- a fresh reader of this profile at a place
abbrev pub opens_at : ReaderTable → ℕ → Profile → ℕ → PlaceOpened
opens_at t who p i = record { table = with_place t i (place_for who (fresh_reader p)); placing = at_place i }

-- the lowest free place is opened; 33 where there is none
unfoldable pub open_place : ReaderTable → ℕ → Profile → PlaceOpened
open_place t who p =
    let lowest : ℕ = lowest_free t.places in
    cond (ltb lowest (length t.places)) (opens_at t who p lowest) (not_opened t no_place_free)

-- an opening, by the profile that the number names; 11 for none
abbrev pub open_numbered : ReaderTable → ℕ → Optional Profile → PlaceOpened
open_numbered t who (Some p) = open_place t who p
open_numbered t who None = not_opened t bad_state

-- an opening: 32, 11, 33, or a place
unfoldable pub open_place_of : ReaderTable → ℕ → ℕ → PlaceOpened
open_place_of t who n = cond (is_technician who) (open_numbered t who (profile_numbered n)) (not_opened t no_such_technician)

-- A call of the reader in a place: 32, 34, or as the reader's own call.

-- the table after it, its answer, how many nibbles of a run were taken, and the lent buffer
pub record PlaceCalled : Type 0 where
  pub table : ReaderTable
  pub answer : Answer
  pub taken : ℕ
  pub buffer : List ℕ

-- a refused call: table and buffer stay
abbrev pub not_called : ReaderTable → ℕ → List ℕ → PlaceCalled
not_called t n buffer = record { table = t; answer = answer_for (refused n); taken = 0; buffer = buffer }

-- the buffer lent to a call
abbrev pub lent_to : RunCall → List ℕ
lent_to (run w buffer) = buffer
lent_to (one c) = lent c

-- how many nibbles of a run are taken; 0 of any other call
abbrev pub run_taken : Reader → RunCall → ℕ
run_taken r (run w buffer) = (run_of r w (length buffer)).taken
run_taken r (one c) = 0

-- a call of a place's reader, where the place is held; else 34
abbrev pub call_held : Option Reader → ReaderTable → ℕ → ℕ → RunCall → PlaceCalled
call_held none t who i c = not_called t place_not_held (lent_to c)
call_held (some r) t who i c =
    record {
      table = with_place t i (place_for who (run_result r c).reader);
      answer = (run_result r c).answer;
      taken = run_taken r c;
      buffer = (run_result r c).buffer;
    }

-- a call of a place: 32, 34, or as its reader answers
unfoldable pub call_place_of : ReaderTable → ℕ → ℕ → RunCall → PlaceCalled
call_place_of t who i c = cond (is_technician who) (call_held (held_by t who i) t who i c) (not_called t no_such_technician (lent_to c))

-- Closing: 32, 34, or the place is free.

-- a place that is held is freed; else 34
abbrev pub close_held : Option Reader → ReaderTable → ℕ → PlaceCalled
close_held none t i = not_called t place_not_held []
close_held (some r) t i = record { table = with_place t i free_place; answer = answer_for nothing; taken = 0; buffer = [] }

-- a close: 32, 34, or done
unfoldable pub close_place_of : ReaderTable → ℕ → ℕ → PlaceCalled
close_place_of t who i = cond (is_technician who) (close_held (held_by t who i) t i) (not_called t no_such_technician [])
