-- The table of readers that bytes hold, and what it is that calls on the bytes do as the table's own calls: definitions only.
use Rattle.std.specs.Prelude.{◌≡◌, false, cond, List, [], ◌∷◌, ℕ, zero, suc, ◌≤◌, ◌<◌, eqb, length}
use Rattle.exported_call.specs.LentCall.{Called}
use Rattle.recovery.specs.Calls.{done}
use Rattle.refinement.specs.Runs.{run, one}
use Rattle.reader_table.specs.declared.TablePlace.{TablePlace}
use Rattle.reader_table.specs.declared.ReaderTable.{ReaderTable}
use Rattle.reader_table.specs.Table.{nobody, place_for, free_place, place_count, place_at, Placing, at_place, not_placed, PlaceOpened, PlaceCalled, open_place_of, call_place_of, close_place_of}
use Rattle.exported_state.specs.State.{reader_in}
use Rattle.exported_numbers.specs.CallNumbers.{answer_number}
use Rattle.fluturenc.specs.Calls.{FeedCalled}
use Rattle.fluturenc.specs.CallLaws.{HoldsReader}
use Rattle.fluturenc_table.specs.TableBytes.{table_length, owner_at, state_at}
use Rattle.fluturenc_table.specs.TableCalls.{open_table, feed_table, finish_table, close_table}

-- the place with this owner and the reader that this state holds; a free one where nobody owns it, whatever the state
abbrev pub place_by : ℕ → List ℕ → TablePlace
place_by owner state = cond (eqb owner nobody) free_place (place_for owner (reader_in state))

-- k places from the place i on
abbrev pub places_held : ℕ → ℕ → List ℕ → List TablePlace
places_held zero i s = []
places_held (suc k) i s = place_by (owner_at s i) (state_at s i) ∷ places_held k (suc i) s

-- the table that bytes hold
abbrev pub table_in : List ℕ → ReaderTable
table_in s = record { places = places_held place_count 0 s }

-- a place's bytes that hold this place, and may be given to any call: of a place that is taken, the state holds a reader
pub record HoldsPlace (owner : ℕ) (state : List ℕ) (p : TablePlace) : Type 0 where
  pub read : place_by owner state ≡ p
  pub held : eqb owner nobody ≡ false → HoldsReader state (reader_in state)

-- bytes that hold this table, place by place
pub record HoldsTable (s : List ℕ) (t : ReaderTable) : Type 0 where
  pub room : table_length ≤ length s
  pub eight : length t.places ≡ place_count
  pub each : (i : ℕ) → i < place_count → HoldsPlace (owner_at s i) (state_at s i) (place_at t i)

-- A call on bytes, beside the table's own: the number that says its answer, the same count and line buffer, and bytes that hold the table after it.

-- what an opening is told, as a number: the place, or the refusal
abbrev pub placing_number : Placing → ℕ
placing_number (at_place i) = i
placing_number (not_placed n) = n

-- an exported opening is the table's own
pub record OpensAs (c : Called) (o : PlaceOpened) : Type 0 where
  pub says : c.answer ≡ placing_number o.placing
  pub keeps : HoldsTable c.state o.table

-- an exported run is the table's own
pub record FeedsAs (f : FeedCalled) (c : PlaceCalled) : Type 0 where
  pub says : f.answer ≡ answer_number c.answer
  pub count : f.taken ≡ c.taken
  pub leaves : f.line ≡ c.buffer
  pub keeps : HoldsTable f.state c.table

-- finish and close: no buffer is lent
pub record AnswersAs (f : Called) (c : PlaceCalled) : Type 0 where
  pub says : f.answer ≡ answer_number c.answer
  pub keeps : HoldsTable f.state c.table

-- every call on the bytes is the same call of the table
pub record ServesAs (s : List ℕ) (t : ReaderTable) : Type 0 where
  pub opening : (who n : ℕ) → OpensAs (open_table s who n) (open_place_of t who n)
  pub feeding : (who i : ℕ) (w line : List ℕ) → FeedsAs (feed_table s who i w line) (call_place_of t who i (run w line))
  pub finishing : (who i : ℕ) → AnswersAs (finish_table s who i) (call_place_of t who i (one done))
  pub closing : (who i : ℕ) → AnswersAs (close_table s who i) (close_place_of t who i)
