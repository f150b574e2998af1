-- Openings on a table's bytes (02, A12): the lowest free place, who may call a place, and demand 3 of each opening, as
-- statements. Definitions only.
use Rattle.std.specs.Prelude.{◌≡◌, cond, List, [], ◌∷◌, ◌++◌, map, ℕ, ◌≤◌, ◌<◌, eqb, length, take}
use Rattle.refusal.specs.Refusal.{no_place_free}
use Rattle.profile.specs.declared.Profile.{Profile}
use Rattle.stream.specs.Written.{Sent, AllWritable, stream}
use Rattle.recovery.specs.Calls.{changed}
use Rattle.reader_table.specs.Table.{nobody, place_count, empty_table}
use Rattle.reader_table_laws.specs.History.{TableCall}
use Rattle.reader_table_laws.specs.Lending.{Buffers, lends, history_in_full}
use Rattle.reader_table_laws.specs.Openings.{told_of, OpeningDemandThree}
use Rattle.reader_table_laws.specs.OwnPlaces.{OpenedIn}
use Rattle.fluturenc_table.specs.TableBytes.{owner_at, denial_at}
use Rattle.fluturenc_table_laws.specs.TableHeld.{table_in}
use Rattle.fluturenc_table_laws.specs.BytesHistory.{TableAsk, ask_open, ask_feed, ask_finish, ask_close, BytesCall, BytesReply, open_number, call_number, BytesServed, bytes_serve, request_for, calls_for, reply_for, lines_after}

-- The lowest free place.

-- a place of the bytes that is free
pub record FreeAt (s : List ℕ) (i : ℕ) : Type 0 where
  pub is_there : i < place_count
  pub is_free : owner_at s i ≡ nobody

-- what an opening is answered, by a technician and of a profile that there is: 33 where no place is free, or the lowest that is
pub data BytesOpensLowest (s : List ℕ) : ℕ → Type 0 where
  all_taken : ((i : ℕ) → FreeAt s i → ⊥) → BytesOpensLowest s no_place_free
  lowest_one : (i : ℕ) → FreeAt s i → ((j : ℕ) → j < i → FreeAt s j → ⊥) → BytesOpensLowest s i

-- The calls of one opening: its technician's feeds and finishes of the place, up to its finish or close.

-- the bytes after a history
abbrev pub bytes_left : List ℕ → Buffers → List BytesCall → List ℕ
bytes_left s lines [] = s
bytes_left s lines (c ∷ h) =
    let a : BytesServed = bytes_serve s lines c.who c.ask in
    bytes_left a.bytes (lines_after lines (lends (request_for c.ask)) a.told) h

-- what they are told
abbrev pub bytes_told_by : ℕ → TableAsk → BytesReply → List BytesReply → List BytesReply
bytes_told_by i (ask_open n) x later = later
bytes_told_by i (ask_feed j w b) x later = cond (eqb j i) (x ∷ later) later
bytes_told_by i (ask_finish j) x later = cond (eqb j i) (x ∷ []) later
bytes_told_by i (ask_close j) x later = cond (eqb j i) [] later

-- what one technician's calls of one place are told, of the bytes
abbrev pub bytes_told_of : ℕ → ℕ → List ℕ → Buffers → List BytesCall → List BytesReply
bytes_told_of who i s lines [] = []
bytes_told_of who i s lines (c ∷ h) =
    let a : BytesServed = bytes_serve s lines c.who c.ask in
    let later : List BytesReply = bytes_told_of who i a.bytes (lines_after lines (lends (request_for c.ask)) a.told) h in
    cond (eqb c.who who) (bytes_told_by i c.ask a.told later) later

-- the nibbles that they took: of each feed as many as it is told
abbrev pub bytes_taken_by : ℕ → TableAsk → BytesReply → List ℕ → List ℕ
bytes_taken_by i (ask_open n) x later = later
bytes_taken_by i (ask_feed j w b) (open_number m) later = later
bytes_taken_by i (ask_feed j w b) (call_number a n line) later = cond (eqb j i) (take n w ++ later) later
bytes_taken_by i (ask_finish j) x later = cond (eqb j i) [] later
bytes_taken_by i (ask_close j) x later = cond (eqb j i) [] later

-- the nibbles that one technician's calls of one place take, of the bytes
abbrev pub bytes_taken_of : ℕ → ℕ → List ℕ → Buffers → List BytesCall → List ℕ
bytes_taken_of who i s lines [] = []
bytes_taken_of who i s lines (c ∷ h) =
    let a : BytesServed = bytes_serve s lines c.who c.ask in
    let later : List ℕ = bytes_taken_of who i a.bytes (lines_after lines (lends (request_for c.ask)) a.told) h in
    cond (eqb c.who who) (bytes_taken_by i c.ask a.told later) later

-- Each calls only places they opened.

-- after a history from a new table's bytes, a technician is refused neither 32 nor 34 of a place exactly when the same history of the table has an
-- opening by them, answered with that place, and no later close of it by them
pub record BytesOnlyOpened (s : List ℕ) (lines : Buffers) (h : List BytesCall) (who i : ℕ) : Type 0 where
  pub granted_opened : denial_at (bytes_left s lines h) who i ≡ 0 → OpenedIn empty_table who i (history_in_full empty_table lines (calls_for h))
  pub opened_granted : OpenedIn empty_table who i (history_in_full empty_table lines (calls_for h)) → denial_at (bytes_left s lines h) who i ≡ 0

-- Demand 3.

-- the same history, of the table that the bytes hold
abbrev pub table_history : List ℕ → Buffers → List BytesCall → List TableCall
table_history s lines h = history_in_full (table_in s) lines (calls_for h)

-- what demand 3 says of an opening in the history h, from the bytes s that it left: its calls are told the numbers of what the table tells them in
-- the same history, and of that demand 3 holds
pub record BytesDemandThree (p : Profile) (who i : ℕ) (s : List ℕ) (lines : Buffers) (ss : List Sent) (a b : ℕ) (new : List ℕ) (h : List BytesCall) : Type 0 where
  pub numbers : bytes_told_of who i s lines h ≡ map reply_for (told_of who i (table_in s) (table_history s lines h))
  pub demand_three : OpeningDemandThree p who i (table_in s) ss a b new (table_history s lines h)

-- demand 3 of an opening that left the bytes s: for every clean stream, every stretch and what stands in its place, and every history from there
-- on, whatever line buffers are lent, in which the nibbles that the place took, up to its finish or close, are the changed stream
abbrev pub BytesMeetDemandThree : Profile → ℕ → ℕ → List ℕ → Type 0
BytesMeetDemandThree p who i s =
    (lines : Buffers) (ss : List Sent)
    → AllWritable p ss
    → (a b : ℕ)
    → a ≤ b
    → b ≤ length (stream ss)
    → (new : List ℕ) (h : List BytesCall)
    → bytes_taken_of who i s lines h ≡ changed ss a b new
    → BytesDemandThree p who i s lines ss a b new h
