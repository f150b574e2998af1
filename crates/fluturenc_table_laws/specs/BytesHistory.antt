-- Histories of calls on a table in bytes (02, A12): what is asked, what each technician is told in numbers, and isolation as a statement. Definitions
-- only.
use Rattle.std.specs.Prelude.{◌≡◌, Bool, cond, List, [], ◌∷◌, ℕ, ◌≤◌, eqb, length}
use Rattle.std.proofs.Math.Option.{Option, none, some}
use Rattle.reader_table_laws.specs.History.{TableReply, open_reply, call_reply}
use Rattle.reader_table_laws.specs.Lending.{Buffers, but, LendingRequest, request_open, request_run, request_finish, request_close, LendingCall, lends, OwnBuffers, SameBuffers}
use Rattle.exported_numbers.specs.CallNumbers.{answer_number}
use Rattle.fluturenc.specs.Calls.{FeedCalled}
use Rattle.fluturenc_table.specs.TableBytes.{table_length}
use Rattle.fluturenc_table.specs.TableCalls.{new_table, open_table, feed_table, finish_table, close_table}
use Rattle.fluturenc_table_laws.specs.TableHeld.{placing_number}

-- what is asked: a reader of the profile with this number; of a place, that it is fed nibbles, with the number of the line buffer lent, finished
-- or closed
pub data TableAsk : Type 0 where
  ask_open : ℕ → TableAsk
  ask_feed : (place : ℕ) (nibbles : List ℕ) (buffer : ℕ) → TableAsk
  ask_finish : ℕ → TableAsk
  ask_close : ℕ → TableAsk

-- a call: the technician's number, and what they ask
pub record BytesCall : Type 0 where
  pub who : ℕ
  pub ask : TableAsk

-- what a call is told: an opening's number; or the answer's number, how many nibbles were taken, and the line buffer as it is then
pub data BytesReply : Type 0 where
  open_number : ℕ → BytesReply
  call_number : ℕ → ℕ → List ℕ → BytesReply

-- the bytes after a call, and what it is told
pub record BytesServed : Type 0 where
  pub bytes : List ℕ
  pub told : BytesReply

-- a feed
abbrev pub served_feed : FeedCalled → BytesServed
served_feed f = record { bytes = f.state; told = call_number f.answer f.taken f.line }

-- a call on the bytes: a feed is lent the line buffer that it names, as it is then
abbrev pub bytes_serve : List ℕ → Buffers → ℕ → TableAsk → BytesServed
bytes_serve s lines who (ask_open n) = record { bytes = (open_table s who n).state; told = open_number (open_table s who n).answer }
bytes_serve s lines who (ask_feed i w b) = served_feed (feed_table s who i w (lines b))
bytes_serve s lines who (ask_finish i) = record { bytes = (finish_table s who i).state; told = call_number (finish_table s who i).answer 0 [] }
bytes_serve s lines who (ask_close i) = record { bytes = (close_table s who i).state; told = call_number (close_table s who i).answer 0 [] }

-- The same history, of the table.

-- what is asked of the table; a feed is a run
abbrev pub request_for : TableAsk → LendingRequest
request_for (ask_open n) = request_open n
request_for (ask_feed i w b) = request_run i w b
request_for (ask_finish i) = request_finish i
request_for (ask_close i) = request_close i

-- its calls
abbrev pub calls_for : List BytesCall → List LendingCall
calls_for [] = []
calls_for (c ∷ h) = record { who = c.who; request = request_for c.ask } ∷ calls_for h

-- what the table tells, in numbers
abbrev pub reply_for : TableReply → BytesReply
reply_for (open_reply p) = open_number (placing_number p)
reply_for (call_reply a n buffer) = call_number (answer_number a) n buffer

-- Line buffers.

-- after a call, by what it is told: the one that it lent is as the reply has it
abbrev pub lines_after : Buffers → Option ℕ → BytesReply → Buffers
lines_after lines none x = lines
lines_after lines (some b) (open_number n) = lines
lines_after lines (some b) (call_number a n line) = but lines b line

-- after a history
abbrev pub lines_left : List ℕ → Buffers → List BytesCall → Buffers
lines_left s lines [] = lines
lines_left s lines (c ∷ h) =
    let a : BytesServed = bytes_serve s lines c.who c.ask in
    lines_left a.bytes (lines_after lines (lends (request_for c.ask)) a.told) h

-- One technician's part of a history.

-- what they ask, in order
abbrev pub asks_of : ℕ → List BytesCall → List TableAsk
asks_of who [] = []
asks_of who (c ∷ h) = cond (eqb c.who who) (c.ask ∷ asks_of who h) (asks_of who h)

-- what they are told, in order, from these bytes and line buffers on
abbrev pub bytes_told : ℕ → List ℕ → Buffers → List BytesCall → List BytesReply
bytes_told who s lines [] = []
bytes_told who s lines (c ∷ h) =
    let a : BytesServed = bytes_serve s lines c.who c.ask in
    let later : List BytesReply = bytes_told who a.bytes (lines_after lines (lends (request_for c.ask)) a.told) h in
    cond (eqb c.who who) (a.told ∷ later) later

-- the openings' numbers among it
abbrev pub open_numbers : List BytesReply → List ℕ
open_numbers [] = []
open_numbers (open_number n ∷ rs) = n ∷ open_numbers rs
open_numbers (call_number a n line ∷ rs) = open_numbers rs

-- isolation, from the bytes of two new tables on: as `Isolated` of the table has it, with the openings' numbers
abbrev pub BytesIsolated : ℕ → Type 0
BytesIsolated who =
    (s z : List ℕ)
    → table_length ≤ length s
    → table_length ≤ length z
    → (mine : ℕ → Bool) (lines others : Buffers) (h k : List BytesCall)
    → OwnBuffers mine who (calls_for h)
    → OwnBuffers mine who (calls_for k)
    → SameBuffers mine lines others
    → asks_of who h ≡ asks_of who k
    → open_numbers (bytes_told who (new_table s).state lines h) ≡ open_numbers (bytes_told who (new_table z).state others k)
    → (bytes_told who (new_table s).state lines h ≡ bytes_told who (new_table z).state others k)
    × SameBuffers mine (lines_left (new_table s).state lines h) (lines_left (new_table z).state others k)
