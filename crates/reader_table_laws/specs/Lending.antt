-- Histories in which line buffers are lent again and again (02, A12): each call names the buffer that it lends, a buffer holds what the calls
-- before have left there, and isolation as a statement. Definitions only.
use Rattle.std.specs.Prelude.{◌≡◌, Bool, true, cond, List, [], ◌∷◌, ℕ, eqb}
use Rattle.std.proofs.Math.Option.{Option, none, some}
use Rattle.recovery.specs.Calls.{feed, done}
use Rattle.refinement.specs.Runs.{run, one}
use Rattle.reader_table.specs.declared.ReaderTable.{ReaderTable}
use Rattle.reader_table.specs.Table.{empty_table}
use Rattle.reader_table_laws.specs.History.{TableRequest, to_open, to_read, to_close, TableCall, TableReply, open_reply, call_reply, TableServed, serve, told_to, openings_in}

-- what each line buffer holds, by the buffer's number
abbrev pub Buffers : Type 0
Buffers = ℕ → List ℕ

-- the same of every number, but for one
abbrev pub but : {A : Type 0} → (ℕ → A) → ℕ → A → ℕ → A
but v j x i = cond (eqb i j) x (v i)

-- what is asked: a reader of the profile with this number; of a place, that a nibble or a run of inputs is fed to it, with the number of the
-- buffer lent; that it is finished; that it is closed
pub data LendingRequest : Type 0 where
  request_open : (profile : ℕ) → LendingRequest
  request_feed : (place nibble buffer : ℕ) → LendingRequest
  request_run : (place : ℕ) (inputs : List ℕ) (buffer : ℕ) → LendingRequest
  request_finish : (place : ℕ) → LendingRequest
  request_close : (place : ℕ) → LendingRequest

-- a call: the technician's number, and the request
pub record LendingCall : Type 0 where
  pub who : ℕ
  pub request : LendingRequest

-- the buffer that a request lends
abbrev pub lends : LendingRequest → Option ℕ
lends (request_open n) = none
lends (request_feed i n b) = some b
lends (request_run i w b) = some b
lends (request_finish i) = none
lends (request_close i) = none

-- the request with what the buffer holds, as the table has it
abbrev pub request_in_full : Buffers → LendingRequest → TableRequest
request_in_full s (request_open n) = to_open n
request_in_full s (request_feed i n b) = to_read i (one (feed n (s b)))
request_in_full s (request_run i w b) = to_read i (run w (s b))
request_in_full s (request_finish i) = to_read i (one done)
request_in_full s (request_close i) = to_close i

-- the buffers after a call, by what it is told: the one that it lent is as the reply has it, and the others are as they were
abbrev pub buffers_after : Buffers → Option ℕ → TableReply → Buffers
buffers_after s none x = s
buffers_after s (some b) (open_reply o) = s
buffers_after s (some b) (call_reply a n buffer) = but s b buffer

-- a history as the table has it: each call with what its buffer holds then
abbrev pub history_in_full : ReaderTable → Buffers → List LendingCall → List TableCall
history_in_full t s [] = []
history_in_full t s (c ∷ h) =
    let q : TableRequest = request_in_full s c.request in
    let x : TableServed = serve t c.who q in
    record { who = c.who; request = q } ∷ history_in_full x.table (buffers_after s (lends c.request) x.told) h

-- what the buffers hold after it
abbrev pub buffers_left : ReaderTable → Buffers → List LendingCall → Buffers
buffers_left t s [] = s
buffers_left t s (c ∷ h) =
    let x : TableServed = serve t c.who (request_in_full s c.request) in
    buffers_left x.table (buffers_after s (lends c.request) x.told) h

-- One technician's part of a history.

-- what they ask, in order
abbrev pub requests_of : ℕ → List LendingCall → List LendingRequest
requests_of who [] = []
requests_of who (c ∷ h) = cond (eqb c.who who) (c.request ∷ requests_of who h) (requests_of who h)

-- what they are told, in order, from an empty table and these buffers on: a call's answer has the buffer as it is then
abbrev pub told_from : ℕ → Buffers → List LendingCall → List TableReply
told_from who s h = told_to who empty_table (history_in_full empty_table s h)

-- each technician's buffers are their own (`mine` says which those of who are): a buffer that a call lends is one of who's exactly when the call
-- is theirs
abbrev pub LendsOwn : (ℕ → Bool) → Bool → Option ℕ → Type 0
LendsOwn mine theirs none = Unit {0}
LendsOwn mine theirs (some b) = mine b ≡ theirs

-- a technician's calls lend the technician's own buffers alone
abbrev pub OwnBuffers : (ℕ → Bool) → ℕ → List LendingCall → Type 0
OwnBuffers mine who [] = Unit {0}
OwnBuffers mine who (c ∷ h) = LendsOwn mine (eqb c.who who) (lends c.request) × OwnBuffers mine who h

-- their buffers hold the same
abbrev pub SameBuffers : (ℕ → Bool) → Buffers → Buffers → Type 0
SameBuffers mine s z = (b : ℕ) → mine b ≡ true → s b ≡ z b

-- Isolation: in two histories from an empty table in which a technician makes the same calls in the same order, lending the same buffers, which
-- hold the same at first, with any other calls between, which lend others, and their openings get the same answers, everything that they are told,
-- and what their buffers hold at the end, are the same
abbrev pub Isolated : ℕ → Type 0
Isolated who =
    (mine : ℕ → Bool) (s z : Buffers) (h k : List LendingCall)
    → OwnBuffers mine who h
    → OwnBuffers mine who k
    → SameBuffers mine s z
    → requests_of who h ≡ requests_of who k
    → openings_in (told_from who s h) ≡ openings_in (told_from who z k)
    → (told_from who s h ≡ told_from who z k) × SameBuffers mine (buffers_left empty_table s h) (buffers_left empty_table z k)
