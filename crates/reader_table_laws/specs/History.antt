-- Histories of the table (02, A12): calls of technicians on one table, and what each is told. Definitions only.
use Rattle.std.specs.Prelude.{◌≡◌, cond, List, [], ◌∷◌, ℕ, eqb}
use Rattle.profile.specs.declared.Profile.{Profile}
use Rattle.stream.specs.declared.Answer.{Answer}
use Rattle.reader.specs.declared.Reader.{Reader}
use Rattle.reader.specs.Reader.{fresh_reader}
use Rattle.refinement.specs.Runs.{RunCall, on_runs}
use Rattle.reader_table.specs.declared.ReaderTable.{ReaderTable}
use Rattle.reader_table.specs.Table.{Placing, PlaceOpened, open_place_of, PlaceCalled, call_place_of, close_place_of}

-- a reader that calls of its own reach, from a fresh one
pub record OwnCalls (r : Reader) : Type 0 where
  pub profile : Profile
  pub calls : List RunCall
  pub reached : r ≡ on_runs (fresh_reader profile) calls

-- what is asked of the table: a reader of the profile with this number; a feed, run or finish of a place, with the buffer lent; or that a
-- place is closed
pub data TableRequest : Type 0 where
  to_open : ℕ → TableRequest
  to_read : ℕ → RunCall → TableRequest
  to_close : ℕ → TableRequest

-- a call: the technician's number, and the request
pub record TableCall : Type 0 where
  pub who : ℕ
  pub request : TableRequest

-- what a call is told: an opening's answer; or an answer, how many nibbles a run took, and the lent buffer as it is then
pub data TableReply : Type 0 where
  open_reply : Placing → TableReply
  call_reply : Answer → ℕ → List ℕ → TableReply

-- the table after a call, and what the call is told
pub record TableServed : Type 0 where
  pub table : ReaderTable
  pub told : TableReply

-- an opening, served
abbrev pub served_opening : PlaceOpened → TableServed
served_opening a = record { table = a.table; told = open_reply a.placing }

-- a call of a place, served
abbrev pub served : PlaceCalled → TableServed
served a = record { table = a.table; told = call_reply a.answer a.taken a.buffer }

-- a request, served
abbrev pub serve : ReaderTable → ℕ → TableRequest → TableServed
serve t who (to_open n) = served_opening (open_place_of t who n)
serve t who (to_read i c) = served (call_place_of t who i c)
serve t who (to_close i) = served (close_place_of t who i)

-- the table after a history
abbrev pub table_after : ReaderTable → List TableCall → ReaderTable
table_after t [] = t
table_after t (c ∷ h) = table_after (serve t c.who c.request).table h

-- One technician's part of a history.

-- what they are told, in order, from the table t on
abbrev pub told_to : ℕ → ReaderTable → List TableCall → List TableReply
told_to who t [] = []
told_to who t (c ∷ h) =
    let s : TableServed = serve t c.who c.request in
    cond (eqb c.who who) (s.told ∷ told_to who s.table h) (told_to who s.table h)

-- the openings' answers among it
abbrev pub openings_in : List TableReply → List Placing
openings_in [] = []
openings_in (open_reply o ∷ ts) = o ∷ openings_in ts
openings_in (call_reply a n buffer ∷ ts) = openings_in ts
