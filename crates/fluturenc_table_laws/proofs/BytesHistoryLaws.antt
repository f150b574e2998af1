-- Histories on bytes: each technician is told the numbers of what the table tells in the same history, so isolation holds of the bytes. An opening's
-- number says whether it is a place or a refusal: places are below 8, refusals are not.
use Rattle.std.specs.Prelude.{◌≡◌, refl, Bool, true, false, cond, List, [], ◌∷◌, map, ℕ, ◌≤◌, ◌<◌, eqb, ltb, length, get_or, drop, None, Option as Optional, Some}
use Rattle.std.proofs.Common.{sym, ap, ◌∙◌, suc-ne-zero, arith, ltb-true}
use Rattle.std.proofs.Math.Option.{Option, none, some}
use Rattle.refusal.specs.Refusal.{bad_state, no_such_technician, no_place_free}
use Rattle.profile.specs.declared.Profile.{Profile}
use Rattle.profile.specs.Profile.{profile_numbered}
use Rattle.reader.specs.declared.Reader.{Reader}
use Rattle.recovery.specs.Calls.{done}
use Rattle.refinement.specs.Runs.{one}
use Rattle.reader_table.specs.declared.ReaderTable.{ReaderTable}
use Rattle.technician.specs.Technician.{is_technician}
use Rattle.reader_table.specs.Table.{place_count, empty_table, held_by, lowest_free, Placing, at_place, not_placed, not_opened, opens_at, open_place, open_numbered, open_place_of, not_called, lent_to, call_held, call_place_of, close_held, close_place_of}
use Rattle.reader_table_laws.specs.History.{TableReply, open_reply, call_reply, TableServed, serve, told_to, openings_in}
use Rattle.reader_table_laws.specs.Lending.{Buffers, lends, request_in_full, buffers_after, history_in_full, buffers_left, requests_of, told_from}
use Rattle.reader_table_laws.proofs.Isolation.{isolation}
use Rattle.fluturenc_table.specs.TableCalls.{new_table}
use Rattle.fluturenc_table_laws.specs.TableHeld.{HoldsTable, placing_number}
use Rattle.fluturenc_table_laws.proofs.TableBytesLaws.{new_empty, bytes_serve_lem}
use Rattle.fluturenc_table_laws.specs.BytesHistory.{TableAsk, ask_open, ask_feed, ask_finish, ask_close, BytesCall, BytesReply, call_number, open_number, BytesServed, bytes_serve, lines_after, lines_left, asks_of, bytes_told, open_numbers, BytesIsolated, request_for, calls_for, reply_for}

-- One call.

same_numbers : {a b m n : ℕ} {v w : List ℕ} → a ≡ b → m ≡ n → v ≡ w → call_number a m v ≡ call_number b n w
same_numbers {a} {b} {m} {n} {v} {w} e f g =
    ap (λ (x : ℕ). call_number x m v) e ∙ ap (λ (x : ℕ). call_number b x v) f ∙ ap (λ (x : List ℕ). call_number b n x) g

-- finish and close take no nibbles, and are lent no buffer

finish_quiet : (t : ReaderTable) (who i : ℕ) → (0 ≡ (call_place_of t who i (one done)).taken) × ([] ≡ (call_place_of t who i (one done)).buffer)
unfolding call_place_of
finish_quiet t who i = go (is_technician who) (held_by t who i)
  where
    go : (a : Bool) (o : Option Reader)
        → (0 ≡ (cond a (call_held o t who i (one done)) (not_called t no_such_technician (lent_to (one done)))).taken)
        × ([] ≡ (cond a (call_held o t who i (one done)) (not_called t no_such_technician (lent_to (one done)))).buffer)
    go false o = (refl, refl)
    go true none = (refl, refl)
    go true (some r) = (refl, refl)

close_quiet : (t : ReaderTable) (who i : ℕ) → (0 ≡ (close_place_of t who i).taken) × ([] ≡ (close_place_of t who i).buffer)
unfolding close_place_of
close_quiet t who i = go (is_technician who) (held_by t who i)
  where
    go : (a : Bool) (o : Option Reader)
        → (0 ≡ (cond a (close_held o t i) (not_called t no_such_technician [])).taken) × ([] ≡ (cond a (close_held o t i) (not_called t no_such_technician [])).buffer)
    go false o = (refl, refl)
    go true none = (refl, refl)
    go true (some r) = (refl, refl)

module _ (s : List ℕ) (t : ReaderTable) (h : HoldsTable s t) (lines : Buffers) (who : ℕ) where
  pub told_same : (q : TableAsk) → (bytes_serve s lines who q).told ≡ reply_for (serve t who (request_in_full lines (request_for q))).told
  told_same (ask_open n) = ap open_number ((bytes_serve_lem s t h).opening who n).says
  told_same (ask_feed i w b) = let f = (bytes_serve_lem s t h).feeding who i w (lines b) in same_numbers f.says f.count f.leaves
  told_same (ask_finish i) = let k = finish_quiet t who i in same_numbers ((bytes_serve_lem s t h).finishing who i).says k.0 k.1
  told_same (ask_close i) = let k = close_quiet t who i in same_numbers ((bytes_serve_lem s t h).closing who i).says k.0 k.1

  pub after_held : (q : TableAsk) → HoldsTable (bytes_serve s lines who q).bytes (serve t who (request_in_full lines (request_for q))).table
  after_held (ask_open n) = ((bytes_serve_lem s t h).opening who n).keeps
  after_held (ask_feed i w b) = ((bytes_serve_lem s t h).feeding who i w (lines b)).keeps
  after_held (ask_finish i) = ((bytes_serve_lem s t h).finishing who i).keeps
  after_held (ask_close i) = ((bytes_serve_lem s t h).closing who i).keeps

  pub lines_same : (q : TableAsk)
      → lines_after lines (lends (request_for q)) (bytes_serve s lines who q).told
      ≡ buffers_after lines (lends (request_for q)) (serve t who (request_in_full lines (request_for q))).told
  lines_same q =
      ap (lines_after lines (lends (request_for q))) (told_same q) ∙ go (lends (request_for q)) (serve t who (request_in_full lines (request_for q))).told
    where
      go : (l : Option ℕ) (x : TableReply) → lines_after lines l (reply_for x) ≡ buffers_after lines l x
      go none x = refl
      go (some b) (open_reply p) = refl
      go (some b) (call_reply a n buffer) = refl

-- A history, from bytes that hold a table on.

pub history_told : (who : ℕ) (cs : List BytesCall) (s : List ℕ) (t : ReaderTable) (lines : Buffers) → HoldsTable s t
    → bytes_told who s lines cs ≡ map reply_for (told_to who t (history_in_full t lines (calls_for cs)))
history_told who [] s t lines h = refl
history_told who (c ∷ cs) s t lines h =
    go (eqb c.who who) (told_same s t h lines c.who c.ask)
    (ap (λ (u : Buffers). bytes_told who a.bytes u cs) (lines_same s t h lines c.who c.ask)
    ∙ history_told who cs a.bytes b.table after (after_held s t h lines c.who c.ask))
  where
    a : BytesServed
    a = bytes_serve s lines c.who c.ask

    b : TableServed
    b = serve t c.who (request_in_full lines (request_for c.ask))

    after : Buffers
    after = buffers_after lines (lends (request_for c.ask)) b.told

    xs : List BytesReply
    xs = bytes_told who a.bytes (lines_after lines (lends (request_for c.ask)) a.told) cs

    ys : List TableReply
    ys = told_to who b.table (history_in_full b.table after (calls_for cs))

    go : (x : Bool) → a.told ≡ reply_for b.told → xs ≡ map reply_for ys → cond x (a.told ∷ xs) xs ≡ map reply_for (cond x (b.told ∷ ys) ys)
    go true e f = ap {B = List BytesReply} (λ (r : BytesReply). r ∷ xs) e ∙ ap {B = List BytesReply} (λ (rs : List BytesReply). reply_for b.told ∷ rs) f
    go false e f = f

-- and the line buffers are left the same
pub history_lines : (cs : List BytesCall) (s : List ℕ) (t : ReaderTable) (lines : Buffers) → HoldsTable s t
    → lines_left s lines cs ≡ buffers_left t lines (calls_for cs)
history_lines [] s t lines h = refl
history_lines (c ∷ cs) s t lines h =
    let a : BytesServed = bytes_serve s lines c.who c.ask in
    let b : TableServed = serve t c.who (request_in_full lines (request_for c.ask)) in
    ap (λ (u : Buffers). lines_left a.bytes u cs) (lines_same s t h lines c.who c.ask)
    ∙ history_lines cs a.bytes b.table (buffers_after lines (lends (request_for c.ask)) b.told) (after_held s t h lines c.who c.ask)

asks_same : (who : ℕ) (cs : List BytesCall) → requests_of who (calls_for cs) ≡ map request_for (asks_of who cs)
asks_same who [] = refl
asks_same who (c ∷ cs) = go (eqb c.who who) (asks_same who cs)
  where
    go : (b : Bool) → requests_of who (calls_for cs) ≡ map request_for (asks_of who cs)
        → cond b (request_for c.ask ∷ requests_of who (calls_for cs)) (requests_of who (calls_for cs)) ≡ map request_for (cond b (c.ask ∷ asks_of who cs) (asks_of who cs))
    go true e = ap (λ l. request_for c.ask ∷ l) e
    go false e = e

openings_same : (ts : List TableReply) → open_numbers (map reply_for ts) ≡ map placing_number (openings_in ts)
openings_same [] = refl
openings_same (open_reply p ∷ ts) = ap (λ (l : List ℕ). placing_number p ∷ l) (openings_same ts)
openings_same (call_reply a n buffer ∷ ts) = openings_same ts

-- An opening's number says all of its answer.

-- an opening's answer tells a place and a refusal apart by its number
pub data Legal : Placing → Type 0 where
  a_place : {i : ℕ} → i < place_count → Legal (at_place i)
  a_refusal : {n : ℕ} → place_count ≤ n → Legal (not_placed n)

data AllLegal : List Placing → Type 0 where
  none_more : AllLegal []
  one_more_lem : (p : Placing) (ps : List Placing) → Legal p → AllLegal ps → AllLegal (p ∷ ps)

pub placing_same : {p q : Placing} → Legal p → Legal q → placing_number p ≡ placing_number q → p ≡ q
placing_same (a_place l) (a_place m) e = ap at_place e
placing_same (a_place l) (a_refusal m) e = absurd (omega (arith, l, m, e))
placing_same (a_refusal l) (a_place m) e = absurd (omega (arith, l, m, e))
placing_same (a_refusal l) (a_refusal m) e = ap not_placed e

placings_same : {ps qs : List Placing} → AllLegal ps → AllLegal qs → map placing_number ps ≡ map placing_number qs → ps ≡ qs
placings_same none_more none_more e = refl
placings_same none_more (one_more_lem p ps l ls) e = absurd (suc-ne-zero _ (sym (ap length e)))
placings_same (one_more_lem p ps l ls) none_more e = absurd (suc-ne-zero _ (ap length e))
placings_same (one_more_lem p ps l ls) (one_more_lem q qs m ms) e =
    ap {B = List Placing} (λ (x : Placing). x ∷ ps) (placing_same l m (ap (λ (w : List ℕ). get_or w 0 0) e))
    ∙ ap {B = List Placing} (λ (xs : List Placing). q ∷ xs) (placings_same ls ms (ap (λ (w : List ℕ). drop 1 w) e))

pub opening_legal : (t : ReaderTable) (who n : ℕ) → length t.places ≡ place_count → Legal (open_place_of t who n).placing
unfolding open_place_of open_place
opening_legal t who n h = go (is_technician who) (profile_numbered n)
  where
    at : (p : Profile) (b : Bool) → ltb (lowest_free t.places) (length t.places) ≡ b
        → Legal (cond b (opens_at t who p (lowest_free t.places)) (not_opened t no_place_free)).placing
    at p true e = a_place {i = lowest_free t.places} (let k = ltb-true (lowest_free t.places) (length t.places) e in omega (arith, k, h))
    at p false e = a_refusal {n = no_place_free} (omega arith)

    go : (a : Bool) (m : Optional Profile) → Legal (cond a (open_numbered t who m) (not_opened t no_such_technician)).placing
    go false m = a_refusal {n = no_such_technician} (omega arith)
    go true None = a_refusal {n = bad_state} (omega arith)
    go true (Some p) = at p (ltb (lowest_free t.places) (length t.places)) refl

reply_legal : (t : ReaderTable) (lines : Buffers) (who : ℕ) (q : TableAsk) (ts : List TableReply) → length t.places ≡ place_count → AllLegal (openings_in ts)
    → AllLegal (openings_in ((serve t who (request_in_full lines (request_for q))).told ∷ ts))
reply_legal t lines who (ask_open n) ts h l = one_more_lem (open_place_of t who n).placing (openings_in ts) (opening_legal t who n h) l
reply_legal t lines who (ask_feed i w b) ts h l = l
reply_legal t lines who (ask_finish i) ts h l = l
reply_legal t lines who (ask_close i) ts h l = l

told_legal : (who : ℕ) (cs : List BytesCall) (s : List ℕ) (t : ReaderTable) (lines : Buffers) → HoldsTable s t
    → AllLegal (openings_in (told_to who t (history_in_full t lines (calls_for cs))))
told_legal who [] s t lines h = none_more
told_legal who (c ∷ cs) s t lines h =
    go (eqb c.who who)
    (told_legal who cs (bytes_serve s lines c.who c.ask).bytes a.table after (after_held s t h lines c.who c.ask))
  where
    a : TableServed
    a = serve t c.who (request_in_full lines (request_for c.ask))

    after : Buffers
    after = buffers_after lines (lends (request_for c.ask)) a.told

    rest : List TableReply
    rest = told_to who a.table (history_in_full a.table after (calls_for cs))

    go : (b : Bool) → AllLegal (openings_in rest) → AllLegal (openings_in (cond b (a.told ∷ rest) rest))
    go true l = reply_legal t lines c.who c.ask rest h.eight l
    go false l = l

-- isolation of the bytes: by that of the table
pub bytes_isolation : (who : ℕ) → BytesIsolated who
bytes_isolation who s z room more mine lines others h k own-h own-k first asks numbers =
    let a = (new_empty s room).1 in
    let b = (new_empty z more).1 in
    let x = history_told who h (new_table s).state empty_table lines a in
    let y = history_told who k (new_table z).state empty_table others b in
    let requests = asks_same who h ∙ ap (map request_for) asks ∙ sym (asks_same who k) in
    let placings =
    sym (openings_same (told_from who lines (calls_for h))) ∙ ap open_numbers (sym x) ∙ numbers ∙ ap open_numbers y
    ∙ openings_same (told_from who others (calls_for k)) in
    let opened =
    placings_same (told_legal who h (new_table s).state empty_table lines a) (told_legal who k (new_table z).state empty_table others b) placings in
    let e = isolation who mine lines others (calls_for h) (calls_for k) own-h own-k first requests opened in (
      x ∙ ap (map reply_for) e.0 ∙ sym y,
      λ n f.
          ap (λ (u : Buffers). u n) (history_lines h (new_table s).state empty_table lines a)
          ∙ e.1 n f
          ∙ ap (λ (u : Buffers). u n) (sym (history_lines k (new_table z).state empty_table others b)),
    )
