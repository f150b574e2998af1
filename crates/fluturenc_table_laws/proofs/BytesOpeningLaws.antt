-- Openings on a table's bytes take the lowest free place; and demand 3 holds of each, since the same calls of the table take the same nibbles and
-- are told what has these numbers.
use Rattle.std.specs.Prelude.{◌≡◌, Bool, List, [], ◌∷◌, ◌++◌, map, eqb, ltb, length, get_or, take, Some}
use Rattle.std.proofs.Math.Path.{refl}
use Rattle.std.proofs.Common.{sym, ap, ◌∙◌, subst, true≢false, arith, le-leb, ltb-true, ltb-false, eqb-true}
use Rattle.std.proofs.Math.Bool.{true, false, cond}
use Rattle.std.proofs.Math.Option.{none, some}
use Prim.Native.Nat.{ℕ, zero, suc, ◌+◌, ◌≤◌, ◌<◌}
use Rattle.std.proofs.lemmas.Bool.{eqb-false}
use Rattle.refusal.specs.Refusal.{no_place_free, place_not_held}
use Rattle.profile.specs.declared.Profile.{Profile}
use Rattle.profile.specs.Profile.{profile_numbered}
use Rattle.recovery.specs.Calls.{done}
use Rattle.refinement.specs.Runs.{RunCall, run, one}
use Rattle.reader_table.specs.declared.ReaderTable.{ReaderTable}
use Rattle.technician.specs.Technician.{is_technician, denial_by}
use Rattle.reader_table.specs.Table.{nobody, place_count, empty_table, place_at, held_by, at_place, open_place_of, call_place_of}
use Rattle.reader_table_laws.specs.History.{TableRequest, to_read, TableCall, TableReply, TableServed, serve, table_after}
use Rattle.reader_table_laws.specs.Lending.{Buffers, lends, request_in_full, buffers_after, history_in_full}
use Rattle.reader_table_laws.specs.Openings.{calls_of, calls_by, told_of, told_by, nibbles_in, nibbles_of, OpeningMeetsDemandThree}
use Rattle.reader_table_laws.specs.OwnPlaces.{OpenedIn}
use Rattle.reader_table_laws.specs.Places.{is_there}
use Rattle.reader_table_laws.proofs.OpeningLaws.{opened_by_lem}
use Rattle.reader_table_laws.proofs.OpeningDemand.{opening_demand_three}
use Rattle.reader_table_laws.proofs.OwnPlacesLaws.{held_opened, opened_held}
use Rattle.fluturenc_table.specs.TableBytes.{table_length, place_start, lowest_from, denial_at}
use Rattle.fluturenc_table.specs.TableCalls.{refused_table, new_table, opened_at, open_lowest, open_table, feed_table}
use Rattle.fluturenc_table_laws.specs.TableHeld.{HoldsTable, table_in}
use Rattle.fluturenc_table_laws.specs.ApartLaws.{owner_byte}
use Rattle.fluturenc_table_laws.proofs.TableBytesLaws.{table_read, owner_same, denied, new_empty, bytes_serve_lem}
use Rattle.fluturenc_table_laws.specs.BytesHistory.{TableAsk, ask_open, ask_feed, ask_finish, ask_close, BytesCall, BytesReply, BytesServed, bytes_serve, request_for, calls_for, reply_for, lines_after}
use Rattle.fluturenc_table_laws.proofs.BytesHistoryLaws.{told_same, after_held, lines_same, a_place, placing_same, opening_legal}
use Rattle.fluturenc_table_laws.specs.BytesOpenings.{FreeAt, BytesOpensLowest, all_taken, lowest_one, bytes_left, bytes_told_by, bytes_told_of, bytes_taken_by, bytes_taken_of, BytesOnlyOpened, table_history, BytesMeetDemandThree}

-- The lowest free place.

module _ (s : List ℕ) where
  from_free : (k i : ℕ) → lowest_from k i s < i + k → get_or s (place_start (lowest_from k i s)) 0 ≡ nobody
  from_free zero i l = absurd (omega (arith, l))
  from_free (suc k) i l = go (eqb (get_or s (place_start i) 0) nobody) refl (from_free k (suc i)) l
    where
      go : (b : Bool) → eqb (get_or s (place_start i) 0) nobody ≡ b
          → (lowest_from k (suc i) s < suc i + k → get_or s (place_start (lowest_from k (suc i) s)) 0 ≡ nobody)
          → cond b i (lowest_from k (suc i) s) < i + suc k
          → get_or s (place_start (cond b i (lowest_from k (suc i) s))) 0 ≡ nobody
      go true e rec l = eqb-true _ _ e
      go false e rec l = rec (omega (arith, l))

  from_taken : (k i j : ℕ) → i ≤ j → j < lowest_from k i s → get_or s (place_start j) 0 ≡ nobody → ⊥
  from_taken zero i j m l e = omega (arith, m, l)
  from_taken (suc k) i j m l e = go (eqb (get_or s (place_start i) 0) nobody) (eqb i j) refl refl (from_taken k (suc i) j) l e
    where
      go : (b x : Bool) → eqb (get_or s (place_start i) 0) nobody ≡ b → eqb i j ≡ x
          → (suc i ≤ j → j < lowest_from k (suc i) s → get_or s (place_start j) 0 ≡ nobody → ⊥)
          → j < cond b i (lowest_from k (suc i) s)
          → get_or s (place_start j) 0 ≡ nobody
          → ⊥
      go true x f g rec l e = omega (arith, m, l)
      go false true f g rec l e = eqb-false _ _ f (ap (λ (n : ℕ). get_or s (place_start n) 0) (eqb-true i j g) ∙ e)
      go false false f g rec l e = let d = eqb-false i j g in rec (omega (arith, m, d)) l e

  -- of all bytes that are as many as a table's
  pub bytes_open_lowest : table_length ≤ length s → (who n : ℕ) (p : Profile) → is_technician who ≡ true → profile_numbered n ≡ Some p
      → BytesOpensLowest s (open_table s who n).answer
  unfolding open_table open_lowest opened_at
  bytes_open_lowest room who n p h e = simp (le-leb table_length (length s) room, h, e) (go (ltb lowest place_count) refl)
    where
      lowest : ℕ
      lowest = lowest_from place_count 0 s

      below : (j : ℕ) → j < lowest → FreeAt s j → ⊥
      below j l f = from_taken place_count 0 j (omega arith) l (sym (owner_byte s j f.is_there) ∙ f.is_free)

      go : (b : Bool) → ltb lowest place_count ≡ b → BytesOpensLowest s (cond b (opened_at s who n lowest) (refused_table no_place_free s)).answer
      go true l =
          let k = ltb-true lowest place_count l in
          lowest_one lowest (record { is_there = k; is_free = owner_byte s lowest k ∙ from_free place_count 0 (omega (arith, k)) }) below
      go false l = all_taken (λ i f. below i (let k = ltb-false lowest place_count l in let m = f.is_there in omega (arith, k, m)) f)

-- From bytes that hold a table on, the calls of an opening are told the numbers of what the table tells them, and take the same nibbles.

module _ (who i : ℕ) where
  told_by_lem : (q : TableAsk) (lines : Buffers) (y : TableReply) (xs : List BytesReply) (ys : List TableReply) → xs ≡ map reply_for ys
      → bytes_told_by i q (reply_for y) xs ≡ map reply_for (told_by i (request_in_full lines (request_for q)) y ys)
  told_by_lem (ask_open n) lines y xs ys e = e
  told_by_lem (ask_feed j w b) lines y xs ys e = go (eqb j i)
    where
      go : (x : Bool) → cond x (reply_for y ∷ xs) xs ≡ map reply_for (cond x (y ∷ ys) ys)
      go true = ap {B = List BytesReply} (λ (l : List BytesReply). reply_for y ∷ l) e
      go false = e
  told_by_lem (ask_finish j) lines y xs ys e = go (eqb j i)
    where
      go : (x : Bool) → cond x (reply_for y ∷ []) xs ≡ map reply_for (cond x (y ∷ []) ys)
      go true = refl
      go false = e
  told_by_lem (ask_close j) lines y xs ys e = go (eqb j i)
    where
      go : (x : Bool) → cond x [] xs ≡ map reply_for (cond x [] ys)
      go true = refl
      go false = e

  opening_told : (cs : List BytesCall) (s : List ℕ) (t : ReaderTable) (lines : Buffers) → HoldsTable s t
      → bytes_told_of who i s lines cs ≡ map reply_for (told_of who i t (history_in_full t lines (calls_for cs)))
  opening_told [] s t lines h = refl
  opening_told (c ∷ cs) s t lines h =
      go (eqb c.who who)
      (ap (λ (u : Buffers). bytes_told_of who i a.bytes u cs) (lines_same s t h lines c.who c.ask)
      ∙ opening_told cs a.bytes b.table after (after_held s t h lines c.who c.ask))
    where
      a : BytesServed
      a = bytes_serve s lines c.who c.ask

      b : TableServed
      b = serve t c.who (request_in_full lines (request_for c.ask))

      after : Buffers
      after = buffers_after lines (lends (request_for c.ask)) b.told

      xs : List BytesReply
      xs = bytes_told_of who i a.bytes (lines_after lines (lends (request_for c.ask)) a.told) cs

      ys : List TableReply
      ys = told_of who i b.table (history_in_full b.table after (calls_for cs))

      go : (x : Bool) → xs ≡ map reply_for ys
          → cond x (bytes_told_by i c.ask a.told xs) xs ≡ map reply_for (cond x (told_by i (request_in_full lines (request_for c.ask)) b.told ys) ys)
      go true f = ap (λ (r : BytesReply). bytes_told_by i c.ask r xs) (told_same s t h lines c.who c.ask) ∙ told_by_lem c.ask lines b.told xs ys f
      go false f = f

  taken_by_lem : (s : List ℕ) (t : ReaderTable) → HoldsTable s t → (lines : Buffers) (by : ℕ) (q : TableAsk) (w : List ℕ) (ds : List RunCall) (ys : List TableReply)
      → w ≡ nibbles_in ds ys
      → bytes_taken_by i q (bytes_serve s lines by q).told w
      ≡ nibbles_in (calls_by i (request_in_full lines (request_for q)) ds) (told_by i (request_in_full lines (request_for q)) (serve t by (request_in_full lines (request_for q))).told ys)
  taken_by_lem s t h lines by (ask_open n) w ds ys e = e
  taken_by_lem s t h lines by (ask_feed j x b) w ds ys e = go (eqb j i)
    where
      go : (y : Bool)
          → cond y (take (feed_table s by j x (lines b)).taken x ++ w) w
          ≡ nibbles_in (cond y (run x (lines b) ∷ ds) ds) (cond y ((serve t by (to_read j (run x (lines b)))).told ∷ ys) ys)
      go true =
          ap (λ (n : ℕ). take n x ++ w) ((bytes_serve_lem s t h).feeding by j x (lines b)).count
          ∙ ap (λ (l : List ℕ). take (call_place_of t by j (run x (lines b))).taken x ++ l) e
      go false = e
  taken_by_lem s t h lines by (ask_finish j) w ds ys e = go (eqb j i)
    where
      go : (y : Bool) → cond y [] w ≡ nibbles_in (cond y (one done ∷ []) ds) (cond y ((serve t by (to_read j (one done))).told ∷ []) ys)
      go true = refl
      go false = e
  taken_by_lem s t h lines by (ask_close j) w ds ys e = go (eqb j i)
    where
      go : (y : Bool) → cond y [] w ≡ nibbles_in (cond y [] ds) (cond y [] ys)
      go true = refl
      go false = e

  opening_taken : (cs : List BytesCall) (s : List ℕ) (t : ReaderTable) (lines : Buffers) → HoldsTable s t
      → bytes_taken_of who i s lines cs ≡ nibbles_of who i t (history_in_full t lines (calls_for cs))
  opening_taken [] s t lines h = refl
  opening_taken (c ∷ cs) s t lines h =
      go (eqb c.who who)
      (ap (λ (u : Buffers). bytes_taken_of who i a.bytes u cs) (lines_same s t h lines c.who c.ask)
      ∙ opening_taken cs a.bytes b.table after (after_held s t h lines c.who c.ask))
    where
      a : BytesServed
      a = bytes_serve s lines c.who c.ask

      q : TableRequest
      q = request_in_full lines (request_for c.ask)

      b : TableServed
      b = serve t c.who q

      after : Buffers
      after = buffers_after lines (lends (request_for c.ask)) b.told

      later : List TableCall
      later = history_in_full b.table after (calls_for cs)

      w : List ℕ
      w = bytes_taken_of who i a.bytes (lines_after lines (lends (request_for c.ask)) a.told) cs

      go : (x : Bool) → w ≡ nibbles_of who i b.table later
          → cond x (bytes_taken_by i c.ask a.told w) w
          ≡ nibbles_in (cond x (calls_by i q (calls_of who i later)) (calls_of who i later)) (cond x (told_by i q b.told (told_of who i b.table later)) (told_of who i b.table later))
      go true e = taken_by_lem s t h lines c.who c.ask w (calls_of who i later) (told_of who i b.table later) e
      go false e = e

-- Demand 3.

held_demand_three : (p : Profile) (who i : ℕ) (s : List ℕ) (t : ReaderTable) → HoldsTable s t → OpeningMeetsDemandThree p who i t → BytesMeetDemandThree p who i s
held_demand_three p who i s t h d lines ss good a b l m new cs taken =
    let k : HoldsTable s (table_in s) = subst (HoldsTable s) (sym (table_read s t h)) h in
    let e : OpeningMeetsDemandThree p who i (table_in s) = subst (OpeningMeetsDemandThree p who i) (sym (table_read s t h)) d in
    record {
      numbers = opening_told who i cs s (table_in s) lines k;
      demand_three = e ss good a b l m new (table_history s lines cs) (sym (opening_taken who i cs s (table_in s) lines k) ∙ taken);
    }

-- the bytes that a history leaves hold a table
pub held_after : (cs : List BytesCall) (s : List ℕ) (t : ReaderTable) (lines : Buffers) → HoldsTable s t
    → HoldsTable (bytes_left s lines cs) (table_after t (history_in_full t lines (calls_for cs)))
held_after [] s t lines h = h
held_after (c ∷ cs) s t lines h =
    let a : BytesServed = bytes_serve s lines c.who c.ask in
    let b : TableServed = serve t c.who (request_in_full lines (request_for c.ask)) in
    let after : Buffers = buffers_after lines (lends (request_for c.ask)) b.told in
    subst (λ (u : Buffers). HoldsTable (bytes_left a.bytes u cs) (table_after b.table (history_in_full b.table after (calls_for cs))))
    (sym (lines_same s t h lines c.who c.ask))
    (held_after cs a.bytes b.table after (after_held s t h lines c.who c.ask))

-- who is refused what, by what they hold
module _ (who : ℕ) (h : is_technician who ≡ true) (i : ℕ) (t : ReaderTable) where
  granted_held : denial_by who (place_at t i).owner ≡ 0 → is_there (held_by t who i) ≡ true
  unfolding denial_by held_by
  granted_held e = go (eqb (place_at t i).owner who) (simp h at e)
    where
      go : (b : Bool) → cond b 0 place_not_held ≡ 0 → is_there (cond b (some (place_at t i).reader) none) ≡ true
      go true e = refl
      go false e = absurd (omega (arith, e))

  held_granted : is_there (held_by t who i) ≡ true → denial_by who (place_at t i).owner ≡ 0
  unfolding denial_by held_by
  held_granted e = simp h (go (eqb (place_at t i).owner who) e)
    where
      go : (b : Bool) → is_there (cond b (some (place_at t i).reader) none) ≡ true → cond b 0 place_not_held ≡ 0
      go true e = refl
      go false e = absurd (true≢false (sym e))

stranger_refused : (who owner : ℕ) → is_technician who ≡ false → denial_by who owner ≡ 0 → ⊥
unfolding denial_by
stranger_refused who owner h e = let k = simp h at e in omega (arith, k)

-- each calls only places they opened
pub bytes_only_opened : (s : List ℕ) → table_length ≤ length s → (lines : Buffers) (h : List BytesCall) (who i : ℕ)
    → BytesOnlyOpened (new_table s).state lines h who i
bytes_only_opened s room lines h who i =
    record {
      granted_opened = λ e. by (is_technician who) refl (sym same ∙ e);
      opened_granted = λ o.
          let k = (opened_by_lem (table_after empty_table o.before) who o.profile i o.given).0 in
          same ∙ held_granted who k i (table_after empty_table cs) (opened_held who k i cs empty_table o);
    }
  where
    cs : List TableCall
    cs = history_in_full empty_table lines (calls_for h)

    holds : HoldsTable (bytes_left (new_table s).state lines h) (table_after empty_table cs)
    holds = held_after h (new_table s).state empty_table lines (new_empty s room).1

    same : denial_at (bytes_left (new_table s).state lines h) who i ≡ denial_by who (place_at (table_after empty_table cs) i).owner
    same =
        denied (bytes_left (new_table s).state lines h) (table_after empty_table cs) holds who i
        ∙ ap (denial_by who) (sym (owner_same (bytes_left (new_table s).state lines h) (table_after empty_table cs) holds i))

    by : (b : Bool) → is_technician who ≡ b → denial_by who (place_at (table_after empty_table cs) i).owner ≡ 0 → OpenedIn empty_table who i cs
    by true k e = held_opened who k i cs (granted_held who k i (table_after empty_table cs) e)
    by false k e = absurd (stranger_refused who (place_at (table_after empty_table cs) i).owner k e)

-- demand 3 of each opening on the bytes, from a new table on and after any history, that is told a place
pub bytes_demand_three : (s : List ℕ) → table_length ≤ length s → (lines : Buffers) (h : List BytesCall) (who n : ℕ) (p : Profile) (i : ℕ)
    → profile_numbered n ≡ Some p
    → (open_table (bytes_left (new_table s).state lines h) who n).answer ≡ i
    → i < place_count
    → BytesMeetDemandThree p who i (open_table (bytes_left (new_table s).state lines h) who n).state
bytes_demand_three s room lines h who n p i e f l =
    let t : ReaderTable = table_after empty_table (history_in_full empty_table lines (calls_for h)) in
    let bytes : List ℕ = bytes_left (new_table s).state lines h in
    let k : HoldsTable bytes t = held_after h (new_table s).state empty_table lines (new_empty s room).1 in
    let o = (bytes_serve_lem bytes t k).opening who n in
    let placed : (open_place_of t who n).placing ≡ at_place i = placing_same (opening_legal t who n k.eight) (a_place l) (sym o.says ∙ f) in
    held_demand_three p who i (open_table bytes who n).state (open_place_of t who n).table o.keeps (opening_demand_three t who n p i e placed)
