-- Laws of the exported table: a new table's bytes hold an empty table; each call on bytes that hold a table answers as the table's own call does,
-- and leaves bytes that hold the table after it. By the laws of a reader's state in bytes, and since places lie apart.
use Rattle.std.specs.Prelude.{◌≡◌, Bool, set, None, Option as Optional, Some}
use Rattle.std.proofs.Math.Path.{refl, sym, ap, subst}
use Rattle.std.proofs.Common.{◌∙◌, true≢false, not-suc-le-zero, le_of_suc-le-suc, arith, length-set, ext_get_or}
use Rattle.std.proofs.Math.Bool.{true, false, cond}
use mathlib.Core.List.{List, []}
use Rattle.std.proofs.Math.Option.{Option, none, some}
use Prim.Native.Nat.{ℕ, zero, suc, ◌+◌, ◌≤◌, ◌<◌}
use borrow.Author.Tests.{ltb-true, ltb-false, le-leb, eqb-true, eqb-false, ne_eqb}
use Rattle.std.proofs.Math.Dec.{eqb, ltb}
use Rattle.std.proofs.Math.ListN.{length, get_or, get_or-eq_default}
use Rattle.std.proofs.lemmas.List.{get_or-replicate, length-replicate}
use Rattle.std.proofs.Math.Seq.{get_or-set_same}
use Rattle.refusal.specs.Refusal.{no_such_technician, no_place_free, place_not_held}
use Rattle.exported_call.specs.LentCall.{Called}
use Rattle.profile.specs.declared.Profile.{Profile}
use Rattle.profile.specs.declared.Profile.TheVariants.{VV5404, VV5300}
use Rattle.profile.specs.Profile.{profile_number, profile_numbered, longest}
use Rattle.reader.specs.declared.Reader.{Reader}
use Rattle.reader.specs.Reader.{fresh_reader, finish_of}
use Rattle.run.specs.Run.{Ran, run_of}
use Rattle.recovery.specs.Calls.{done}
use Rattle.refinement.specs.Runs.{RunCall, run, one}
use Rattle.reader_table.specs.declared.TablePlace.{TablePlace}
use Rattle.reader_table.specs.declared.ReaderTable.{ReaderTable}
use Rattle.technician.specs.Technician.{is_technician, denial_by}
use Rattle.reader_table.specs.Table.{nobody, place_for, free_place, place_count, empty_table, place_at, with_place, held_by, lowest_free, PlaceCalled, not_opened, opens_at, open_place, open_numbered, open_place_of, not_called, lent_to, call_held, call_place_of, close_held, close_place_of}
use Rattle.reader_table_laws.specs.Places.{somebody, put_same, put_other, there}
use Rattle.reader_table_laws.specs.Lowest.{put_length}
use Rattle.exported_state.specs.State.{state_length, stored, reader_in}
use Rattle.exported_state.specs.StateLaws.{stored_length}
use Rattle.fluturenc.specs.Calls.{FeedCalled, open_for, open_call, feed_call, finish_call}
use Rattle.fluturenc.specs.CallLaws.{HoldsReader, opens, feeds, finishes, finish_call_lem}
use Rattle.fluturenc_table.specs.TableBytes.{table_length, place_start, owner_at, state_at, with_state, lowest_from, denial_at}
use Rattle.fluturenc_table.specs.TableCalls.{refused_table, places_freed, new_table, opened_at, open_lowest, open_profile, open_table, feed_table, finish_table, close_table}
use Rattle.fluturenc_table_laws.specs.TableHeld.{place_by, places_held, table_in, HoldsPlace, HoldsTable, OpensAs, FeedsAs, AnswersAs, ServesAs}
use Rattle.fluturenc_table_laws.specs.ApartLaws.{within, owner_byte, state_length_lem, with_room, with_here, with_others, with_owners, owned_states, owned_others}

-- Places.

not_nobody : (who : ℕ) → is_technician who ≡ true → eqb who nobody ≡ false
not_nobody who h = ne_eqb who nobody (λ e. eqb-false nobody who (somebody who h) (sym e))

placed_owner : (owner : ℕ) (state : List ℕ) → (place_by owner state).owner ≡ owner
placed_owner owner state = go (eqb owner nobody) refl
  where
    go : (b : Bool) → eqb owner nobody ≡ b → (cond b free_place (place_for owner (reader_in state))).owner ≡ owner
    go true e = sym (eqb-true owner nobody e)
    go false e = refl

taken_place : (owner : ℕ) (state : List ℕ) → eqb owner nobody ≡ false → place_by owner state ≡ place_for owner (reader_in state)
taken_place owner state e = ap (λ (b : Bool). cond b free_place (place_for owner (reader_in state))) e

free_held : (state : List ℕ) → HoldsPlace nobody state free_place
free_held state = record { read = refl; held = λ e. absurd (true≢false e) }

reader_held : (who : ℕ) (state : List ℕ) (r : Reader) → eqb who nobody ≡ false → HoldsReader state r → HoldsPlace who state (place_for who r)
reader_held who state r e h =
    record {
      read = taken_place who state e ∙ ap (λ (x : Reader). place_for who x) h.read;
      held = λ f. subst (HoldsReader state) (sym h.read) h;
    }

moved : {a b : ℕ} {v w : List ℕ} {p q : TablePlace} → a ≡ b → v ≡ w → p ≡ q → HoldsPlace b w q → HoldsPlace a v p
moved {a} {b} {v} {w} {p} {q} e f g h =
    subst (λ (n : ℕ). HoldsPlace n v p) (sym e) (subst (λ (l : List ℕ). HoldsPlace b l p) (sym f) (subst (HoldsPlace b w) (sym g) h))

-- A new table.

freed_room : (k : ℕ) (s : List ℕ) → length (places_freed k s) ≡ length s
freed_room zero s = refl
freed_room (suc k) s = length-set (places_freed k s) _ nobody ∙ freed_room k s

freed : (k : ℕ) (s : List ℕ) (i : ℕ) → table_length ≤ length s → k ≤ place_count → i < k → get_or (places_freed k s) (place_start i) 0 ≡ nobody
freed zero s i h m l = absurd (not-suc-le-zero l)
freed (suc k) s i h m l = go (ltb i k) refl (freed k s i h (omega (arith, m)))
  where
    go : (b : Bool) → ltb i k ≡ b → (i < k → get_or (places_freed k s) (place_start i) 0 ≡ nobody)
        → get_or (set (places_freed k s) (place_start k) nobody) (place_start i) 0 ≡ nobody
    go true e rec =
        let less = ltb-true i k e in
        owned_others (places_freed k s) k nobody i (λ q. omega (arith, less, q)) ∙ rec less
    go false e rec =
        let same : i ≡ k = let n = ltb-false i k e in omega (arith, n, l) in
        let fits = within k (omega (arith, m)) in
        ap (λ (j : ℕ). get_or (set (places_freed k s) (place_start k) nobody) (place_start j) 0) same
        ∙ get_or-set_same (places_freed k s) (place_start k) nobody 0 (omega (arith, fits, h, freed_room k s))

new_held : (s : List ℕ) → table_length ≤ length s → HoldsTable (places_freed place_count s) empty_table
unfolding place_at
new_held s h =
    record {
      room = omega (arith, h, freed_room place_count s);
      eight = length-replicate place_count free_place;
      each = λ i l.
          moved (owner_byte (places_freed place_count s) i l ∙ freed place_count s i h (omega arith) l) refl
          (get_or-replicate place_count i free_place free_place l) (free_held (state_at (places_freed place_count s) i));
    }

-- Bytes that hold a table.

places_count : (k i : ℕ) (s : List ℕ) → length (places_held k i s) ≡ k
places_count zero i s = refl
places_count (suc k) i s = ap suc (places_count k (suc i) s)

place_held : (k i : ℕ) (s : List ℕ) (j : ℕ) → j < k → get_or (places_held k i s) j free_place ≡ place_by (owner_at s (i + j)) (state_at s (i + j))
place_held zero i s j l = absurd (not-suc-le-zero l)
place_held (suc k) i s zero l = ap (λ (n : ℕ). place_by (owner_at s n) (state_at s n)) (omega arith)
place_held (suc k) i s (suc j) l =
    place_held k (suc i) s j (le_of_suc-le-suc l) ∙ ap (λ (n : ℕ). place_by (owner_at s n) (state_at s n)) (omega arith)

lowest_held : (k i : ℕ) (s : List ℕ) → i + k ≤ place_count → lowest_from k i s ≡ i + lowest_free (places_held k i s)
lowest_held zero i s l = omega arith
lowest_held (suc k) i s l =
    go (eqb (get_or s (place_start i) 0) nobody) (lowest_held k (suc i) s (omega (arith, l)))
    ∙ ap (λ (n : ℕ). i + cond (eqb n nobody) 0 (suc (lowest_free (places_held k (suc i) s))))
    (sym (placed_owner (owner_at s i) (state_at s i) ∙ owner_byte s i (omega (arith, l))))
  where
    go : (b : Bool) → lowest_from k (suc i) s ≡ suc i + lowest_free (places_held k (suc i) s)
        → cond b i (lowest_from k (suc i) s) ≡ i + cond b 0 (suc (lowest_free (places_held k (suc i) s)))
    go true e = omega arith
    go false e = omega (arith, e)

module _ (s : List ℕ) (t : ReaderTable) (h : HoldsTable s t) where
  -- the table is the one that is read from them
  pub table_read : table_in s ≡ t
  unfolding place_at
  table_read =
      ap (λ (ps : List TablePlace). record { places = ps })
      (ext_get_or free_place (places_held place_count 0 s) t.places (places_count place_count 0 s ∙ sym h.eight) at)
    where
      at : (i : ℕ) → i < length (places_held place_count 0 s) → get_or (places_held place_count 0 s) i free_place ≡ get_or t.places i free_place
      at i l =
          let k : i < place_count = omega (arith, l, places_count place_count 0 s) in
          place_held place_count 0 s i k ∙ ap (λ (n : ℕ). place_by (owner_at s n) (state_at s n)) (omega arith) ∙ (h.each i k).read

  lowest_same : lowest_from place_count 0 s ≡ lowest_free t.places
  lowest_same = lowest_held place_count 0 s (omega arith) ∙ ap (λ (x : ReaderTable). 0 + lowest_free x.places) table_read ∙ omega arith

  pub owner_same : (i : ℕ) → (place_at t i).owner ≡ owner_at s i
  unfolding place_at owner_at
  owner_same i = go (ltb i place_count) refl
    where
      go : (b : Bool) → ltb i place_count ≡ b → (get_or t.places i free_place).owner ≡ cond b (get_or s (place_start i) 0) nobody
      go true e =
          let l = ltb-true i place_count e in
          ap (λ (p : TablePlace). p.owner) (sym (h.each i l).read) ∙ placed_owner (owner_at s i) (state_at s i) ∙ owner_byte s i l
      go false e = ap (λ (p : TablePlace). p.owner) (get_or-eq_default t.places free_place {n = i} (let k = ltb-false i place_count e in omega (arith, k, h.eight)))

  -- a place that is put into the bytes and into the table
  put_held : (b : List ℕ) (i : ℕ) (p : TablePlace) → i < place_count → length b ≡ length s
      → ((j : ℕ) → j < place_count → (j ≡ i → ⊥) → (owner_at b j ≡ owner_at s j) × (state_at b j ≡ state_at s j))
      → HoldsPlace (owner_at b i) (state_at b i) p → HoldsTable b (with_place t i p)
  put_held b i p l e others here =
      record { room = omega (arith, e, h.room); eight = put_length t i p ∙ h.eight; each = λ j k. go j k (eqb j i) refl }
    where
      go : (j : ℕ) → j < place_count → (x : Bool) → eqb j i ≡ x → HoldsPlace (owner_at b j) (state_at b j) (place_at (with_place t i p) j)
      go j k true q =
          subst (λ (n : ℕ). HoldsPlace (owner_at b n) (state_at b n) (place_at (with_place t i p) n)) (sym (eqb-true j i q))
          (moved refl refl (put_same t i p (omega (arith, l, h.eight))) here)
      go j k false q =
          let o = others j k (eqb-false j i q) in
          moved o.0 o.1 (put_other t j i p q) (h.each j k)

  -- a reader's state that is put into a place
  state_put : (i who : ℕ) (state : List ℕ) (r : Reader) → i < place_count → owner_at s i ≡ who → eqb who nobody ≡ false → length state ≡ state_length
      → HoldsReader state r → HoldsTable (with_state s i state) (with_place t i (place_for who r))
  state_put i who state r l o e full k =
      put_held (with_state s i state) i (place_for who r) l (with_room s i state h.room l full)
      (λ j m d. (kept j m, with_others s i state h.room l full j d))
      (moved (kept i l ∙ o) (with_here s i state h.room l full) refl (reader_held who state r e k))
    where
      kept : (j : ℕ) → j < place_count → owner_at (with_state s i state) j ≡ owner_at s j
      kept j m = owner_byte (with_state s i state) j m ∙ with_owners s i state h.room l full j ∙ sym (owner_byte s j m)

  -- who asks for a place
  pub denied : (who i : ℕ) → denial_at s who i ≡ denial_by who (owner_at s i)
  unfolding denial_at
  denied who i = simp (le-leb table_length (length s) h.room)

  -- no technician, not theirs, theirs

  stranger_denied : (who i : ℕ) → is_technician who ≡ false → denial_at s who i ≡ no_such_technician
  unfolding denial_by
  stranger_denied who i a = denied who i ∙ simp (a)

  other_denied : (who i : ℕ) → is_technician who ≡ true → eqb (owner_at s i) who ≡ false → denial_at s who i ≡ place_not_held
  unfolding denial_by
  other_denied who i a b = denied who i ∙ simp (a, b)

  owner_granted : (who i : ℕ) → is_technician who ≡ true → eqb (owner_at s i) who ≡ true → denial_at s who i ≡ 0
  unfolding denial_by
  owner_granted who i a b = denied who i ∙ simp (a, b)

  held_by_lem : (who i : ℕ) (b : Bool) → eqb (owner_at s i) who ≡ b → held_by t who i ≡ cond b (some (place_at t i).reader) none
  unfolding held_by
  held_by_lem who i b e =
      ap (λ (x : Bool). cond x (some (place_at t i).reader) none) (ap (λ (n : ℕ). eqb n who) (owner_same i) ∙ e)

  module _ (who i : ℕ) (a : is_technician who ≡ true) (b : eqb (owner_at s i) who ≡ true) where
    is_there : i < place_count
    is_there = let l = there t who i (place_at t i).reader a (held_by_lem who i true b) in omega (arith, l, h.eight)

    reader_there : HoldsReader (state_at s i) (place_at t i).reader
    reader_there =
        let taken : eqb (owner_at s i) nobody ≡ false = ap (λ (n : ℕ). eqb n nobody) (eqb-true (owner_at s i) who b) ∙ not_nobody who a in
        let place = h.each i is_there in
        subst (HoldsReader (state_at s i))
        (ap (λ (p : TablePlace). p.reader) (sym (taken_place (owner_at s i) (state_at s i) taken) ∙ place.read))
        (place.held taken)

-- What the calls of a table are, case by case.

feeds_same : {f g : FeedCalled} {c d : PlaceCalled} → f ≡ g → c ≡ d → FeedsAs g d → FeedsAs f c
feeds_same {f} {g} {c} {d} e k h = subst (λ (x : FeedCalled). FeedsAs x c) (sym e) (subst (FeedsAs g) (sym k) h)

answers_same : {f g : Called} {c d : PlaceCalled} → f ≡ g → c ≡ d → AnswersAs g d → AnswersAs f c
answers_same {f} {g} {c} {d} e k h = subst (λ (x : Called). AnswersAs x c) (sym e) (subst (AnswersAs g) (sym k) h)

stranger_called : (t : ReaderTable) (who i : ℕ) (c : RunCall) → is_technician who ≡ false → call_place_of t who i c ≡ not_called t no_such_technician (lent_to c)
unfolding call_place_of
stranger_called t who i c a = simp (a)

technician_called : (t : ReaderTable) (who i : ℕ) (c : RunCall) (o : Option Reader) → is_technician who ≡ true → held_by t who i ≡ o
    → call_place_of t who i c ≡ call_held o t who i c
unfolding call_place_of
technician_called t who i c o a e = simp (a) (ap (λ (x : Option Reader). call_held x t who i c) e)

stranger_closes : (t : ReaderTable) (who i : ℕ) → is_technician who ≡ false → close_place_of t who i ≡ not_called t no_such_technician []
unfolding close_place_of
stranger_closes t who i a = simp (a)

technician_closes : (t : ReaderTable) (who i : ℕ) (o : Option Reader) → is_technician who ≡ true → held_by t who i ≡ o → close_place_of t who i ≡ close_held o t i
unfolding close_place_of
technician_closes t who i o a e = simp (a) (ap (λ (x : Option Reader). close_held x t i) e)

module _ (s : List ℕ) (who i : ℕ) (w line : List ℕ) where
  feed_denied : (n : ℕ) → denial_at s who i ≡ n → eqb n 0 ≡ false → feed_table s who i w line ≡ record { answer = n; taken = 0; state = s; line = line }
  unfolding feed_table
  feed_denied n e z = simp (e, z)

  feed_granted : denial_at s who i ≡ 0
      → feed_table s who i w line
      ≡ record {
        answer = (feed_call (state_at s i) w line).answer;
        taken = (feed_call (state_at s i) w line).taken;
        state = with_state s i (feed_call (state_at s i) w line).state;
        line = (feed_call (state_at s i) w line).line;
      }
  unfolding feed_table
  feed_granted e = simp (e)

module _ (s : List ℕ) (who i : ℕ) where
  finish_denied : (n : ℕ) → denial_at s who i ≡ n → eqb n 0 ≡ false → finish_table s who i ≡ refused_table n s
  unfolding finish_table
  finish_denied n e z = simp (e, z)

  finish_granted : denial_at s who i ≡ 0
      → finish_table s who i ≡ record { answer = (finish_call (state_at s i)).answer; state = with_state s i (finish_call (state_at s i)).state }
  unfolding finish_table
  finish_granted e = simp (e)

  close_denied : (n : ℕ) → denial_at s who i ≡ n → eqb n 0 ≡ false → close_table s who i ≡ refused_table n s
  unfolding close_table
  close_denied n e z = simp (e, z)

  close_granted : denial_at s who i ≡ 0 → close_table s who i ≡ record { answer = 0; state = set s (place_start i) nobody }
  unfolding close_table
  close_granted e = simp (e)

-- The lengths of states that calls leave.

fed_length : (s w line : List ℕ) (r : Reader) → HoldsReader s r → length (feed_call s w line).state ≡ length s
fed_length s w line r h =
    let f = feeds s w line r h in
    ap (λ (c : FeedCalled). length c.state) f.0 ∙ go (eqb ran.taken 0) f.1.whole.full
  where
    ran : Ran
    ran = run_of r w (length line)

    go : (b : Bool) → length ran.reader.body ≡ longest → length (cond b s (stored ran.reader s)) ≡ length s
    go true k = refl
    go false k = stored_length ran.reader s k h.room

finished_length : (s : List ℕ) (r : Reader) → HoldsReader s r → length (finish_call s).state ≡ length s
finished_length s r h =
    ap (λ (c : Called). length c.state) (finish_call_lem s r h.held h.read)
    ∙ stored_length (finish_of r).reader s (finishes s r h).1.whole.full h.room

profile_numbered_lem : (p : Profile) → profile_numbered (profile_number p) ≡ Some p
unfolding profile_numbered
profile_numbered_lem VV5404 = refl
profile_numbered_lem VV5300 = refl

opened_same : (n : ℕ) (p : Profile) (s : List ℕ) → profile_numbered n ≡ Some p → open_call n s ≡ open_call (profile_number p) s
unfolding open_call
opened_same n p s e = ap (λ (m : Optional Profile). open_for m s) (e ∙ sym (profile_numbered_lem p))

opened_length : (p : Profile) (s : List ℕ) → state_length ≤ length s → length (open_call (profile_number p) s).state ≡ length s
unfolding open_call
opened_length p s h =
    ap (λ (m : Optional Profile). length (open_for m s).state) (profile_numbered_lem p)
    ∙ simp (le-leb state_length (length s) h) (stored_length (fresh_reader p) s (opens p s h).1.whole.full h)

-- The calls.

module _ (s : List ℕ) (t : ReaderTable) (h : HoldsTable s t) where
  feeds_as : (who i : ℕ) (w line : List ℕ) → FeedsAs (feed_table s who i w line) (call_place_of t who i (run w line))
  feeds_as who i w line = go (is_technician who) (eqb (owner_at s i) who) refl refl
    where
      go : (a b : Bool) → is_technician who ≡ a → eqb (owner_at s i) who ≡ b → FeedsAs (feed_table s who i w line) (call_place_of t who i (run w line))
      go false b e f =
          feeds_same (feed_denied s who i w line no_such_technician (stranger_denied s t h who i e) refl) (stranger_called t who i (run w line) e)
          (record { says = refl; count = refl; leaves = refl; keeps = h })
      go true false e f =
          feeds_same (feed_denied s who i w line place_not_held (other_denied s t h who i e f) refl)
          (technician_called t who i (run w line) none e (held_by_lem s t h who i false f))
          (record { says = refl; count = refl; leaves = refl; keeps = h })
      go true true e f =
          let r : Reader = (place_at t i).reader in
          let x : HoldsReader (state_at s i) r = reader_there s t h who i e f in
          let l : i < place_count = is_there s t h who i e f in
          let fed = feeds (state_at s i) w line r x in
          feeds_same (feed_granted s who i w line (owner_granted s t h who i e f))
          (technician_called t who i (run w line) (some r) e (held_by_lem s t h who i true f))
          (record {
            says = ap (λ (c : FeedCalled). c.answer) fed.0;
            count = ap (λ (c : FeedCalled). c.taken) fed.0;
            leaves = ap (λ (c : FeedCalled). c.line) fed.0;
            keeps = state_put s t h i who (feed_call (state_at s i) w line).state (run_of r w (length line)).reader l (eqb-true (owner_at s i) who f) (not_nobody who e)
                (fed_length (state_at s i) w line r x ∙ state_length_lem s i h.room l) fed.1;
          })

  finishes_as : (who i : ℕ) → AnswersAs (finish_table s who i) (call_place_of t who i (one done))
  finishes_as who i = go (is_technician who) (eqb (owner_at s i) who) refl refl
    where
      go : (a b : Bool) → is_technician who ≡ a → eqb (owner_at s i) who ≡ b → AnswersAs (finish_table s who i) (call_place_of t who i (one done))
      go false b e f =
          answers_same (finish_denied s who i no_such_technician (stranger_denied s t h who i e) refl) (stranger_called t who i (one done) e)
          (record { says = refl; keeps = h })
      go true false e f =
          answers_same (finish_denied s who i place_not_held (other_denied s t h who i e f) refl)
          (technician_called t who i (one done) none e (held_by_lem s t h who i false f))
          (record { says = refl; keeps = h })
      go true true e f =
          let r : Reader = (place_at t i).reader in
          let x : HoldsReader (state_at s i) r = reader_there s t h who i e f in
          let l : i < place_count = is_there s t h who i e f in
          answers_same (finish_granted s who i (owner_granted s t h who i e f))
          (technician_called t who i (one done) (some r) e (held_by_lem s t h who i true f))
          (record {
            says = (finishes (state_at s i) r x).0;
            keeps = state_put s t h i who (finish_call (state_at s i)).state (finish_of r).reader l (eqb-true (owner_at s i) who f) (not_nobody who e)
                (finished_length (state_at s i) r x ∙ state_length_lem s i h.room l) (finishes (state_at s i) r x).1;
          })

  place_freed : (i : ℕ) → i < place_count → HoldsTable (set s (place_start i) nobody) (with_place t i free_place)
  place_freed i l =
      put_held s t h freed_bytes i free_place l (length-set s (place_start i) nobody)
      (λ j m d. (owner_byte freed_bytes j m ∙ owned_others s i nobody j d ∙ sym (owner_byte s j m), owned_states s i nobody j))
      (moved (owner_byte freed_bytes i l ∙ get_or-set_same s (place_start i) nobody 0 (let k = within i l in omega (arith, k, h.room))) refl refl (free_held (state_at freed_bytes i)))
    where
      freed_bytes : List ℕ
      freed_bytes = set s (place_start i) nobody

  closes_as : (who i : ℕ) → AnswersAs (close_table s who i) (close_place_of t who i)
  closes_as who i = go (is_technician who) (eqb (owner_at s i) who) refl refl
    where
      go : (a b : Bool) → is_technician who ≡ a → eqb (owner_at s i) who ≡ b → AnswersAs (close_table s who i) (close_place_of t who i)
      go false b e f =
          answers_same (close_denied s who i no_such_technician (stranger_denied s t h who i e) refl) (stranger_closes t who i e)
          (record { says = refl; keeps = h })
      go true false e f =
          answers_same (close_denied s who i place_not_held (other_denied s t h who i e f) refl)
          (technician_closes t who i none e (held_by_lem s t h who i false f))
          (record { says = refl; keeps = h })
      go true true e f =
          answers_same (close_granted s who i (owner_granted s t h who i e f))
          (technician_closes t who i (some (place_at t i).reader) e (held_by_lem s t h who i true f))
          (record { says = refl; keeps = place_freed i (is_there s t h who i e f) })

  -- a fresh reader that is put into a place
  fresh_put : (i who n : ℕ) (p : Profile) → is_technician who ≡ true → profile_numbered n ≡ Some p → i < place_count
      → HoldsTable (opened_at s who n i).state (with_place t i (place_for who (fresh_reader p)))
  unfolding opened_at
  fresh_put i who n p a e l =
      put_held s t h bytes i (place_for who (fresh_reader p)) l (length-set with_fresh (place_start i) who ∙ same_room)
      (λ j m d. (
        owner_byte bytes j m ∙ owned_others with_fresh i who j d ∙ with_owners s i state h.room l full j ∙ sym (owner_byte s j m),
        owned_states with_fresh i who j ∙ with_others s i state h.room l full j d,
      ))
      (moved (owner_byte bytes i l ∙ get_or-set_same with_fresh (place_start i) who 0 (let k = within i l in omega (arith, k, h.room, same_room)))
      (owned_states with_fresh i who i ∙ with_here s i state h.room l full) refl
      (reader_held who state (fresh_reader p) (not_nobody who a) held))
    where
      state : List ℕ
      state = (open_call n (state_at s i)).state

      with_fresh : List ℕ
      with_fresh = with_state s i state

      bytes : List ℕ
      bytes = set with_fresh (place_start i) who

      long : state_length ≤ length (state_at s i)
      long = omega (arith, state_length_lem s i h.room l)

      full : length state ≡ state_length
      full = ap (λ (c : Called). length c.state) (opened_same n p (state_at s i) e) ∙ opened_length p (state_at s i) long ∙ state_length_lem s i h.room l

      held : HoldsReader state (fresh_reader p)
      held = subst (λ (c : Called). HoldsReader c.state (fresh_reader p)) (sym (opened_same n p (state_at s i) e)) (opens p (state_at s i) long).1

      same_room : length with_fresh ≡ length s
      same_room = with_room s i state h.room l full

  opens_at_lem : (i who n : ℕ) (p : Profile) → is_technician who ≡ true → profile_numbered n ≡ Some p
      → OpensAs (open_lowest s who n i) (cond (ltb i place_count) (opens_at t who p i) (not_opened t no_place_free))
  unfolding open_lowest opened_at
  opens_at_lem i who n p a e = go (ltb i place_count) refl
    where
      go : (b : Bool) → ltb i place_count ≡ b
          → OpensAs (cond b (opened_at s who n i) (refused_table no_place_free s)) (cond b (opens_at t who p i) (not_opened t no_place_free))
      go true f = record { says = refl; keeps = fresh_put i who n p a e (ltb-true i place_count f) }
      go false f = record { says = refl; keeps = h }

  opens_lowest_as : (who n : ℕ) (p : Profile) → is_technician who ≡ true → profile_numbered n ≡ Some p
      → OpensAs (open_lowest s who n (lowest_from place_count 0 s)) (open_place t who p)
  unfolding open_place
  opens_lowest_as who n p a e =
      subst
      (λ (k : ℕ). OpensAs (open_lowest s who n (lowest_from place_count 0 s)) (cond (ltb (lowest_free t.places) k) (opens_at t who p (lowest_free t.places)) (not_opened t no_place_free)))
      (sym h.eight)
      (subst
      (λ (k : ℕ). OpensAs (open_lowest s who n k) (cond (ltb (lowest_free t.places) place_count) (opens_at t who p (lowest_free t.places)) (not_opened t no_place_free)))
      (sym (lowest_same s t h))
      (opens_at_lem (lowest_free t.places) who n p a e))

  opens_as : (who n : ℕ) → OpensAs (open_table s who n) (open_place_of t who n)
  unfolding open_table open_place_of
  opens_as who n = simp (le-leb table_length (length s) h.room) (go (is_technician who) (profile_numbered n) refl refl)
    where
      go : (a : Bool) (m : Optional Profile) → is_technician who ≡ a → profile_numbered n ≡ m
          → OpensAs (cond a (open_profile s who n m) (refused_table no_such_technician s)) (cond a (open_numbered t who m) (not_opened t no_such_technician))
      go false m e f = record { says = refl; keeps = h }
      go true None e f = record { says = refl; keeps = h }
      go true (Some p) e f = opens_lowest_as who n p e f

-- a new table's bytes hold an empty table
pub new_empty : (s : List ℕ) → table_length ≤ length s → ((new_table s).answer ≡ 0) × HoldsTable (new_table s).state empty_table
unfolding new_table
new_empty s h = simp (le-leb table_length (length s) h) (refl, new_held s h)

-- and from bytes that hold a table, every call is that of the table
pub bytes_serve_lem : (s : List ℕ) (t : ReaderTable) → HoldsTable s t → ServesAs s t
bytes_serve_lem s t h = record { opening = opens_as s t h; feeding = feeds_as s t h; finishing = finishes_as s t h; closing = closes_as s t h }
