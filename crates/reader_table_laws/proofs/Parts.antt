-- A history in two parts: the calls of an opening in it are those of the first part, and those of the second unless the first has its end.
use Rattle.std.specs.Prelude.{◌≡◌, refl, Bool, true, false, cond, ◌&&◌, ◌||◌, List, [], ◌∷◌, ◌++◌, ℕ, eqb}
use Rattle.std.proofs.Common.{sym, ap, ◌∙◌, true≢false, append_assoc, eqb-true}
use Rattle.std.proofs.Math.Option.{some}
use Rattle.reader.specs.declared.Reader.{Reader}
use Rattle.recovery.specs.Calls.{Call, feed, done}
use Rattle.refinement.specs.Runs.{RunCall, run, one, run_result, on_runs, one_by_one, all_one_by_one}
use Rattle.reader_table.specs.declared.ReaderTable.{ReaderTable}
use Rattle.technician.specs.Technician.{is_technician}
use Rattle.reader_table.specs.Table.{held_by, open_place_of, call_place_of, close_place_of}
use Rattle.reader_table_laws.specs.History.{TableRequest, to_open, to_read, to_close, TableCall, serve, table_after}
use Rattle.reader_table_laws.specs.Openings.{calls_by, calls_of, calls_after, told_of, reader_told, ends_by, ends_in, told_after}
use Rattle.reader_table_laws.proofs.OpeningLaws.{by_other, by_opening, by_call, by_elsewhere, by_close, projected}

-- The calls.

module _ (i : ℕ) (cs ds : List RunCall) where
  -- a request in front of the two parts
  append_by : (q : TableRequest) (b : Bool) (es : List RunCall) → es ≡ cs ++ cond b [] ds → calls_by i q es ≡ calls_by i q cs ++ cond (ends_by i q || b) [] ds
  append_by (to_open n) b es k = k
  append_by (to_read j (run w buffer)) b es k = go (eqb j i)
    where
      go : (a : Bool) → cond a (run w buffer ∷ es) es ≡ cond a (run w buffer ∷ cs) cs ++ cond b [] ds
      go true = ap {B = List RunCall} (λ l. run w buffer ∷ l) k
      go false = k
  append_by (to_read j (one (feed n buffer))) b es k = go (eqb j i)
    where
      go : (a : Bool) → cond a (one (feed n buffer) ∷ es) es ≡ cond a (one (feed n buffer) ∷ cs) cs ++ cond b [] ds
      go true = ap {B = List RunCall} (λ l. one (feed n buffer) ∷ l) k
      go false = k
  append_by (to_read j (one done)) b es k = go (eqb j i)
    where
      go : (a : Bool) → cond a (one done ∷ []) es ≡ cond a (one done ∷ []) cs ++ cond (a || b) [] ds
      go true = refl
      go false = k
  append_by (to_close j) b es k = go (eqb j i)
    where
      go : (a : Bool) → cond a [] es ≡ cond a [] cs ++ cond (a || b) [] ds
      go true = refl
      go false = k

pub calls_append : (who i : ℕ) (first rest : List TableCall)
    → calls_of who i (first ++ rest) ≡ calls_of who i first ++ calls_after who i first rest
calls_append who i [] rest = refl
calls_append who i (c ∷ first) rest = go (eqb c.who who) (calls_append who i first rest)
  where
    cs : List RunCall
    cs = calls_of who i first

    ds : List RunCall
    ds = calls_of who i rest

    es : List RunCall
    es = calls_of who i (first ++ rest)

    go : (b : Bool) → es ≡ cs ++ cond (ends_in who i first) [] ds
        → cond b (calls_by i c.request es) es
        ≡ cond b (calls_by i c.request cs) cs ++ cond ((b && ends_by i c.request) || ends_in who i first) [] ds
    go true k = append_by i cs ds c.request (ends_in who i first) es k
    go false k = k

-- What the place holds after the first part, where that does not have the end: the reader that the calls in it left.

abbrev Keeps : ℕ → ℕ → List TableCall → Type 0
Keeps who i cs =
    (t : ReaderTable) (r : Reader) → held_by t who i ≡ some r → ends_in who i cs ≡ false → held_by (table_after t cs) who i ≡ some (on_runs r (calls_of who i cs))

module _ (who : ℕ) (h : is_technician who ≡ true) (i : ℕ) (cs : List TableCall) (rec : Keeps who i cs) (t : ReaderTable) (r : Reader) (e : held_by t who i ≡ some r) where
  keeps_by : (q : TableRequest) → (ends_by i q || ends_in who i cs) ≡ false
      → held_by (table_after (serve t who q).table cs) who i ≡ some (on_runs r (calls_by i q (calls_of who i cs)))
  keeps_by (to_open n) f = rec (open_place_of t who n).table r (by_opening who h i t n r e) f
  keeps_by (to_read j (run w buffer)) f = go (eqb j i) refl
    where
      go : (a : Bool) → eqb j i ≡ a
          → held_by (table_after (call_place_of t who j (run w buffer)).table cs) who i
          ≡ some (on_runs r (cond a (run w buffer ∷ calls_of who i cs) (calls_of who i cs)))
      go true g = rec (call_place_of t who j (run w buffer)).table (run_result r (run w buffer)).reader (by_call who h i t j (run w buffer) r e g).1 f
      go false g = rec (call_place_of t who j (run w buffer)).table r (by_elsewhere who h i t j (run w buffer) g ∙ e) f
  keeps_by (to_read j (one (feed n buffer))) f = go (eqb j i) refl
    where
      go : (a : Bool) → eqb j i ≡ a
          → held_by (table_after (call_place_of t who j (one (feed n buffer))).table cs) who i
          ≡ some (on_runs r (cond a (one (feed n buffer) ∷ calls_of who i cs) (calls_of who i cs)))
      go true g =
          rec (call_place_of t who j (one (feed n buffer))).table (run_result r (one (feed n buffer))).reader
          (by_call who h i t j (one (feed n buffer)) r e g).1 f
      go false g = rec (call_place_of t who j (one (feed n buffer))).table r (by_elsewhere who h i t j (one (feed n buffer)) g ∙ e) f
  keeps_by (to_read j (one done)) f = go (eqb j i) refl f
    where
      go : (a : Bool) → eqb j i ≡ a → (a || ends_in who i cs) ≡ false
          → held_by (table_after (call_place_of t who j (one done)).table cs) who i
          ≡ some (on_runs r (cond a (one done ∷ []) (calls_of who i cs)))
      go true g k = absurd (true≢false k)
      go false g k = rec (call_place_of t who j (one done)).table r (by_elsewhere who h i t j (one done) g ∙ e) k
  keeps_by (to_close j) f = go (eqb j i) refl f
    where
      go : (a : Bool) → eqb j i ≡ a → (a || ends_in who i cs) ≡ false
          → held_by (table_after (close_place_of t who j).table cs) who i ≡ some (on_runs r (cond a [] (calls_of who i cs)))
      go true g k = absurd (true≢false k)
      go false g k = rec (close_place_of t who j).table r (by_close who h i t j g ∙ e) k

  keeps_step : (c : TableCall) → ((eqb c.who who && ends_by i c.request) || ends_in who i cs) ≡ false
      → held_by (table_after (serve t c.who c.request).table cs) who i
      ≡ some (on_runs r (cond (eqb c.who who) (calls_by i c.request (calls_of who i cs)) (calls_of who i cs)))
  keeps_step c = go (eqb c.who who) refl
    where
      go : (b : Bool) → eqb c.who who ≡ b → ((b && ends_by i c.request) || ends_in who i cs) ≡ false
          → held_by (table_after (serve t c.who c.request).table cs) who i
          ≡ some (on_runs r (cond b (calls_by i c.request (calls_of who i cs)) (calls_of who i cs)))
      go true g f = ap (λ (n : ℕ). held_by (table_after (serve t n c.request).table cs) who i) (eqb-true _ _ g) ∙ keeps_by c.request f
      go false g f = rec (serve t c.who c.request).table r (by_other who h i t c.who c.request g ∙ e) f

keeps : (who : ℕ) → is_technician who ≡ true → (i : ℕ) (cs : List TableCall) → Keeps who i cs
keeps who h i [] = λ t r e f. e
keeps who h i (c ∷ cs) = λ t r e f. keeps_step who h i cs (keeps who h i cs) t r e c f

-- what the second part's calls are told
pub after_projected : (who : ℕ) → is_technician who ≡ true → (i : ℕ) (first rest : List TableCall) (t : ReaderTable) (r : Reader) → held_by t who i ≡ some r
    → told_after who i t first rest ≡ reader_told (on_runs r (calls_of who i first)) (calls_after who i first rest)
after_projected who h i first rest t r e = go (ends_in who i first) refl
  where
    go : (b : Bool) → ends_in who i first ≡ b
        → cond b [] (told_of who i (table_after t first) rest) ≡ reader_told (on_runs r (calls_of who i first)) (cond b [] (calls_of who i rest))
    go true f = refl
    go false f = projected who h i rest (table_after t first) (on_runs r (calls_of who i first)) (keeps who h i first t r e f)

-- One by one.

pub one_by_one_append : (cs : List RunCall) (r : Reader) (ds : List RunCall)
    → all_one_by_one r (cs ++ ds) ≡ all_one_by_one r cs ++ all_one_by_one (on_runs r cs) ds
one_by_one_append [] r ds = refl
one_by_one_append (c ∷ cs) r ds =
    ap (λ (l : List Call). one_by_one r c ++ l) (one_by_one_append cs (run_result r c).reader ds)
    ∙ sym (append_assoc (one_by_one r c) (all_one_by_one (run_result r c).reader cs) (all_one_by_one (on_runs (run_result r c).reader cs) ds))
