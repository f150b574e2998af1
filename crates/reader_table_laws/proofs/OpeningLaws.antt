-- The calls of a place are told what the reader that it holds tells them: nobody else's call, and no call of another place, changes it.
use Rattle.std.specs.Prelude.{◌≡◌, refl, Bool, true, false, cond, List, [], ◌∷◌, ◌++◌, ℕ, eqb, ltb, length, take, None, Option as Optional, Some}
use Rattle.std.proofs.Common.{sym, ap, ◌∙◌, true≢false, eqb-true, eq-eqb, ne_eqb}
use Rattle.std.proofs.Math.Option.{Option, none, some}
use Rattle.std.proofs.lemmas.Bool.{eqb-false}
use Rattle.refusal.specs.Refusal.{no_such_technician, no_place_free}
use Rattle.profile.specs.declared.Profile.{Profile}
use Rattle.profile.specs.Profile.{profile_numbered}
use Rattle.stream.specs.Answers.{outcome_of}
use Rattle.reader.specs.declared.Reader.{Reader}
use Rattle.reader.specs.Reader.{fresh_reader}
use Rattle.recovery.specs.Calls.{feed, done, taken_by, Collector}
use Rattle.refinement.specs.ReaderCalls.{reader_call}
use Rattle.refinement.specs.Runs.{RunCall, run, one, run_result, runs_taken, runs_collected, run_collects, FinishLastRun}
use Rattle.refinement.specs.Runs as runs
use Rattle.reader_table.specs.declared.ReaderTable.{ReaderTable}
use Rattle.technician.specs.Technician.{is_technician}
use Rattle.reader_table.specs.Table.{nobody, place_at, held_by, lowest_free, Placing, at_place, not_placed, not_opened, opens_at, open_place, open_numbered, open_place_of, run_taken, call_place_of, close_place_of}
use Rattle.reader_table_laws.specs.History.{TableRequest, TableCall, TableReply, to_open, to_read, to_close, call_reply, TableServed, serve}
use Rattle.reader_table_laws.specs.Openings.{and_on, calls_by, calls_of, told_by, told_of, reader_told, nibbles_in, told_collected}
use Rattle.reader_table_laws.specs.Lending.{but}
use Rattle.reader_table_laws.specs.Places.{somebody, view, is_there, owned, lowest_free_lem}
use Rattle.reader_table_laws.specs.Views.{other_keeps, told_held, kept_held, kept_closed, kept_opened, opens, reads, closes}

-- An opening that is answered a place: it is a technician's, and the place was the lowest that was free.

abbrev place_in : Placing → ℕ → ℕ
place_in (at_place j) other = j
place_in (not_placed k) other = other

abbrev is_at : Placing → Bool
is_at (at_place j) = true
is_at (not_placed k) = false

refused_at : {A : Type 0} {k j : ℕ} → not_placed k ≡ at_place j → A
refused_at e = absurd (true≢false (sym (ap is_at e)))

pub opened_by_lem : (t : ReaderTable) (who n j : ℕ) → (open_place_of t who n).placing ≡ at_place j → (is_technician who ≡ true) × (lowest_free t.places ≡ j)
unfolding open_place_of open_place
opened_by_lem t who n j = go (is_technician who) (profile_numbered n) refl
  where
    at : (p : Profile) (b : Bool)
        → (cond b
        (opens_at t who p (lowest_free t.places))
        (not_opened t no_place_free)).placing
        ≡ at_place j
        → lowest_free t.places ≡ j
    at p true e = ap (λ (o : Placing). place_in o 0) e
    at p false e = refused_at e

    go : (a : Bool) (m : Optional Profile) → is_technician who ≡ a → (cond a (open_numbered t who m) (not_opened t no_such_technician)).placing ≡ at_place j
        → (is_technician who ≡ true) × (lowest_free t.places ≡ j)
    go true (Some p) h e = (h, at p (ltb (lowest_free t.places) (length t.places)) e)
    go true None h e = refused_at e
    go false m h e = refused_at e

in_front_lem : {x y : TableReply} {ts us : List TableReply} → x ≡ y → ts ≡ us → x ∷ ts ≡ y ∷ us
in_front_lem {x} {y} {ts} {us} e f = ap {B = List TableReply} (λ (z : TableReply). z ∷ ts) e ∙ ap {B = List TableReply} (λ l. y ∷ l) f

-- the calls of a place in a history are told what the reader that it holds tells
abbrev Projects : ℕ → ℕ → List TableCall → Type 0
Projects who i cs = (t : ReaderTable) (r : Reader) → held_by t who i ≡ some r → told_of who i t cs ≡ reader_told r (calls_of who i cs)

-- What is held at one place after a call.

pub but_same : (v : ℕ → Option Reader) (j : ℕ) (x : Option Reader) (i : ℕ) → eqb j i ≡ true → but v j x i ≡ x
but_same v j x i e = ap (λ (b : Bool). cond b x (v i)) (eq-eqb i j (sym (eqb-true j i e)))

but_other : (v : ℕ → Option Reader) (j : ℕ) (x : Option Reader) (i : ℕ) → eqb j i ≡ false → but v j x i ≡ v i
but_other v j x i e = ap (λ (b : Bool). cond b x (v i)) (ne_eqb i j (λ q. eqb-false j i e (sym q)))

module _ (who : ℕ) (h : is_technician who ≡ true) (i : ℕ) where
  -- another's call leaves it
  pub by_other : (t : ReaderTable) (other : ℕ) (q : TableRequest) → eqb other who ≡ false → held_by (serve t other q).table who i ≡ held_by t who i
  by_other t other q f = λ k. other_keeps who h other f t q k i

  -- so does an opening of one's own, which takes a free place
  pub by_opening : (t : ReaderTable) (n : ℕ) (r : Reader) → held_by t who i ≡ some r → held_by (open_place_of t who n).table who i ≡ some r
  by_opening t n r e = (λ k. opens who h t n k i) ∙ go (profile_numbered n) (open_place_of t who n).placing refl
    where
      apart : (j : ℕ) → (open_place_of t who n).placing ≡ at_place j → eqb j i ≡ false
      apart j a =
          ne_eqb j i
          (λ q.
          eqb-false nobody who (somebody who h)
          (sym (lowest_free_lem t) ∙ ap (λ (m : ℕ). (place_at t m).owner) ((opened_by_lem t who n j a).1 ∙ q) ∙ owned t who i r e))

      go : (m : Optional Profile) (o : Placing) → (open_place_of t who n).placing ≡ o → kept_opened (view who t) m o i ≡ some r
      go (Some p) (at_place j) a = but_other (view who t) j (some (fresh_reader p)) i (apart j a) ∙ e
      go (Some p) (not_placed k) a = e
      go None o a = e

  -- a call of the place is the reader's
  pub by_call : (t : ReaderTable) (j : ℕ) (c : RunCall) (r : Reader) → held_by t who i ≡ some r → eqb j i ≡ true
      → ((serve t who (to_read j c)).told ≡ call_reply (run_result r c).answer (run_taken r c) (run_result r c).buffer)
      × (held_by (call_place_of t who j c).table who i ≡ some (run_result r c).reader)
  by_call t j c r e f =
      let k = reads who h t j c in
      let v : held_by t who j ≡ some r = ap (λ (n : ℕ). held_by t who n) (eqb-true j i f) ∙ e in (
        k.0 ∙ ap (λ (o : Option Reader). told_held o c) v,
        (λ m. k.1 m i) ∙ ap (λ (o : Option Reader). kept_held (view who t) j c o i) v ∙ but_same (view who t) j (some (run_result r c).reader) i f,
      )

  -- a call or a close of another place leaves it
  pub by_elsewhere : (t : ReaderTable) (j : ℕ) (c : RunCall) → eqb j i ≡ false → held_by (call_place_of t who j c).table who i ≡ held_by t who i
  by_elsewhere t j c f = (λ m. (reads who h t j c).1 m i) ∙ go (held_by t who j)
    where
      go : (o : Option Reader) → kept_held (view who t) j c o i ≡ held_by t who i
      go none = refl
      go (some r) = but_other (view who t) j (some (run_result r c).reader) i f

  pub by_close : (t : ReaderTable) (j : ℕ) → eqb j i ≡ false → held_by (close_place_of t who j).table who i ≡ held_by t who i
  by_close t j f = (λ m. (closes who h t j).1 m i) ∙ go (held_by t who j)
    where
      go : (o : Option Reader) → kept_closed (view who t) j o i ≡ held_by t who i
      go none = refl
      go (some r) = but_other (view who t) j none i f

  -- its call, and what comes later
  call_projects : (cs : List TableCall) → Projects who i cs → (t : ReaderTable) (r : Reader) → held_by t who i ≡ some r → (j : ℕ) → eqb j i ≡ true → (d : RunCall)
      → and_on d (serve t who (to_read j d)).told (told_of who i (call_place_of t who j d).table cs) ≡ reader_told r (and_on d d (calls_of who i cs))
  call_projects cs rec t r e j f (run w buffer) =
      let k = by_call t j (run w buffer) r e f in
      in_front_lem k.0 (rec (call_place_of t who j (run w buffer)).table (run_result r (run w buffer)).reader k.1)
  call_projects cs rec t r e j f (one (feed n buffer)) =
      let k = by_call t j (one (feed n buffer)) r e f in
      in_front_lem k.0 (rec (call_place_of t who j (one (feed n buffer))).table (run_result r (one (feed n buffer))).reader k.1)
  call_projects cs rec t r e j f (one done) = in_front_lem (by_call t j (one done) r e f).0 refl

  own_projects : (cs : List TableCall) → Projects who i cs → (t : ReaderTable) (r : Reader) → held_by t who i ≡ some r → (q : TableRequest)
      → told_by i q (serve t who q).told (told_of who i (serve t who q).table cs) ≡ reader_told r (calls_by i q (calls_of who i cs))
  own_projects cs rec t r e (to_open n) = rec (open_place_of t who n).table r (by_opening t n r e)
  own_projects cs rec t r e (to_read j d) = at (eqb j i) refl
    where
      x : TableServed
      x = serve t who (to_read j d)

      at : (b : Bool) → eqb j i ≡ b
          → cond b (and_on d x.told (told_of who i x.table cs)) (told_of who i x.table cs)
          ≡ reader_told r (cond b (and_on d d (calls_of who i cs)) (calls_of who i cs))
      at true f = call_projects cs rec t r e j f d
      at false f = rec x.table r (by_elsewhere t j d f ∙ e)
  own_projects cs rec t r e (to_close j) = at (eqb j i) refl
    where
      at : (b : Bool) → eqb j i ≡ b → cond b [] (told_of who i (close_place_of t who j).table cs) ≡ reader_told r (cond b [] (calls_of who i cs))
      at true f = refl
      at false f = rec (close_place_of t who j).table r (by_close t j f ∙ e)

  step_projects : (c : TableCall) (cs : List TableCall) → Projects who i cs → Projects who i (c ∷ cs)
  step_projects c cs rec t r e = go (eqb c.who who) refl
    where
      s : TableServed
      s = serve t c.who c.request

      go : (b : Bool) → eqb c.who who ≡ b
          → cond b (told_by i c.request s.told (told_of who i s.table cs)) (told_of who i s.table cs)
          ≡ reader_told r (cond b (calls_by i c.request (calls_of who i cs)) (calls_of who i cs))
      go true f =
          ap (λ (n : ℕ). told_by i c.request (serve t n c.request).told (told_of who i (serve t n c.request).table cs)) (eqb-true _ _ f)
          ∙ own_projects cs rec t r e c.request
      go false f = rec s.table r (by_other t c.who c.request f ∙ e)

  pub projected : (cs : List TableCall) → Projects who i cs
  projected [] = λ t r e. refl
  projected (c ∷ cs) = step_projects c cs (projected cs)

-- an opening that is given a place leaves a fresh reader there
pub opened_fresh : (t : ReaderTable) (who n : ℕ) (p : Profile) (i : ℕ) → profile_numbered n ≡ Some p
    → (open_place_of t who n).placing ≡ at_place i
    → held_by (open_place_of t who n).table who i ≡ some (fresh_reader p)
opened_fresh t who n p i e f =
    (λ k. opens who (opened_by_lem t who n i f).0 t n k i)
    ∙ ap (λ (m : Optional Profile). kept_opened (view who t) m (open_place_of t who n).placing i) e
    ∙ ap (λ (o : Placing). kept_opened (view who t) (Some p) o i) f
    ∙ but_same (view who t) i (some (fresh_reader p)) i (eq-eqb i i refl)

-- so it is theirs
pub opened_theirs : (t : ReaderTable) (who n i : ℕ) → (open_place_of t who n).placing ≡ at_place i → is_there (held_by (open_place_of t who n).table who i) ≡ true
unfolding open_place_of
opened_theirs t who n i f = go (profile_numbered n) refl
  where
    not_opened_lem : {A : Type 0} (a : Bool) → (cond a (open_numbered t who None) (not_opened t no_such_technician)).placing ≡ at_place i → A
    not_opened_lem true e = refused_at e
    not_opened_lem false e = refused_at e

    go : (m : Optional Profile) → profile_numbered n ≡ m → is_there (held_by (open_place_of t who n).table who i) ≡ true
    go (Some p) e = ap is_there (opened_fresh t who n p i e f)
    go None e =
        not_opened_lem (is_technician who)
        (ap (λ (m : Optional Profile). (cond (is_technician who) (open_numbered t who m) (not_opened t no_such_technician)).placing) (sym e) ∙ f)

-- What a reader tells says what it took, and what is collected.

pub nibbles_told : (cs : List RunCall) (r : Reader) → nibbles_in cs (reader_told r cs) ≡ runs_taken r cs
nibbles_told [] r = refl
nibbles_told (run w buffer ∷ cs) r =
    ap (λ (l : List ℕ). take (run_taken r (run w buffer)) w ++ l) (nibbles_told cs (run_result r (run w buffer)).reader)
nibbles_told (one c ∷ cs) r = ap (taken_by c (reader_call r c).answer) (nibbles_told cs (reader_call r c).reader)

pub collected_told : {A : Type 0} (k : Collector A) (p : Profile) (cs : List RunCall) (r : Reader)
    → told_collected k p cs (reader_told r cs) ≡ runs_collected k p r cs
collected_told k p [] r = refl
collected_told {A} k p (c ∷ cs) r =
    ap (λ (l : List A). run_collects k c (outcome_of p (run_result r c).answer (run_result r c).buffer) ++ l)
    (collected_told k p cs (run_result r c).reader)

-- At most one finish, as the last call.

and_on_last : (d : RunCall) {cs : List RunCall} → FinishLastRun cs → FinishLastRun (and_on d d cs)
and_on_last (run w buffer) h = runs.run_first h
and_on_last (one (feed n buffer)) h = runs.feed_first h
and_on_last (one done) h = runs.done_last

calls_by_last : (i : ℕ) (q : TableRequest) {cs : List RunCall} → FinishLastRun cs → FinishLastRun (calls_by i q cs)
calls_by_last i (to_open n) h = h
calls_by_last i (to_read j d) {cs} h = go (eqb j i)
  where
    go : (b : Bool) → FinishLastRun (cond b (and_on d d cs) cs)
    go true = and_on_last d h
    go false = h
calls_by_last i (to_close j) {cs} h = go (eqb j i)
  where
    go : (b : Bool) → FinishLastRun (cond b [] cs)
    go true = runs.no_call
    go false = h

pub calls_last : (who i : ℕ) (h : List TableCall) → FinishLastRun (calls_of who i h)
calls_last who i [] = runs.no_call
calls_last who i (c ∷ h) = go (eqb c.who who) (calls_last who i h)
  where
    go : (b : Bool) → FinishLastRun (calls_of who i h) → FinishLastRun (cond b (calls_by i c.request (calls_of who i h)) (calls_of who i h))
    go true k = calls_by_last i c.request k
    go false k = k
