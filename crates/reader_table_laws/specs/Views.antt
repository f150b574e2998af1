-- What a call does to all that a technician holds: another's leaves it, their own changes it as it says.
use Rattle.std.specs.Prelude.{◌≡◌, Bool, cond, [], ℕ, length, None, Option as Optional, Some}
use Rattle.std.proofs.Math.Path.{refl, ap}
use Rattle.std.proofs.Common.{sym, ◌∙◌, true≢false, ltb-true, eq-eqb}
use Rattle.std.proofs.Math.Bool.{true, false}
use Rattle.std.proofs.Math.Option.{Option, none, some}
use Rattle.std.proofs.Math.Dec.{eqb, ltb}
use Rattle.refusal.specs.Refusal.{no_such_technician, no_place_free, place_not_held}
use Rattle.profile.specs.declared.Profile.{Profile}
use Rattle.profile.specs.Profile.{profile_numbered}
use Rattle.stream.specs.Answers.{nothing, refused, answer_for}
use Rattle.reader.specs.declared.Reader.{Reader}
use Rattle.reader.specs.Reader.{fresh_reader}
use Rattle.refinement.specs.Runs.{RunCall, run_result}
use Rattle.reader_table.specs.declared.ReaderTable.{ReaderTable}
use Rattle.technician.specs.Technician.{is_technician}
use Rattle.reader_table.specs.Table.{place_for, free_place, held_by, lowest_free, Placing, at_place, not_placed, not_opened, opens_at, open_place, open_numbered, open_place_of, not_called, lent_to, run_taken, call_held, call_place_of, close_held, close_place_of}
use Rattle.reader_table_laws.specs.History.{TableRequest, TableReply, to_open, to_read, to_close, open_reply, call_reply, served, serve}
use Rattle.reader_table_laws.specs.Lending.{but}
use Rattle.reader_table_laws.specs.Places.{somebody, holding, view, view_put, view_foreign, owned, there, lowest_free_lem}

-- Other technicians' calls leave all that a technician holds.

module _ (who : ℕ) (h : is_technician who ≡ true) (other : ℕ) (f : eqb other who ≡ false) (t : ReaderTable) where
  not_theirs : (n : ℕ) → n ≡ other → eqb n who ≡ false
  not_theirs n e = ap (λ (m : ℕ). eqb m who) e ∙ f

  other_opens : (n : ℕ) → view who (open_place_of t other n).table ≡ view who t
  unfolding open_place_of open_place
  other_opens n = go (is_technician other) (profile_numbered n)
    where
      at : (p : Profile) (b : Bool)
          → view who
          (cond b
          (opens_at t other p (lowest_free t.places))
          (not_opened t no_place_free)).table
          ≡ view who t
      at p true =
          view_foreign who t (lowest_free t.places) (place_for other (fresh_reader p)) (somebody who h)
          (ap (λ (m : ℕ). eqb m who) (lowest_free_lem t) ∙ somebody who h) f
      at p false = refl

      go : (a : Bool) (m : Optional Profile) → view who (cond a (open_numbered t other m) (not_opened t no_such_technician)).table ≡ view who t
      go true (Some p) = at p (ltb (lowest_free t.places) (length t.places))
      go true None = refl
      go false m = refl

  other_reads : (i : ℕ) (c : RunCall) → view who (call_place_of t other i c).table ≡ view who t
  unfolding call_place_of
  other_reads i c = go (is_technician other) (held_by t other i) refl
    where
      go : (a : Bool) (o : Option Reader) → held_by t other i ≡ o
          → view who (cond a (call_held o t other i c) (not_called t no_such_technician (lent_to c))).table ≡ view who t
      go false o e = refl
      go true none e = refl
      go true (some r) e = view_foreign who t i (place_for other (run_result r c).reader) (somebody who h) (not_theirs _ (owned t other i r e)) f

  other_closes : (i : ℕ) → view who (close_place_of t other i).table ≡ view who t
  unfolding close_place_of
  other_closes i = go (is_technician other) (held_by t other i) refl
    where
      go : (a : Bool) (o : Option Reader) → held_by t other i ≡ o
          → view who (cond a (close_held o t i) (not_called t no_such_technician [])).table ≡ view who t
      go false o e = refl
      go true none e = refl
      go true (some r) e = view_foreign who t i free_place (somebody who h) (not_theirs _ (owned t other i r e)) (somebody who h)

  pub other_keeps : (q : TableRequest) → view who (serve t other q).table ≡ view who t
  other_keeps (to_open n) = other_opens n
  other_keeps (to_read i c) = other_reads i c
  other_keeps (to_close i) = other_closes i

-- A technician's own calls: what they are told, and what they hold then, of what they hold.

-- what a call of a place is told
abbrev pub told_held : Option Reader → RunCall → TableReply
told_held none c = call_reply (answer_for (refused place_not_held)) 0 (lent_to c)
told_held (some r) c = call_reply (run_result r c).answer (run_taken r c) (run_result r c).buffer

-- what one holds after a call of a place
abbrev pub kept_held : (ℕ → Option Reader) → ℕ → RunCall → Option Reader → ℕ → Option Reader
kept_held v i c none = v
kept_held v i c (some r) = but v i (some (run_result r c).reader)

-- what a close is told
abbrev pub told_closed : Option Reader → TableReply
told_closed none = call_reply (answer_for (refused place_not_held)) 0 []
told_closed (some r) = call_reply (answer_for nothing) 0 []

-- what one holds after a close
abbrev pub kept_closed : (ℕ → Option Reader) → ℕ → Option Reader → ℕ → Option Reader
kept_closed v i none = v
kept_closed v i (some r) = but v i none

-- what one holds after an opening
abbrev pub kept_opened : (ℕ → Option Reader) → Optional Profile → Placing → ℕ → Option Reader
kept_opened v (Some p) (at_place i) = but v i (some (fresh_reader p))
kept_opened v (Some p) (not_placed k) = v
kept_opened v None o = v

module _ (who : ℕ) (h : is_technician who ≡ true) where
  -- what is held where a technician stores a place of their own
  mine : (r : Reader) → holding who (place_for who r) ≡ some r
  mine r = ap (λ (b : Bool). cond b (some r) none) (eq-eqb who who refl)

  given_back : holding who free_place ≡ none
  given_back = ap (λ (b : Bool). cond b (some free_place.reader) none) (somebody who h)

  pub opens : (t : ReaderTable) (n : ℕ) → view who (open_place_of t who n).table ≡ kept_opened (view who t) (profile_numbered n) (open_place_of t who n).placing
  unfolding open_place_of open_place
  opens t n = go (is_technician who) (profile_numbered n) h
    where
      at : (p : Profile) (b : Bool) → ltb (lowest_free t.places) (length t.places) ≡ b
          → view who
          (cond b
          (opens_at t who p (lowest_free t.places))
          (not_opened t no_place_free)).table
          ≡ kept_opened (view who t) (Some p)
          (cond b
          (opens_at t who p (lowest_free t.places))
          (not_opened t no_place_free)).placing
      at p true l =
          view_put who t (lowest_free t.places) (place_for who (fresh_reader p)) (ltb-true _ _ l)
          ∙ ap (λ (o : Option Reader). but (view who t) (lowest_free t.places) o) (mine (fresh_reader p))
      at p false l = refl

      go : (a : Bool) (m : Optional Profile) → a ≡ true
          → view who (cond a (open_numbered t who m) (not_opened t no_such_technician)).table
          ≡ kept_opened (view who t) m (cond a (open_numbered t who m) (not_opened t no_such_technician)).placing
      go true (Some p) e = at p (ltb (lowest_free t.places) (length t.places)) refl
      go true None e = refl
      go false (Some p) e = refl
      go false None e = refl

  pub reads : (t : ReaderTable) (i : ℕ) (c : RunCall)
      → ((serve t who (to_read i c)).told ≡ told_held (view who t i) c)
      × (view who (call_place_of t who i c).table ≡ kept_held (view who t) i c (view who t i))
  unfolding call_place_of
  reads t i c = go (is_technician who) (held_by t who i) h refl
    where
      go : (a : Bool) (o : Option Reader) → a ≡ true → held_by t who i ≡ o
          → ((served (cond a (call_held o t who i c) (not_called t no_such_technician (lent_to c)))).told ≡ told_held o c)
          × (view who (cond a (call_held o t who i c) (not_called t no_such_technician (lent_to c))).table ≡ kept_held (view who t) i c o)
      go true none a e = (refl, refl)
      go true (some r) a e = (
        refl,
        view_put who t i (place_for who (run_result r c).reader) (there t who i r h e)
            ∙ ap (λ (o : Option Reader). but (view who t) i o) (mine (run_result r c).reader),
      )
      go false o a e = absurd (true≢false (sym a))

  pub closes : (t : ReaderTable) (i : ℕ)
      → ((serve t who (to_close i)).told ≡ told_closed (view who t i))
      × (view who (close_place_of t who i).table ≡ kept_closed (view who t) i (view who t i))
  unfolding close_place_of
  closes t i = go (is_technician who) (held_by t who i) h refl
    where
      go : (a : Bool) (o : Option Reader) → a ≡ true → held_by t who i ≡ o
          → ((served (cond a (close_held o t i) (not_called t no_such_technician []))).told ≡ told_closed o)
          × (view who (cond a (close_held o t i) (not_called t no_such_technician [])).table ≡ kept_closed (view who t) i o)
      go true none a e = (refl, refl)
      go true (some r) a e = (
        refl,
        view_put who t i free_place (there t who i r h e) ∙ ap (λ (o : Option Reader). but (view who t) i o) given_back,
      )
      go false o a e = absurd (true≢false (sym a))

-- A number that is no technician's: 32, and nothing changes.

-- what a number that is no technician's is told
abbrev pub strange : TableRequest → TableReply
strange (to_open n) = open_reply (not_placed no_such_technician)
strange (to_read i c) = call_reply (answer_for (refused no_such_technician)) 0 (lent_to c)
strange (to_close i) = call_reply (answer_for (refused no_such_technician)) 0 []

pub stranger : (who : ℕ) → is_technician who ≡ false → (t : ReaderTable) (q : TableRequest) → serve t who q ≡ record { table = t; told = strange q }
unfolding open_place_of call_place_of close_place_of
stranger who h t (to_open n) = simp (h)
stranger who h t (to_read i c) = simp (h)
stranger who h t (to_close i) = simp (h)
