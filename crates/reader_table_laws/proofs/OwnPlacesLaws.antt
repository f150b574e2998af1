-- A technician holds a place exactly when they opened it and have not closed it since; and a call is refused 32 or 34 exactly when it is not of a
-- place that is held, since a reader itself refuses 1 to 12.
use Rattle.std.specs.Prelude.{◌≡◌, refl, Bool, true, false, cond, ◌&&◌, ◌||◌, List, [], ◌∷◌, ◌++◌, ℕ, ◌+◌, ◌≤◌, eqb, leb, length, take, drop, None, Option as Optional, Some}
use Rattle.std.proofs.Common.{sym, ap, ◌∙◌, subst, true≢false, arith, eqb-true, ne_eqb}
use Rattle.std.proofs.Math.Option.{Option, none, some}
use Rattle.refusal.specs.Refusal.{not_a_nibble, bad_state, no_room, no_such_technician, place_not_held}
use Rattle.profile.specs.Profile.{profile_numbered, body_length}
use Rattle.stream.specs.declared.Answer.{Answer}
use Rattle.stream.specs.declared.Answer.TheVariants as answers
use Rattle.stream.specs.Answers.{Outcome, nothing, line, gap, refused, answer_for}
use Rattle.mark_answer.specs.Sound.{refusal_of}
use Rattle.mark_answer.specs.SoundLaws.{at_most_nine, kept_sound}
use Rattle.reader.specs.declared.Reader.{Reader}
use Rattle.reader_head.specs.Head.{passes, flushed}
use Rattle.reader.specs.Reader.{Took, fresh_reader, taking, feed_of, finish_of}
use Rattle.reader.specs.ReaderLaws.{take_sound}
use Rattle.run.specs.Run.{Ran, ran, onward, stop_place, run_of}
use Rattle.run.specs.Stopping.{taking_all, stopping}
use Rattle.run.specs.RunLaws.{up_to_stop}
use Rattle.reader_laws.proofs.Passes.{Feeding, feed_state, feed_nibble, feed_room, feed_taken, feeding, Finishing, finish_state, finish_taken, finishing}
use Rattle.recovery.specs.Calls.{feed, done}
use Rattle.refinement.specs.Runs.{RunCall, run, one, run_result}
use Rattle.reader_table.specs.declared.ReaderTable.{ReaderTable}
use Rattle.technician.specs.Technician.{is_technician}
use Rattle.reader_table.specs.Table.{empty_table, held_by, Placing, at_place, not_placed, open_place_of, call_place_of, close_place_of}
use Rattle.reader_table_laws.specs.History.{TableRequest, to_open, to_read, to_close, TableCall, TableReply, open_reply, call_reply, serve, table_after}
use Rattle.reader_table_laws.specs.Places.{view, is_there}
use Rattle.reader_table_laws.specs.Views.{told_held, kept_held, told_closed, kept_closed, kept_opened, opens, reads, closes, strange, stranger}
use Rattle.reader_table_laws.proofs.OpeningLaws.{opened_by_lem, opened_theirs, but_same, by_other, by_opening, by_call, by_elsewhere, by_close}
use Rattle.reader_table_laws.specs.Reached.{none_in_empty}
use Rattle.reader_table_laws.specs.OwnPlaces.{is_denial, is_close, closes_in, OpenedIn, OnlyOpened}
use Rattle.profile.specs.declared.Profile.{Profile}

-- What a reader itself answers is neither 32 nor 34.

no_denial : (o : Outcome) → refusal_of o ≤ no_room → is_denial (answer_for o) ≡ false
no_denial nothing l = refl
no_denial (line f body) l = refl
no_denial (gap g) l = refl
no_denial (refused n) l = simp (ne_eqb n no_such_technician (λ e. omega (arith, l, e)), ne_eqb n place_not_held (λ e. omega (arith, l, e)))

fed_small : {r : Reader} {n room : ℕ} {t : Took} → Feeding r n room t → refusal_of t.outcome ≤ no_room
fed_small (feed_state e) = omega arith
fed_small (feed_nibble e) = omega arith
fed_small (feed_room e) = omega arith
fed_small {r} {n} (feed_taken e) = omega (arith, at_most_nine (take_sound r.head r.body n))

finish_small : {r : Reader} {t : Took} → Finishing r t → refusal_of t.outcome ≤ no_room
finish_small (finish_state e) = omega arith
finish_small {r} finish_taken =
    omega (arith, at_most_nine (kept_sound r.head.profile r.head.at r.head.count (flushed 8 r.head).kept [] none))

stop_small : (r : Reader) (w : List ℕ) (i : ℕ) → refusal_of (stopping r w i).outcome ≤ no_room
stop_small r [] i = omega arith
stop_small r (n ∷ w) i = go (leb n 15)
  where
    go : (b : Bool) → refusal_of (cond b (ran (taking r n).reader (taking r n).outcome (i + 1)) (ran r (refused not_a_nibble) i)).outcome ≤ no_room
    go true = omega (arith, at_most_nine (take_sound r.head r.body n))
    go false = omega arith

run_small : (r : Reader) (w : List ℕ) (room : ℕ) → refusal_of (run_of r w room).outcome ≤ no_room
unfolding run_of
run_small r w room = go (passes r.head) (leb (body_length r.head.profile) room)
  where
    go : (a b : Bool) → refusal_of (cond a (cond b (onward r w 0) (ran r (refused no_room) 0)) (ran r (refused bad_state) 0)).outcome ≤ no_room
    go false b = omega arith
    go true false = omega arith
    go true true =
        subst (λ (x : Ran). refusal_of x.outcome ≤ no_room) (sym (up_to_stop r w))
        (stop_small (taking_all r (take (stop_place r w) w)) (drop (stop_place r w) w) (stop_place r w))

reader_allows : (r : Reader) (c : RunCall) → is_denial (run_result r c).answer ≡ false
reader_allows r (run w buffer) = no_denial (run_of r w (length buffer)).outcome (run_small r w (length buffer))
reader_allows r (one (feed n buffer)) = no_denial (feed_of r n (length buffer)).outcome (fed_small (feeding r n (length buffer)))
reader_allows r (one done) = no_denial (finish_of r).outcome (finish_small (finishing r))

-- A place stays held until it is closed.

quiet : (b x y : Bool) → x ≡ false → y ≡ false → ((b && x) || y) ≡ false
quiet true x y e f = simp (e, f)
quiet false x y e f = f

held_as : {A : Type 0} (o : Option Reader) → is_there o ≡ true → ((r : Reader) → o ≡ some r → A) → A
held_as none e f = absurd (true≢false (sym e))
held_as (some r) e f = f r refl

module _ (who : ℕ) (h : is_technician who ≡ true) (i : ℕ) where
  abbrev Theirs : ReaderTable → Type 0
  Theirs t = is_there (held_by t who i) ≡ true

  own_stays : (t : ReaderTable) (q : TableRequest) → is_close i q ≡ false → Theirs t → Theirs (serve t who q).table
  own_stays t (to_open n) f e = held_as (held_by t who i) e (λ r g. ap is_there (by_opening who h i t n r g))
  own_stays t (to_read j c) f e = go (eqb j i) refl
    where
      go : (b : Bool) → eqb j i ≡ b → Theirs (call_place_of t who j c).table
      go true k = held_as (held_by t who i) e (λ r g. ap is_there (by_call who h i t j c r g k).1)
      go false k = ap is_there (by_elsewhere who h i t j c k) ∙ e
  own_stays t (to_close j) f e = ap is_there (by_close who h i t j f) ∙ e

  stays : (cs : List TableCall) (t : ReaderTable) → closes_in who i cs ≡ false → Theirs t → Theirs (table_after t cs)
  stays [] t f e = e
  stays (c ∷ cs) t f e = let k = go (eqb c.who who) (is_close i c.request) refl refl f in stays cs (serve t c.who c.request).table k.0 k.1
    where
      go : (b x : Bool) → eqb c.who who ≡ b → is_close i c.request ≡ x → ((b && x) || closes_in who i cs) ≡ false
          → (closes_in who i cs ≡ false) × Theirs (serve t c.who c.request).table
      go true true g k f = absurd (true≢false f)
      go true false g k f = (f, subst (λ (n : ℕ). Theirs (serve t n c.request).table) (sym (eqb-true _ _ g)) (own_stays t c.request k e))
      go false x g k f = (f, ap is_there (by_other who h i t c.who c.request g) ∙ e)

  -- A place that is held after a history was held before it, or opened in it, and not closed since.

  data Since (t : ReaderTable) (cs : List TableCall) : Type 0 where
    held_before : Theirs t → closes_in who i cs ≡ false → Since t cs
    opened_since : OpenedIn t who i cs → Since t cs

  abbrev their_call : TableRequest → TableCall
  their_call q = record { who = who; request = q }

  module _ (t : ReaderTable) (cs : List TableCall) (f : closes_in who i cs ≡ false) where
    kept_open : (q : TableRequest) → is_close i q ≡ false → Theirs t → Since t (their_call q ∷ cs)
    kept_open q k e = held_before e (quiet (eqb who who) (is_close i q) (closes_in who i cs) k f)

    own_since : (q : TableRequest) → Theirs (serve t who q).table → Since t (their_call q ∷ cs)
    own_since (to_open n) e = go (profile_numbered n) (open_place_of t who n).placing refl (sym (ap is_there (λ k. opens who h t n k i)) ∙ e)
      where
        at : (j : ℕ) (r : Reader) (b : Bool) → eqb i j ≡ b → (open_place_of t who n).placing ≡ at_place j → is_there (cond b (some r) (held_by t who i)) ≡ true
            → Since t (their_call (to_open n) ∷ cs)
        at j r true g p e =
            opened_since (record { before = []; profile = n; after = cs; has_opening = refl; given = p ∙ ap at_place (sym (eqb-true i j g)); not_closed = f })
        at j r false g p e = kept_open (to_open n) refl e

        go : (m : Optional Profile) (o : Placing) → (open_place_of t who n).placing ≡ o → is_there (kept_opened (view who t) m o i) ≡ true
            → Since t (their_call (to_open n) ∷ cs)
        go (Some p) (at_place j) g e = at j (fresh_reader p) (eqb i j) refl g e
        go (Some p) (not_placed k) g e = kept_open (to_open n) refl e
        go None o g e = kept_open (to_open n) refl e
    own_since (to_read j c) e = kept_open (to_read j c) refl (go (eqb j i) refl)
      where
        here : (o : Option Reader) → held_by t who j ≡ o → eqb j i ≡ true → is_there (kept_held (view who t) j c o i) ≡ true → Theirs t
        here none g k e = e
        here (some r) g k e = ap (λ (n : ℕ). is_there (held_by t who n)) (sym (eqb-true j i k)) ∙ ap is_there g

        go : (b : Bool) → eqb j i ≡ b → Theirs t
        go true k = here (held_by t who j) refl k (sym (ap is_there (λ m. (reads who h t j c).1 m i)) ∙ e)
        go false k = ap is_there (sym (by_elsewhere who h i t j c k)) ∙ e
    own_since (to_close j) e = go (eqb j i) refl
      where
        given_back : (o : Option Reader) → held_by t who j ≡ o → eqb j i ≡ true → is_there (kept_closed (view who t) j o i) ≡ true → true ≡ false
        given_back none g k e = sym e ∙ ap (λ (n : ℕ). is_there (held_by t who n)) (sym (eqb-true j i k)) ∙ ap is_there g
        given_back (some r) g k e = sym e ∙ ap is_there (but_same (view who t) j none i k)

        go : (b : Bool) → eqb j i ≡ b → Since t (their_call (to_close j) ∷ cs)
        go true k = absurd (true≢false (given_back (held_by t who j) refl k (sym (ap is_there (λ m. (closes who h t j).1 m i)) ∙ e)))
        go false k = kept_open (to_close j) k (ap is_there (sym (by_close who h i t j k)) ∙ e)

  since : (cs : List TableCall) (t : ReaderTable) → Theirs (table_after t cs) → Since t cs
  since [] t e = held_before e refl
  since (c ∷ cs) t e = go (since cs (serve t c.who c.request).table e)
    where
      by : (b : Bool) → eqb c.who who ≡ b → Theirs (serve t c.who c.request).table → closes_in who i cs ≡ false → Since t (c ∷ cs)
      by true g k f =
          subst (λ (n : ℕ). Theirs (serve t n c.request).table → Since t (record { who = n; request = c.request } ∷ cs)) (sym (eqb-true _ _ g))
          (own_since t cs f c.request) k
      by false g k f =
          held_before (ap is_there (sym (by_other who h i t c.who c.request g)) ∙ k)
          (ap (λ (b : Bool). (b && is_close i c.request) || closes_in who i cs) g ∙ f)

      go : Since (serve t c.who c.request).table cs → Since t (c ∷ cs)
      go (held_before k f) = by (eqb c.who who) refl k f
      go (opened_since o) =
          opened_since
          (record {
            before = c ∷ o.before;
            profile = o.profile;
            after = o.after;
            has_opening = ap {B = List TableCall} (λ (l : List TableCall). c ∷ l) o.has_opening;
            given = o.given;
            not_closed = o.not_closed;
          })

  -- held exactly when opened and not closed since, from an empty table on

  pub held_opened : (cs : List TableCall) → Theirs (table_after empty_table cs) → OpenedIn empty_table who i cs
  held_opened cs e = go (since cs empty_table e)
    where
      go : Since empty_table cs → OpenedIn empty_table who i cs
      go (held_before k f) = absurd (true≢false (sym k ∙ ap is_there (none_in_empty who h i)))
      go (opened_since o) = o

  pub opened_held : (cs : List TableCall) (t : ReaderTable) → OpenedIn t who i cs → Theirs (table_after t cs)
  opened_held cs t o =
      subst (λ (l : List TableCall). Theirs (table_after t l)) o.has_opening
      (subst Theirs (sym (after_append o.before t (their_call (to_open o.profile) ∷ o.after)))
      (stays o.after (open_place_of (table_after t o.before) who o.profile).table o.not_closed
      (opened_theirs (table_after t o.before) who o.profile i o.given)))
    where
      after_append : (first : List TableCall) (t : ReaderTable) (rest : List TableCall) → table_after t (first ++ rest) ≡ table_after (table_after t first) rest
      after_append [] t rest = refl
      after_append (c ∷ first) t rest = after_append first (serve t c.who c.request).table rest

-- An answer is neither 32 nor 34 exactly when the place is held.

abbrev answer_told : TableReply → Answer
answer_told (open_reply o) = answers.Nothing
answer_told (call_reply a n buffer) = a

module _ (who : ℕ) (i : ℕ) (cs : List TableCall) where
  abbrev left : ReaderTable
  left = table_after empty_table cs

  refused_first : is_technician who ≡ false → (q : TableRequest) → is_denial (answer_told (strange q)) ≡ true → is_denial (answer_told (serve left who q).told) ≡ true
  refused_first h q e = ap (λ x. is_denial (answer_told x.told)) (stranger who h left q) ∙ e

  called : (c : RunCall) (o : Option Reader) → is_denial (answer_told (told_held o c)) ≡ false → is_there o ≡ true
  called c none e = absurd (true≢false e)
  called c (some r) e = refl

  allowed : (c : RunCall) (o : Option Reader) → is_there o ≡ true → is_denial (answer_told (told_held o c)) ≡ false
  allowed c none e = absurd (true≢false (sym e))
  allowed c (some r) e = reader_allows r c

  closed : (o : Option Reader) → is_denial (answer_told (told_closed o)) ≡ false → is_there o ≡ true
  closed none e = absurd (true≢false e)
  closed (some r) e = refl

  closes_allowed : (o : Option Reader) → is_there o ≡ true → is_denial (answer_told (told_closed o)) ≡ false
  closes_allowed none e = absurd (true≢false (sym e))
  closes_allowed (some r) e = refl

  technician : OpenedIn empty_table who i cs → is_technician who ≡ true
  technician o = (opened_by_lem (table_after empty_table o.before) who o.profile i o.given).0

  -- each feeds, finishes and closes only places they opened
  pub only_opened : OnlyOpened who i cs
  only_opened =
      record {
        called_opened = λ c. by_call_of c (is_technician who) refl;
        opened_called = λ c o.
            let h = technician o in
            ap (λ (x : TableReply). is_denial (answer_told x)) (reads who h left i c).0 ∙ allowed c (held_by left who i) (opened_held who h i cs empty_table o);
        closed_opened = by_close_of (is_technician who) refl;
        opened_closed = λ o.
            let h = technician o in
            ap (λ (x : TableReply). is_denial (answer_told x)) (closes who h left i).0 ∙ closes_allowed (held_by left who i) (opened_held who h i cs empty_table o);
      }
    where
      by_call_of : (c : RunCall) (b : Bool) → is_technician who ≡ b → is_denial (call_place_of left who i c).answer ≡ false → OpenedIn empty_table who i cs
      by_call_of c true h e =
          held_opened who h i cs (called c (held_by left who i) (ap (λ (x : TableReply). is_denial (answer_told x)) (sym (reads who h left i c).0) ∙ e))
      by_call_of c false h e = absurd (true≢false (sym (refused_first h (to_read i c) refl) ∙ e))

      by_close_of : (b : Bool) → is_technician who ≡ b → is_denial (close_place_of left who i).answer ≡ false → OpenedIn empty_table who i cs
      by_close_of true h e =
          held_opened who h i cs (closed (held_by left who i) (ap (λ (x : TableReply). is_denial (answer_told x)) (sym (closes who h left i).0) ∙ e))
      by_close_of false h e = absurd (true≢false (sym (refused_first h (to_close i) refl) ∙ e))
