-- A run over nibbles end to end: it is the run over the first of them where that is answered; else the run over the others from there on,
-- with both counts.
use Rattle.std.specs.Prelude.{◌≡◌, Bool, cond, List, [], ◌∷◌, ◌++◌, ℕ, suc, ◌+◌, ◌-◌, ◌≤◌, eqb, leb, drop}
use Rattle.std.proofs.Math.Path.{refl}
use Rattle.std.proofs.Common.{◌∙◌, ap, ap₂, sym, subst, true≢false, zero-add, add-zero, eq-eqb, le-leb}
use Rattle.std.proofs.Math.Bool.{true, false}
use native.Mathlib.Omega.{arith}
use Rattle.std.proofs.Math.ListN.{length}
use Rattle.refusal.specs.Refusal.{not_a_nibble, bad_state, no_room}
use Rattle.profile.specs.declared.Profile.{Profile}
use Rattle.profile.specs.Profile.{body_length, longest}
use Rattle.stream.specs.Answers.{nothing, refused, answer_for, is_answer}
use Rattle.stream.specs.Nibbles.{AllNibbles}
use Rattle.reader_head.specs.declared.Head.{Head}
use Rattle.reader.specs.declared.Reader.{Reader}
use Rattle.reader_head.specs.Head.{passes}
use Rattle.reader.specs.Reader.{taking, reader_of}
use Rattle.reader.specs.ReaderLaws.{take_profile}
use Rattle.run.specs.Run.{Ran, ran, onward, run_of, lent_run_of}
use Rattle.reader_laws.specs.Passing.{Byte, Ok}
use Rattle.reader_laws.proofs.Passes.{passed, passes_test}
use Rattle.reader_laws.specs.ByRuns.{ByNibbles}
use Rattle.reader_laws.proofs.ByRunsLaws.{run_on}

-- a run with k nibbles before it
abbrev pub later : ℕ → Ran → Ran
later k t = ran t.reader t.outcome (k + t.taken)

-- From a reader on.

-- a nibble and the rest, by whether it is a nibble and whether it brings an answer
abbrev turn : Reader → ℕ → ℕ → Bool → Bool → Ran → Ran
turn r n i a b rest = cond a (cond b (ran (taking r n).reader (taking r n).outcome (i + 1)) rest) (ran r (refused not_a_nibble) i)

onward_later : (w : List ℕ) (r : Reader) (i : ℕ) → onward r w i ≡ later i (onward r w 0)
onward_later [] r i = ap (ran r nothing) (sym (add-zero i))
onward_later (n ∷ w) r i = go (leb n 15) (is_answer (answer_for (taking r n).outcome)) (onward_later w (taking r n).reader)
  where
    next : Reader
    next = (taking r n).reader

    go : (a b : Bool) → ((j : ℕ) → onward next w j ≡ later j (onward next w 0))
        → turn r n i a b (onward next w (i + 1)) ≡ later i (turn r n 0 a b (onward next w (0 + 1)))
    go false b rest = ap (ran r (refused not_a_nibble)) (sym (add-zero i))
    go true true rest = refl
    go true false rest =
        rest (i + 1)
        ∙ ap (ran (onward next w 0).reader (onward next w 0).outcome) (let k = (onward next w 0).taken in let z : i + 1 + k ≡ i + (0 + 1 + k) = omega arith in z)
        ∙ ap (later i) (sym (rest (0 + 1)))

onward_stays : (w v : List ℕ) (r : Reader) (i : ℕ) → is_answer (answer_for (onward r w i).outcome) ≡ true → onward r (w ++ v) i ≡ onward r w i
onward_stays [] v r i e = absurd (true≢false (sym e))
onward_stays (n ∷ w) v r i e = go (leb n 15) (is_answer (answer_for (taking r n).outcome)) (onward_stays w v (taking r n).reader (i + 1)) e
  where
    next : Reader
    next = (taking r n).reader

    go : (a b : Bool) → (is_answer (answer_for (onward next w (i + 1)).outcome) ≡ true → onward next (w ++ v) (i + 1) ≡ onward next w (i + 1))
        → is_answer (answer_for (turn r n i a b (onward next w (i + 1))).outcome) ≡ true
        → turn r n i a b (onward next (w ++ v) (i + 1)) ≡ turn r n i a b (onward next w (i + 1))
    go false b rest e = refl
    go true true rest e = refl
    go true false rest e = rest e

-- t is a run over k nibbles that was not answered, and whole the run over those and v
abbrev Went : Ran → ℕ → List ℕ → Ran → Type 0
Went t k v whole = (whole ≡ onward t.reader v k) × (t.taken ≡ k)

onward_goes : (w v : List ℕ) (r : Reader) (i : ℕ) → is_answer (answer_for (onward r w i).outcome) ≡ false → Went (onward r w i) (i + length w) v (onward r (w ++ v) i)
onward_goes [] v r i e = (ap (onward r v) (sym (add-zero i)), sym (add-zero i))
onward_goes (n ∷ w) v r i e = go (leb n 15) (is_answer (answer_for (taking r n).outcome)) refl (onward_goes w v (taking r n).reader (i + 1)) e
  where
    next : Reader
    next = (taking r n).reader

    go : (a b : Bool) → is_answer (answer_for (taking r n).outcome) ≡ b
        → (is_answer (answer_for (onward next w (i + 1)).outcome) ≡ false → Went (onward next w (i + 1)) (i + 1 + length w) v (onward next (w ++ v) (i + 1)))
        → is_answer (answer_for (turn r n i a b (onward next w (i + 1))).outcome) ≡ false
        → Went (turn r n i a b (onward next w (i + 1))) (i + suc (length w)) v (turn r n i a b (onward next (w ++ v) (i + 1)))
    go false b q rest e = absurd (true≢false e)
    go true true q rest e = absurd (true≢false (sym q ∙ e))
    go true false q rest e =
        subst (λ (k : ℕ). Went (onward next w (i + 1)) k v (onward next (w ++ v) (i + 1))) (let z : i + 1 + length w ≡ i + suc (length w) = omega arith in z) (rest e)

onward_profile : (w : List ℕ) (r : Reader) (i : ℕ) → (onward r w i).reader.head.profile ≡ r.head.profile
onward_profile [] r i = refl
onward_profile (n ∷ w) r i = go (leb n 15) (is_answer (answer_for (taking r n).outcome)) (onward_profile w (taking r n).reader (i + 1))
  where
    next : Reader
    next = (taking r n).reader

    same : next.head.profile ≡ r.head.profile
    same = take_profile r.head _ n

    go : (a b : Bool) → (onward next w (i + 1)).reader.head.profile ≡ next.head.profile
        → (turn r n i a b (onward next w (i + 1))).reader.head.profile ≡ r.head.profile
    go false b rest = refl
    go true true rest = same
    go true false rest = rest ∙ same

onward_within : (w : List ℕ) (r : Reader) (i : ℕ) → (onward r w i).taken ≤ i + length w
onward_within [] r i = omega arith
onward_within (n ∷ w) r i = go (leb n 15) (is_answer (answer_for (taking r n).outcome)) (onward_within w (taking r n).reader (i + 1))
  where
    next : Reader
    next = (taking r n).reader

    go : (a b : Bool) → (onward next w (i + 1)).taken ≤ i + 1 + length w → (turn r n i a b (onward next w (i + 1))).taken ≤ i + suc (length w)
    go false b rest = omega arith
    go true true rest = omega arith
    go true false rest = omega arith

-- nibbles leave the reader in a state that calls reach
onward_ok : {w : List ℕ} → AllNibbles w → (r : Reader) → Ok r.head → Ok (onward r w 0).reader.head
onward_ok q r ok = (run_on nothing_worked_out q r 0 ok).sound
  where
    nothing_worked_out : ByNibbles (Unit {0})
    nothing_worked_out = record { from = λ r w. tt; next = λ t w. tt; one = λ r n w. refl; ignores = λ r w. refl }

-- With a lent body and a line buffer.

module _ (h : Head) (body : List ℕ) (room : ℕ) where
  abbrev tested : Bool → Bool → Bool → Ran → Ran
  tested a b c t =
      cond a (cond b (cond c t (ran (reader_of h body) (refused no_room) 0)) (ran (reader_of h body) (refused bad_state) 0))
      (ran (reader_of h body) (refused bad_state) 0)

  abbrev right : Bool
  right = eqb (length body) longest

  abbrev roomy : Bool
  roomy = leb (body_length h.profile) room

  pub lent_stays : (w v : List ℕ) → is_answer (answer_for (lent_run_of h body w room).outcome) ≡ true → lent_run_of h body (w ++ v) room ≡ lent_run_of h body w room
  unfolding lent_run_of run_of
  lent_stays w v = go right (passes h) roomy
    where
      go : (a b c : Bool) → is_answer (answer_for (tested a b c (onward (reader_of h body) w 0)).outcome) ≡ true
          → tested a b c (onward (reader_of h body) (w ++ v) 0) ≡ tested a b c (onward (reader_of h body) w 0)
      go false b c e = refl
      go true false c e = refl
      go true true false e = refl
      go true true true e = onward_stays w v (reader_of h body) 0 e

  -- a run that is not answered has passed the tests
  tests_passed : (w : List ℕ) → is_answer (answer_for (lent_run_of h body w room).outcome) ≡ false → (right ≡ true) × (passes h ≡ true) × (roomy ≡ true)
  unfolding lent_run_of run_of
  tests_passed w = go right (passes h) roomy
    where
      go : (a b c : Bool) → is_answer (answer_for (tested a b c (onward (reader_of h body) w 0)).outcome) ≡ false → (a ≡ true) × (b ≡ true) × (c ≡ true)
      go false b c e = absurd (true≢false e)
      go true false c e = absurd (true≢false e)
      go true true false e = absurd (true≢false e)
      go true true true e = (refl, refl, refl)

  lent_is : (w : List ℕ) → right ≡ true → passes h ≡ true → roomy ≡ true → lent_run_of h body w room ≡ onward (reader_of h body) w 0
  unfolding lent_run_of run_of
  lent_is w e f g = simp (e, f, g)

  pub lent_within : (w : List ℕ) → (lent_run_of h body w room).taken ≤ length w
  unfolding lent_run_of run_of
  lent_within w = go right (passes h) roomy
    where
      go : (a b c : Bool) → (tested a b c (onward (reader_of h body) w 0)).taken ≤ length w
      go false b c = omega arith
      go true false c = omega arith
      go true true false = omega arith
      go true true true = let k = onward_within w (reader_of h body) 0 in omega arith

-- a run over w that is not answered, and the nibbles v after it
pub record Goes (h : Head) (body w v : List ℕ) (room : ℕ) (t : Ran) : Type 0 where
  pub count : t.taken ≡ length w
  pub onto : lent_run_of h body (w ++ v) room ≡ later (length w) (lent_run_of t.reader.head t.reader.body v room)
  pub sound : Ok t.reader.head
  pub profile : t.reader.head.profile ≡ h.profile

pub lent_goes : (h : Head) (body w v : List ℕ) (room : ℕ) → Byte h.at → AllNibbles w → is_answer (answer_for (lent_run_of h body w room).outcome) ≡ false
    → length (lent_run_of h body w room).reader.body ≡ length body → Goes h body w v room (lent_run_of h body w room)
lent_goes h body w v room byte small quiet same = by (lent_run_of h body w room) (lent_is h body room w p.0 p.1 p.2) quiet same
  where
    p : (eqb (length body) longest ≡ true) × (passes h ≡ true) × (leb (body_length h.profile) room ≡ true)
    p = tests_passed h body room w quiet

    by : (t : Ran) → t ≡ onward (reader_of h body) w 0 → is_answer (answer_for t.outcome) ≡ false → length t.reader.body ≡ length body → Goes h body w v room t
    by t e q s =
        let u = onward (reader_of h body) w 0 in
        let g = onward_goes w v (reader_of h body) 0 (sym (ap (λ (x : Ran). is_answer (answer_for x.outcome)) e) ∙ q) in
        let good : Ok t.reader.head = subst (λ (x : Ran). Ok x.reader.head) (sym e) (onward_ok small (reader_of h body) (record { byte = byte; test = passed h p.1 })) in
        let alike : t.reader.head.profile ≡ h.profile = ap (λ (x : Ran). x.reader.head.profile) e ∙ onward_profile w (reader_of h body) 0 in
        record {
          count = ap (λ (x : Ran). x.taken) e ∙ g.1 ∙ zero-add (length w);
          onto =
              lent_is h body room (w ++ v) p.0 p.1 p.2
              ∙ g.0
              ∙ ap₂ (λ (x : Ran) (k : ℕ). onward x.reader v k) (sym e) (zero-add (length w))
              ∙ onward_later v t.reader (length w)
              ∙ ap (later (length w))
              (sym
              (lent_is t.reader.head t.reader.body room v (ap (λ (n : ℕ). eqb n longest) s ∙ p.0) (passes_test t.reader.head good.test)
              (ap (λ (x : Profile). leb (body_length x) room) alike ∙ p.2)));
          sound = good;
          profile = alike;
        }

-- A run that goes on from another place, with what is read up to there.

shift : (x y : Ran) (i i' : ℕ) → later i x ≡ later i' y → i ≤ i' → x ≡ later (i' - i) y
shift x y i i' q l =
    let c : i + x.taken ≡ i' + y.taken = ap (λ (t : Ran). t.taken) q in
    ap (λ (r : Reader). ran r x.outcome x.taken) (ap (λ (t : Ran). t.reader) q)
    ∙ ap₂ (ran y.reader) (ap (λ (t : Ran). t.outcome) q) (let z : x.taken ≡ i' - i + y.taken = omega arith in z)

pub lent_leads : (s : List ℕ) (h h' : Head) (body body' : List ℕ) (i i' room : ℕ) → length body ≡ longest → length body' ≡ longest → passes h ≡ true → passes h' ≡ true
    → body_length h.profile ≤ room → h'.profile ≡ h.profile → i ≤ i' → onward (reader_of h body) (drop i s) i ≡ onward (reader_of h' body') (drop i' s) i'
    → lent_run_of h body (drop i s) room ≡ later (i' - i) (lent_run_of h' body' (drop i' s) room)
lent_leads s h h' body body' i i' room e e' p p' r same l leads =
    let x = onward (reader_of h body) (drop i s) 0 in
    let y = onward (reader_of h' body') (drop i' s) 0 in
    let q : later i x ≡ later i' y = sym (onward_later (drop i s) (reader_of h body) i) ∙ leads ∙ onward_later (drop i' s) (reader_of h' body') i' in
    let roomy = le-leb (body_length h.profile) room r in
    lent_is h body room (drop i s) (eq-eqb (length body) longest e) p roomy
    ∙ shift x y i i' q l
    ∙ ap (later (i' - i))
    (sym (lent_is h' body' room (drop i' s) (eq-eqb (length body') longest e') p' (ap (λ (x : Profile). leb (body_length x) room) same ∙ roomy)))
