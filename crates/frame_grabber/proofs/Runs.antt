-- A piece run by run: a run leaves what is sought the same, since the nibbles before its answer bring nothing; so what is said at the first
-- answer that says something is what is sought.
use Rattle.std.specs.Prelude.{None, Some, Err, Ok as Unrefused}
use mathlib.Core.Path.{◌≡◌, refl, sym, ap, ap₂, subst, ◌∙◌}
use mathlib.Core.Bool.{Bool, true, false, cond, ◌&&◌, not, true≢false}
use mathlib.Core.List.{List, []}
use Prim.Native.Nat.{ℕ, ◌+◌, ◌-◌, ◌*◌, ◌/◌, ◌≤◌, ◌<◌}
use native.Mathlib.Nat.{zero-add}
use native.Mathlib.Omega.{arith}
use lib.Dec.{ltb}
use lib.ListN.{length, drop, get_or, length-drop, drop_of_length-le}
use lib.Seq.{drop-drop}
use borrow.Author.Tests.{ltb-true, ltb-false}
use Rattle.refusal.specs.Refusal.{bad_state}
use Rattle.profile.specs.Profile.{longest}
use Rattle.stream.specs.declared.Answer.{Answer}
use Rattle.stream.specs.declared.Answer.TheVariants as answers
use Rattle.stream.specs.Answers.{answer_for, buffer_after}
use Rattle.stream.specs.AnswersLaws.{answer_of}
use Rattle.stream.specs.Written.{nibbles}
use Rattle.stream.specs.NibblesLaws.{all_nibbles_drop, nibbles_length}
use Rattle.reader_head.specs.declared.Head.{Head}
use Rattle.reader.specs.declared.Reader.{Reader}
use Rattle.reader_head.specs.Head.{passes}
use Rattle.run.specs.declared.RunStepped.{RunStepped}
use Rattle.run.specs.Run.{Ran, lent_run_of, onward}
use Rattle.run.specs.Gives.{LentRunGives}
use Rattle.reader_laws.specs.Passing.{Ok}
use Rattle.reader_laws.specs.ByRuns.{ByNibbles, RunOn}
use Rattle.reader_laws.proofs.ByRunsLaws.{run_on, lent_onward}
use Rattle.capture_bytes.specs.UnpackedLaws.{nibbles_small}
use Rattle.frame_rows.specs.declared.Gatherer.{Gatherer}
use Rattle.frame_rows.specs.declared.Gathered.{Gathered}
use Rattle.frame_rows.specs.FrameRows.{AfterCall, Output, Progress, output_of, quiet, take_of}
use Rattle.frame_rows.specs.FrameRows as rows
use Rattle.frame_rows_laws.specs.Gathering.{call}
use Rattle.frame_grabber.specs.declared.Grabber.{Grabber}
use Rattle.frame_grabber.specs.FrameGrabber.{blank, given, is_said, Sought, sought, seek, After, leaving, grab_of, Grabs}
use Rattle.frame_grabber.specs.SeekLaws.{not_said}
use Rattle.frame_grabber.specs.PieceLaws.{grab_is, grab_fails}

abbrev pub reader : Head → List ℕ → Reader
reader h body = record { head = h; body = body }

-- a gatherer, what it says, and the rows' buffer
abbrev outcome : Gatherer → Progress → List ℕ → AfterCall
outcome g p held = record { gatherer = g; output = output_of p held; buffer = held }

-- whether something is said does not depend on the rows
said_alike : (p : Progress) (held : List ℕ) → is_said (output_of p held) ≡ is_said (output_of p [])
said_alike (Unrefused None) held = refl
said_alike (Unrefused (Some n)) held = refl
said_alike (Err r) held = refl

-- where an answer was handed to the gatherer, with the nibbles still to come: it stops, or goes on
abbrev on_answer : Reader → AfterCall → List ℕ → Sought
on_answer r x w = cond (is_said x.output) (sought r x w) (seek r x.gatherer x.buffer w)

-- What is sought, worked out from nibbles one by one; one that is not answered changes none of it.

not_told : (r : Reader) (g : Gatherer) (held w : List ℕ) → on_answer r (take_of g answers.Nothing blank held) w ≡ seek r g held w
unfolding take_of
not_told r g held w = refl

abbrev seeking : Gatherer → List ℕ → ByNibbles Sought
seeking g held =
    record {
      from = λ r w. seek r g held w;
      next = λ t w. on_answer t.reader (call (quiet g held) (given t)) w;
      one = λ r n w. refl;
      ignores = λ r w. not_told r g held w;
    }

-- Many runs.

-- a reader and a gatherer that seek in the nibbles of bytes from one place on are at another: the reader and the gatherer there, and what was
-- said last
pub record Along (r : Reader) (g : Gatherer) (bytes held : List ℕ) (from at : ℕ) (h : Head) (body : List ℕ) (m : Gatherer) (p : Progress) (held' : List ℕ) : Type 0 where
  pub forward : from ≤ at
  pub within : at - from ≤ 2 * length bytes - from
  pub same : seek r g held (drop from (nibbles bytes)) ≡ on_answer (reader h body) (outcome m p held') (drop at (nibbles bytes))
  pub sound : Ok h

pub along_start : (h : Head) (body : List ℕ) (g : Gatherer) (bytes held : List ℕ) (from : ℕ) → Ok h
    → Along (reader h body) g bytes held from from h body g (Unrefused None) held
along_start h body g bytes held from ok = record { forward = omega arith; within = omega arith; same = refl; sound = ok }

-- nothing is said yet, and a nibble is left
goes_there : (said : Bool) (at bytes : ℕ) → (not said && ltb (at / 2) bytes) ≡ true → (said ≡ false) × (at / 2 < bytes)
goes_there true at bytes e = absurd (true≢false (sym e))
goes_there false at bytes e = (refl, ltb-true (at / 2) bytes e)

-- what a run gives, and what the gatherer says to its answer
module _ {r : Reader} {g : Gatherer} {bytes held : List ℕ} {from at : ℕ} {h : Head} {body : List ℕ} {m : Gatherer} {p : Progress} {held' : List ℕ}
    (a : Along r g bytes held from at h body m p held') (known : (i : ℕ) → get_or bytes i 0 < 256)
    (more : (not (is_said (output_of p [])) && ltb (at / 2) (length bytes)) ≡ true) (full : length body ≡ longest) {t : RunStepped} {body' line : List ℕ}
    (e : LentRunGives h.profile (lent_run_of h body (drop at (nibbles bytes)) longest) t body' blank line) where
  abbrev s : List ℕ
  s = nibbles bytes

  there : at < length s
  there = let q = (goes_there (is_said (output_of p [])) at (length bytes) more).1 in omega (arith, nibbles_length bytes, q)

  abbrev x : Ran
  x = onward (reader h body) (drop at s) 0

  goes : lent_run_of h body (drop at s) longest ≡ x
  goes = lent_onward h body (drop at s) longest a.sound full refl

  ran_on : RunOn (seeking m held') (reader h body) (drop at s) 0 x
  ran_on = run_on (seeking m held') (all_nibbles_drop (nibbles_small bytes known) at) (reader h body) 0 a.sound

  taken_is : t.taken ≡ ran_on.count
  taken_is = e.count ∙ ap (λ (u : Ran). u.taken) goes ∙ ran_on.counted ∙ zero-add ran_on.count

  pub taken_fits : at + t.taken ≤ 2 * length bytes
  taken_fits = let q = ran_on.within in omega (arith, taken_is, length-drop at s, there, nibbles_length bytes)

  -- the nibbles left fall
  pub left_less : 2 * length bytes - (at + t.taken) < 2 * length bytes - at
  left_less =
      let q = ran_on.some (omega (arith, length-drop at s, there)) in
      omega (arith, taken_is, there, nibbles_length bytes)

  pub along_next : {y : Gathered} {held'' : List ℕ} → rows.Gathers (take_of m t.answer line held') y held''
      → Along r g bytes held from (at + t.taken) t.head body' y.gatherer y.progress held''
  along_next {y} {held''} gives =
      let f = a.forward in
      let k = taken_fits in
      let silent = (goes_there (is_said (output_of p [])) at (length bytes) more).0 in
      let head_is : t.head ≡ x.reader.head = e.next ∙ ap (λ (u : Ran). u.reader.head) goes in
      let reader_is : reader t.head body' ≡ x.reader = ap₂ reader head_is (e.keeps ∙ ap (λ (u : Ran). u.reader.body) goes) in
      let here : AfterCall = take_of m t.answer line held' in
      let same_call : here ≡ take_of m (answer_for x.outcome) (buffer_after x.outcome blank) held' =
      ap₂ (λ (b : Answer) (l : List ℕ). take_of m b l held') (answer_of _ _ _ _ e.says) e.leaves
      ∙ ap (λ (u : Ran). take_of m (answer_for u.outcome) (buffer_after u.outcome blank) held') goes in
      let said : outcome y.gatherer y.progress held'' ≡ take_of m (answer_for x.outcome) (buffer_after x.outcome blank) held' =
      ap₂ (λ (u : Gatherer) (o : Output). record { gatherer = u; output = o; buffer = held'' }) gives.next gives.says
      ∙ ap (λ (b : List ℕ). record { gatherer = here.gatherer; output = here.output; buffer = b }) gives.leaves
      ∙ same_call in
      record {
        forward = omega arith;
        within = omega arith;
        same =
            a.same
            ∙ ap (λ (b : Bool). cond b (sought (reader h body) (outcome m p held') (drop at s)) (seek (reader h body) m held' (drop at s))) (said_alike p held' ∙ silent)
            ∙ ran_on.same
            ∙ ap₂ (λ (u : Reader) (o : AfterCall). on_answer u o (drop ran_on.count (drop at s))) (sym reader_is) (sym said)
            ∙ ap (on_answer (reader t.head body') (outcome y.gatherer y.progress held''))
            (drop-drop ran_on.count at s ∙ ap (λ (i : ℕ). drop (at + i) s) (sym taken_is));
        sound = subst Ok (sym head_is) ran_on.sound;
      }

-- Where it ends.

-- something was said, or no nibble is left
pub along_end : {q : Grabber} {bytes held : List ℕ} {from at : ℕ} {h : Head} {body : List ℕ} {m : Gatherer} {p : Progress} {held' : List ℕ}
    → Along q.reader q.gatherer bytes held from at h body m p held' → passes q.reader.head ≡ true
    → (not (is_said (output_of p [])) && ltb (at / 2) (length bytes)) ≡ false
    → Grabs (grab_of q (drop from (nibbles bytes)) held) (record { grabber = record { reader = reader h body; gatherer = m }; taken = at - from; progress = p }) held'
along_end {q} {bytes} {held} {from} {at} {h} {body} {m} {p} {held'} a ok e =
    let z : grab_of q (drop from s) held ≡ leaving (length (drop from s)) (sought (reader h body) (outcome m p held') (drop at s)) =
    grab_is q (drop from s) held ok ∙ ap (leaving (length (drop from s))) (a.same ∙ by (is_said (output_of p [])) refl e) in
    record {
      next = ap (λ (u : After). u.grabber) (sym z);
      counts =
          (let c : at - from ≡ length (drop from s) - length (drop at s) = omega (arith, a.forward, a.within, length-drop from s, length-drop at s, nibbles_length bytes) in c)
          ∙ ap (λ (u : After). u.taken) (sym z);
      says = ap (λ (u : After). u.output) (sym z);
      leaves = ap (λ (u : After). u.buffer) (sym z);
    }
  where
    s : List ℕ
    s = nibbles bytes

    by : (b : Bool) → is_said (output_of p []) ≡ b → (not b && ltb (at / 2) (length bytes)) ≡ false
        → on_answer (reader h body) (outcome m p held') (drop at s) ≡ sought (reader h body) (outcome m p held') (drop at s)
    by true f g =
        ap (λ (b : Bool). cond b (sought (reader h body) (outcome m p held') (drop at s)) (seek (reader h body) m held' (drop at s))) (said_alike p held' ∙ f)
    by false f g =
        let none : drop at s ≡ [] = drop_of_length-le s {i = at} (omega (arith, nibbles_length bytes, ltb-false (at / 2) (length bytes) g)) in
        ap (λ (b : Bool). cond b (sought (reader h body) (outcome m p held') (drop at s)) (seek (reader h body) m held' (drop at s))) (said_alike p held' ∙ f)
        ∙ ap (seek (reader h body) m held') none
        ∙ ap₂ (λ (o : Output) (v : List ℕ). sought (reader h body) (record { gatherer = m; output = o; buffer = held' }) v) (sym (not_said (output_of p held') (said_alike p held' ∙ f))) (sym none)

-- a reader that fails its own test: nothing is taken
pub refused_state : (q : Grabber) (w held : List ℕ) → passes q.reader.head ≡ false
    → Grabs (grab_of q w held) (record { grabber = q; taken = 0; progress = Err (record { 0 = bad_state }) }) held
refused_state q w held e =
    let z = grab_fails q w held e in
    record {
      next = ap (λ (u : After). u.grabber) (sym z);
      counts = ap (λ (u : After). u.taken) (sym z);
      says = ap (λ (u : After). u.output) (sym z);
      leaves = ap (λ (u : After). u.buffer) (sym z);
    }
