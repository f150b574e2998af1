-- A run of nibbles brings a lister what its nibbles one by one do, since those before its stop tell nothing: so a piece is listed run by run, as
-- far as the buffer has room.
use Rattle.std.specs.Prelude.{◌≡◌, refl, Bool, true, false, cond, ◌&&◌, ℕ, suc, ◌+◌, ◌-◌, ◌*◌, ◌/◌, ◌≤◌, ◌<◌, leb, ltb, take, get_or}
use Rattle.std.proofs.Common.{◌∙◌, true≢false, zero-add, arith, length-drop, le-ltb, lt-ltb, ltb-true, leb-true, leb-false}
use Rattle.std.proofs.Math.Path.{ap, ap₂, sym, subst}
use mathlib.Core.List.{List, [], ◌∷◌, ◌++◌, append_assoc, append-nil}
use Rattle.std.proofs.Math.Nat.{sub-zero}
use Rattle.std.proofs.Math.ListN.{length, drop}
use Rattle.std.proofs.Math.Seq.{drop-drop}
use Rattle.profile.specs.Profile.{longest}
use Rattle.stream.specs.Answers.{Outcome, nothing, answer_for, buffer_after}
use Rattle.stream.specs.AnswersLaws.{answer_of}
use Rattle.stream.specs.Written.{nibbles}
use Rattle.stream.specs.NibblesLaws.{all_nibbles_drop, nibbles_length}
use Rattle.reader.specs.declared.Reader.{Reader}
use Rattle.reader.specs.Reader.{Took, feed_of}
use Rattle.run.specs.declared.RunStepped.{RunStepped}
use Rattle.run.specs.Run.{Ran, lent_run_of, onward}
use Rattle.run.specs.Gives.{LentRunGives}
use Rattle.reader_laws.specs.Passing.{Ok}
use Rattle.reader_laws.specs.ByRuns.{ByNibbles, took, RunOn}
use Rattle.reader_laws.proofs.ByRunsLaws.{run_on, lent_onward}
use Rattle.capture_bytes.specs.UnpackedLaws.{nibbles_small}
use Rattle.text.specs.Put.{Put, on_front}
use Rattle.text.specs.PutLaws.{none, joined, on_front_lem, put_length, put_within}
use Rattle.lister_laws.specs.Lists.{Lists, lister_after, text_after, taken_from}
use Rattle.lister_laws.proofs.ListsLaws.{from_within}

-- a lister that has a reader, and goes by what the reader answers to each nibble: what an answer makes of it, and the answer's text; no answer
-- leaves it as it is, with the reader as that is then, and has no text
pub record ByReader {L : Type 0} (f : Lists L) : Type 0 where
  pub reader : L → Reader
  pub with_reader : L → Reader → L
  pub next : L → Took → L
  pub says : L → Outcome → List ℕ
  pub steps : (l : L) (r : Reader) (n : ℕ) → f.step (with_reader l r) n ≡ next l (feed_of r n longest)
  pub texts : (l : L) (r : Reader) (n : ℕ) → f.text (with_reader l r) n ≡ says l (feed_of r n longest).outcome
  pub quiet_next : (l : L) (r : Reader) → next l (took r nothing) ≡ with_reader l r
  pub quiet_text : (l : L) → says l nothing ≡ []
  pub own : (l : L) → l ≡ with_reader l (reader l)
  pub reads : (l : L) (t : Took) → reader (next l t) ≡ t.reader

-- a nibble is left, and room for a text
pub goes_there : (bytes at most room : ℕ) → (ltb (at / 2) bytes && leb most room) ≡ true → (at / 2 < bytes) × (most ≤ room)
goes_there bytes at most room e =
    let q = both (ltb (at / 2) bytes) (leb most room) e in
    (ltb-true (at / 2) bytes q.0, leb-true most room q.1)
  where
    both : (x y : Bool) → (x && y) ≡ true → (x ≡ true) × (y ≡ true)
    both true true e = (refl, refl)
    both true false e = absurd (true≢false (sym e))
    both false y e = absurd (true≢false (sym e))

-- What nibbles bring a lister and a buffer with some room: the lister after those that are taken, their text, and how many are left.
pub record Brought (L : Type 0) : Type 0 where
  pub lister_then : L
  pub text_then : List ℕ
  pub left : ℕ

module _ {L : Type 0} (f : Lists L) where
  -- by how many are taken, and with a text before
  abbrev brings : L → List ℕ → List ℕ → ℕ → Brought L
  brings l text w k = record { lister_then = lister_after f l (take k w); text_then = text ++ text_after f l (take k w); left = length w - k }

  abbrev pub tells : L → List ℕ → ℕ → List ℕ → Brought L
  tells l text room w = brings l text w (taken_from f l room w)

  -- a text before what nibbles bring
  abbrev after_text : List ℕ → Brought L → Brought L
  after_text text x = record { lister_then = x.lister_then; text_then = text ++ x.text_then; left = x.left }

  both_texts : (v t : List ℕ) (m : L) (room : ℕ) (w : List ℕ) → after_text v (tells m t room w) ≡ tells m (v ++ t) room w
  both_texts v t m room w =
      let k = taken_from f m room w in
      ap (λ (x : List ℕ). record { lister_then = lister_after f m (take k w); text_then = x; left = length w - k }) (sym (append_assoc v t (text_after f m (take k w))))

  -- one nibble
  first : (room : ℕ) → f.most ≤ room → (m : L) (n : ℕ) (w : List ℕ)
      → tells m [] room (n ∷ w) ≡ tells (f.step m n) (f.text m n) (room - length (f.text m n)) w
  first room h m n w =
      let k = taken_from f (f.step m n) (room - length (f.text m n)) w in
      ap (λ (b : Bool). brings m [] (n ∷ w) (cond b 0 (suc k))) (le-ltb room f.most h)
      ∙ ap (λ (i : ℕ). record { lister_then = lister_after f (f.step m n) (take k w); text_then = f.text m n ++ text_after f (f.step m n) (take k w); left = i })
      (let z : suc (length w) - suc k ≡ length w - k = omega arith in z)

  -- no nibble left, or no room for a text: nothing more is taken
  none_more : (m : L) (room at bytes : ℕ) (w : List ℕ) → length w ≡ 2 * bytes - at → (ltb (at / 2) bytes && leb f.most room) ≡ false → taken_from f m room w ≡ 0
  none_more m room at bytes [] h e = refl
  none_more m room at bytes (n ∷ w) h e =
      let q : leb f.most room ≡ false = ap (λ (x : Bool). x && leb f.most room) (sym (lt-ltb (at / 2) bytes (omega arith))) ∙ e in
      ap (λ (x : Bool). cond x 0 (suc (taken_from f (f.step m n) (room - length (f.text m n)) w))) (lt-ltb room f.most (leb-false f.most room q))

-- One that brings nothing changes none of it.
unfoldable by_nibbles : {L : Type 0} {f : Lists L} → ByReader f → (l : L) (room : ℕ) → f.most ≤ room → ByNibbles (Brought L)
by_nibbles {L} {f} g l room h =
    record {
      from = λ r w. tells f (g.with_reader l r) [] room w;
      next = λ t w. tells f (g.next l t) (g.says l t.outcome) (room - length (g.says l t.outcome)) w;
      one = λ r n w.
          first f room h (g.with_reader l r) n w
          ∙ ap₂ (λ (x : L) (v : List ℕ). tells f x v (room - length v) w) (g.steps l r n) (g.texts l r n);
      ignores = λ r w.
          ap₂ (λ (x : L) (v : List ℕ). tells f x v (room - length v) w) (g.quiet_next l r) (g.quiet_text l)
          ∙ ap (λ (n : ℕ). tells f (g.with_reader l r) [] n w) (sub-zero room);
    }

-- Many runs.

-- a lister l that lists the nibbles of bytes from one place on into a buffer d is at another: the lister there, and the text so far
pub record Along {L : Type 0} {f : Lists L} (g : ByReader f) (l : L) (bytes d : List ℕ) (from at : ℕ) (m : L) (used : ℕ) (after : List ℕ) : Type 0 where
  pub text : List ℕ
  pub forward : from ≤ at
  pub within : at - from ≤ 2 * length bytes - from
  pub same : tells f l [] (length d) (drop from (nibbles bytes)) ≡ tells f m text (length d - used) (drop at (nibbles bytes))
  pub text_put : Put d 0 text used after
  pub sound : Ok (g.reader m).head

pub along_start : {L : Type 0} {f : Lists L} (g : ByReader f) (l : L) (bytes d : List ℕ) (from : ℕ) → Ok (g.reader l).head → Along g l bytes d from from l 0 d
along_start {f = f} g l bytes d from ok =
    record {
      text = [];
      forward = omega arith;
      within = omega arith;
      same = ap (λ (n : ℕ). tells f l [] n (drop from (nibbles bytes))) (sym (sub-zero (length d)));
      text_put = none d 0 0 (omega arith) refl;
      sound = ok;
    }

-- what a run gives, and what is made of its answer
module _ {L : Type 0} {f : Lists L} {g : ByReader f} {l : L} {bytes d : List ℕ} {from at : ℕ} {m : L} {used : ℕ} {after : List ℕ}
    (p : Along g l bytes d from at m used after) (known : (i : ℕ) → get_or bytes i 0 < 256)
    (more : (ltb (at / 2) (length bytes) && leb f.most (length after - used)) ≡ true) (full : length (g.reader m).body ≡ longest)
    {n : ℕ} (n_full : n ≡ longest) {r : RunStepped} {body' line line' : List ℕ}
    (e : LentRunGives (g.reader m).head.profile (lent_run_of (g.reader m).head (g.reader m).body (drop at (nibbles bytes)) n) r body' line line') where
  abbrev s : List ℕ
  s = nibbles bytes

  there : at < length s
  there = omega (arith, nibbles_length bytes, (goes_there (length bytes) at f.most (length after - used) more).0)

  room : f.most ≤ length d - used
  room = omega (arith, put_length p.text_put, (goes_there (length bytes) at f.most (length after - used) more).1)

  abbrev pub ran : Ran
  ran = onward (g.reader m) (drop at s) 0

  goes : lent_run_of (g.reader m).head (g.reader m).body (drop at s) n ≡ ran
  goes = lent_onward (g.reader m).head (g.reader m).body (drop at s) n p.sound full n_full

  ran_on : RunOn (by_nibbles g m (length d - used) room) (g.reader m) (drop at s) 0 ran
  ran_on = run_on (by_nibbles g m (length d - used) room) (all_nibbles_drop (nibbles_small bytes known) at) (g.reader m) 0 p.sound

  taken_is : r.taken ≡ ran_on.count
  taken_is = e.count ∙ ap (λ (x : Ran). x.taken) goes ∙ ran_on.counted ∙ zero-add ran_on.count

  -- the head, the body, the answer and the line buffer are the run's
  pub head_is : r.head ≡ ran.reader.head
  head_is = e.next ∙ ap (λ (x : Ran). x.reader.head) goes

  pub body_is : body' ≡ ran.reader.body
  body_is = e.keeps ∙ ap (λ (x : Ran). x.reader.body) goes

  pub answer_is : r.answer ≡ answer_for ran.outcome
  answer_is = answer_of _ _ _ _ e.says ∙ ap (λ (x : Ran). answer_for x.outcome) goes

  pub line_is : line' ≡ buffer_after ran.outcome line
  line_is = e.leaves ∙ ap (λ (x : Ran). buffer_after x.outcome line) goes

  pub taken_fits : at + r.taken ≤ 2 * length bytes
  taken_fits = let q = ran_on.within in omega (arith, taken_is, length-drop at s, there, nibbles_length bytes)

  -- the nibbles left fall
  pub left_less : 2 * length bytes - (at + r.taken) < 2 * length bytes - at
  left_less =
      let q = ran_on.some (omega (arith, length-drop at s, there)) in
      omega (arith, taken_is, there, nibbles_length bytes)

  -- there is room for the text
  pub text_fits : used + f.most ≤ length after
  text_fits = let q = goes_there (length bytes) at f.most (length after - used) more in omega (arith, q.1, put_within p.text_put)

  pub along_next : {m' : L} {v : List ℕ} {used' : ℕ} {after' : List ℕ} → m' ≡ g.next m (took ran.reader ran.outcome) → v ≡ g.says m ran.outcome
      → Put after used v used' after' → Along g l bytes d from (at + r.taken) m' used' after'
  unfolding by_nibbles
  along_next {m'} {v} {used'} {after'} m-is v-is put =
      let o = ran.outcome in
      let x : Took = took ran.reader o in
      let w'' = drop ran_on.count (drop at s) in
      let w_is : w'' ≡ drop (at + r.taken) s = drop-drop ran_on.count at s ∙ ap (λ (y : ℕ). drop (at + y) s) (sym taken_is) in
      let a = p.forward in
      let b = taken_fits in
      record {
        text = p.text ++ v;
        forward = omega arith;
        within = omega arith;
        same =
            p.same
            ∙ ap (λ (y : L). tells f y p.text (length d - used) (drop at s)) (g.own m)
            ∙ sym (both_texts f p.text [] (g.with_reader m (g.reader m)) (length d - used) (drop at s) ∙ ap (λ (y : List ℕ). tells f (g.with_reader m (g.reader m)) y (length d - used) (drop at s)) (append-nil p.text))
            ∙ ap (after_text f p.text) ran_on.same
            ∙ both_texts f p.text (g.says m o) (g.next m x) (length d - used - length (g.says m o)) w''
            ∙ ap₂ (λ (y : L) (z : List ℕ). tells f y (p.text ++ z) (length d - used - length z) w'') (sym m-is) (sym v-is)
            ∙ ap₂ (λ (y : ℕ) (z : List ℕ). tells f m' (p.text ++ v) y z) (let z : length d - used - length v ≡ length d - used' = omega (arith, put.place) in z) w_is;
        text_put = joined p.text_put put;
        sound = subst (λ (y : Reader). Ok y.head) (sym (ap g.reader m-is ∙ g.reads m x)) ran_on.sound;
      }

-- Where it ends.

-- the lister there, and the text, are those of the nibbles that are taken
pub record Ended {L : Type 0} (f : Lists L) (l m : L) (w before after : List ℕ) (taken used : ℕ) : Type 0 where
  pub lister_is : m ≡ lister_after f l (take (taken_from f l (length before) w) w)
  pub taken_is : taken ≡ taken_from f l (length before) w
  pub used_is : used ≡ length (text_after f l (take (taken_from f l (length before) w) w))
  pub leaves : after ≡ on_front (text_after f l (take (taken_from f l (length before) w) w)) before

pub along_end : {L : Type 0} {f : Lists L} {g : ByReader f} {l m : L} {bytes d after : List ℕ} {from at used : ℕ} → Along g l bytes d from at m used after
    → (ltb (at / 2) (length bytes) && leb f.most (length after - used)) ≡ false
    → Ended f l m (drop from (nibbles bytes)) d after (at - from) used
along_end {L} {f} {g} {l} {m} {bytes} {d} {after} {from} {at} {used} p stop =
    let s = nibbles bytes in
    let w = drop from s in
    let k = taken_from f l (length d) w in
    let e = subst (λ (n : ℕ). (ltb (at / 2) (length bytes) && leb f.most (n - used)) ≡ false) (put_length p.text_put) stop in
    let q = on_front_lem p.text_put in
    let z = none_more f m (length d - used) at (length bytes) (drop at s) (length-drop at s ∙ ap (λ (n : ℕ). n - at) (nibbles_length bytes)) e in
    let h : brings f l [] w k ≡ brings f m p.text (drop at s) 0 = p.same ∙ ap (brings f m p.text (drop at s)) z in
    let text_is : text_after f l (take k w) ≡ p.text = ap (λ (x : Brought L). x.text_then) h ∙ append-nil p.text in
    record {
      lister_is = sym (ap (λ (x : Brought L). x.lister_then) h);
      taken_is = omega (arith, p.forward, p.within, from_within f l (length d) w, length-drop from s, length-drop at s, nibbles_length bytes, ap (λ (x : Brought L). x.left) h);
      used_is = q.count ∙ ap length (sym text_is);
      leaves = q.leaves ∙ ap (λ (v : List ℕ). on_front v d) (sym text_is);
    }
