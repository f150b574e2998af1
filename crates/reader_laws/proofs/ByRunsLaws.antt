-- Runs in place of single feeds: what is worked out from nibbles fed one by one, and takes no notice of one that brings nothing, comes out the
-- same run by run. The line buffer has the longest body's length, which is room for a line of either profile.
use Rattle.std.specs.Prelude.{◌≡◌, refl, Bool, true, false, cond, List, [], ◌∷◌, ℕ, suc, ◌+◌, ◌<◌, length}
use Rattle.std.proofs.Common.{◌∙◌, ap, sym, subst, add-zero, arith, le-leb}
use Rattle.refusal.specs.Refusal.{not_a_nibble}
use Rattle.profile.specs.Profile.{body_length, longest}
use Rattle.profile.specs.LayoutLaws.{body_small}
use Rattle.stream.specs.AnswersLaws.{no_answer}
use Rattle.stream.specs.Answers.{Outcome, refused, answer_for, is_answer}
use Rattle.stream.specs.Nibbles.{AllNibbles, no_nibble, and_nibble}
use Rattle.reader_head.specs.declared.Head.{Head}
use Rattle.reader.specs.declared.Reader.{Reader}
use Rattle.reader.specs.Reader.{Took, taking, feed_of}
use Rattle.run.specs.Run.{Ran, ran, lent_run_of, onward}
use Rattle.run.proofs.Running.{lent_right, run_goes}
use Rattle.reader_laws.specs.Passing.{Ok}
use Rattle.reader_laws.proofs.Passes.{passes_test, take_ok}
use Rattle.reader_laws.specs.ByRuns.{took, ByNibbles, RunOn}

fed_taken : (r : Reader) (n : ℕ) → Ok r.head → n < 16 → feed_of r n longest ≡ taking r n
unfolding feed_of
fed_taken r n ok l =
    let p = r.head.profile in
    simp (passes_test r.head ok.test, le-leb n 15 (omega arith), le-leb (body_length p) longest (body_small p))

pub run_on : {R : Type 0} (f : ByNibbles R) {w : List ℕ} → AllNibbles w → (r : Reader) (i : ℕ) → Ok r.head → RunOn f r w i (onward r w i)
run_on f no_nibble r i ok =
    record { count = 0; counted = sym (add-zero i); some = λ h. h; within = omega arith; sound = ok; same = sym (f.ignores r []) }
run_on f (and_nibble {n} {t = w} h q) r i ok = go (is_answer (answer_for t.outcome)) refl (run_on f q t.reader (i + 1) ok_next)
  where
    t : Took
    t = taking r n

    ok_next : Ok t.reader.head
    ok_next = take_ok r n h ok

    first : f.from r (n ∷ w) ≡ f.next t w
    first = f.one r n w ∙ ap (λ (x : Took). f.next x w) (fed_taken r n ok h)

    whole : (b : Bool) → Ran
    whole b = cond b (ran t.reader t.outcome (i + 1)) (onward t.reader w (i + 1))

    by : (b : Bool) → is_answer (answer_for t.outcome) ≡ b → RunOn f t.reader w (i + 1) (onward t.reader w (i + 1)) → RunOn f r (n ∷ w) i (whole b)
    by true e k =
        record { count = 1; counted = refl; some = λ _. omega arith; within = omega arith; sound = ok_next; same = first }
    by false e k =
        let z : i + 1 + k.count ≡ i + suc k.count = omega arith in
        let v = k.within in
        record {
          count = suc k.count;
          counted = k.counted ∙ z;
          some = λ _. omega arith;
          within = omega arith;
          sound = k.sound;
          same = first ∙ ap (λ (o : Outcome). f.next (took t.reader o) w) (no_answer t.outcome e) ∙ f.ignores t.reader w ∙ k.same;
        }

    go : (b : Bool) → is_answer (answer_for t.outcome) ≡ b → RunOn f t.reader w (i + 1) (onward t.reader w (i + 1)) → RunOn f r (n ∷ w) i (onward r (n ∷ w) i)
    go b e k =
        subst (λ (x : Ran). RunOn f r (n ∷ w) i x)
        (ap whole (sym e) ∙ ap (λ (c : Bool). cond c (whole (is_answer (answer_for t.outcome))) (ran r (refused not_a_nibble) i)) (sym (le-leb n 15 (omega arith)))) (by b e k)

-- The run that a call makes.

-- with a lent body and a line buffer as long as the longest, it is the run from there on
pub lent_onward : (h : Head) (body w : List ℕ) (room : ℕ) → Ok h → length body ≡ longest → room ≡ longest
    → lent_run_of h body w room ≡ onward (record { head = h; body = body }) w 0
lent_onward h body w room ok full e =
    lent_right h body w room full
    ∙ run_goes h body w room (passes_test h ok.test) (omega (arith, body_small h.profile))
