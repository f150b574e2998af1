-- A run from a reader that stands for a state of the meaning: its nibbles bring what it answers, and nothing before.
use Rattle.std.specs.Prelude.{◌≡◌, refl, Bool, true, false, cond, List, [], ◌∷◌, ◌++◌, ℕ, suc, ◌+◌, ◌-◌, ◌≤◌, length, take}
use Rattle.std.proofs.Common.{◌∙◌, ap, sym, subst, true≢false, append-nil, add-zero, arith, le-leb}
use Rattle.refusal.specs.Refusal.{not_a_nibble}
use Rattle.profile.specs.declared.Profile.{Profile}
use Rattle.stream.specs.Answers.{Outcome, nothing, refused, answer_for, is_answer}
use Rattle.stream.specs.AnswersLaws.{no_answer}
use Rattle.stream.specs.Stream.{State, step, run, outcomes}
use Rattle.stream.specs.Nibbles.{AllNibbles, no_nibble, and_nibble}
use Rattle.reader.specs.declared.Reader.{Reader}
use Rattle.reader.specs.Reader.{Took, taking}
use Rattle.run.specs.Run.{Ran, ran, onward}
use Rattle.recovery.specs.Calls.{mark_nibbles}
use Rattle.recovery.specs.CleanAnswers.{said_in, said}
use Rattle.refinement.specs.Refine.{Follows}
use Rattle.refinement.specs.RefineLaws.{Steps, taking_steps}
use Rattle.mark_finder_laws.specs.Standing.{begin_from}

-- of the nibbles v from the state s on, i taken before
pub record RunMeans (p : Profile) (s : State) (v : List ℕ) (i : ℕ) (t : Ran) : Type 0 where
  pub count : ℕ
  pub counted : t.taken ≡ i + count
  pub within : count ≤ length v
  pub follows : Follows p t.reader (run p s (take count v))
  pub says : said (outcomes p s (take count v)) ≡ said_in t.outcome
  pub starts : (b j : ℕ) → begin_from b j (outcomes p s (take count v)) ≡ cond (is_answer (answer_for t.outcome)) (j + count - mark_nibbles) b
  pub whole : is_answer (answer_for t.outcome) ≡ false → count ≡ length v

pub run_means : (p : Profile) {v : List ℕ} → AllNibbles v → (r : Reader) (s : State) (i : ℕ) → Follows p r s → RunMeans p s v i (onward r v i)
run_means p no_nibble r s i f =
    record { count = 0; counted = sym (add-zero i); within = omega arith; follows = f; says = refl; starts = λ b j. refl; whole = λ e. refl }
run_means p (and_nibble {n} {t = w} h q) r s i f = go (is_answer (answer_for t.outcome)) refl (run_means p q t.reader (step p s n).state (i + 1) k.follows)
  where
    t : Took
    t = taking r n

    k : Steps p t (step p s n)
    k = taking_steps p r s n h f

    same : (step p s n).outcome ≡ t.outcome
    same = sym k.outcome_same

    whole : (b : Bool) → Ran
    whole b = cond b (ran t.reader t.outcome (i + 1)) (onward t.reader w (i + 1))

    by : (b : Bool) → is_answer (answer_for t.outcome) ≡ b → RunMeans p (step p s n).state w (i + 1) (onward t.reader w (i + 1)) → RunMeans p s (n ∷ w) i (whole b)
    by true e m =
        record {
          count = 1;
          counted = refl;
          within = omega arith;
          follows = k.follows;
          says = ap (λ (o : Outcome). said_in o ++ []) same ∙ append-nil (said_in t.outcome);
          starts = λ b j. ap (λ (o : Outcome). cond (is_answer (answer_for o)) (j + 1 - mark_nibbles) b) same;
          whole = λ g. absurd (true≢false (sym e ∙ g));
        }
    by false e m =
        let quiet : (step p s n).outcome ≡ nothing = same ∙ no_answer t.outcome e in
        let l = m.within in
        record {
          count = suc m.count;
          counted = m.counted ∙ (let z : i + 1 + m.count ≡ i + suc m.count = omega arith in z);
          within = omega arith;
          follows = m.follows;
          says = ap (λ (o : Outcome). said_in o ++ said (outcomes p (step p s n).state (take m.count w))) quiet ∙ m.says;
          starts = λ b j.
              ap (λ (o : Outcome). begin_from (cond (is_answer (answer_for o)) (j + 1 - mark_nibbles) b) (j + 1) (outcomes p (step p s n).state (take m.count w))) quiet
              ∙ m.starts b (j + 1)
              ∙ ap (λ (x : ℕ). cond (is_answer (answer_for (onward t.reader w (i + 1)).outcome)) (x - mark_nibbles) b) (let z : j + 1 + m.count ≡ j + suc m.count = omega arith in z);
          whole = λ g. ap suc (m.whole g);
        }

    go : (b : Bool) → is_answer (answer_for t.outcome) ≡ b → RunMeans p (step p s n).state w (i + 1) (onward t.reader w (i + 1))
        → RunMeans p s (n ∷ w) i (onward r (n ∷ w) i)
    go b e m =
        subst (λ (x : Ran). RunMeans p s (n ∷ w) i x)
        (ap whole (sym e) ∙ ap (λ (c : Bool). cond c (whole (is_answer (answer_for t.outcome))) (ran r (refused not_a_nibble) i)) (sym (le-leb n 15 (omega arith)))) (by b e m)
