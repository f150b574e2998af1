-- Where a mark is said to begin stand F F F F 0 0 and its code: an answer comes where a mark is complete among all nibbles taken.
use Rattle.std.specs.Prelude.{◌≡◌, refl, Bool, true, false, cond, List, [], ◌∷◌, ◌++◌, ℕ, ◌+◌, ◌-◌, ◌≤◌, ◌<◌, length, drop}
use Rattle.std.proofs.Common.{◌∙◌, ap, ap₂, sym, subst, true≢false, append-nil, append_assoc, arith, length-append, length-drop}
use Rattle.std.proofs.Math.Seq.{drop-append_seam}
use Rattle.std.proofs.lemmas.List.{drop-append-le}
use Rattle.profile.specs.declared.Profile.{Profile}
use Rattle.stream.specs.declared.Mark.{Mark}
use Rattle.stream.specs.Answers.{Outcome, answer_for, is_answer, turned}
use Rattle.stream.specs.AnswersLaws.{no_answer}
use Rattle.stream.specs.Stream.{State, Step, Completed, not_yet, mark, fresh, detect, advance, step, run, outcomes}
use Rattle.stream.specs.TextLaws.{turned_append}
use Rattle.recovery.specs.Calls.{mark_nibbles}
use Rattle.recovery.specs.CleanAnswers.{said_in, said}
use Rattle.recovery.specs.CollectedLaws.{collected_append}
use Rattle.recovery.specs.CutTexts.{onto_append}
use Rattle.recovery.specs.Marks.{onto, is_mark, completes, MarkEnds}
use Rattle.recovery.specs.MarksLaws.{completes_there, marks_are_places}
use Rattle.recovery.specs.ReadBackLaws.{turned_onto, run_append, outcomes_append}
use Rattle.mark_finder_laws.specs.Standing.{answers, begin_from, begin_in, BeginsAt}

-- all nibbles end in a mark
ends_there : (w : List ℕ) → MarkEnds (onto [] w) → BeginsAt w (length w - mark_nibbles)
ends_there w e =
    let v : List ℕ = 15 ∷ 15 ∷ 15 ∷ 15 ∷ 0 ∷ 0 ∷ e.high ∷ e.low ∷ [] in
    let is : w ≡ turned e.older [] ++ v =
    sym (append-nil w) ∙ sym (turned_onto [] w []) ∙ ap (λ (t : List ℕ). turned t []) e.is ∙ turned_append e.older v in
    record {
      high = e.high;
      low = e.low;
      rest = [];
      there =
          ap₂ drop (let z : length w - mark_nibbles ≡ length (turned e.older []) = omega (arith, ap length is, length-append (turned e.older []) v) in z) is
          ∙ drop-append_seam (turned e.older []) v;
    }

-- An answer comes with a mark.

heard_mark : (p : Profile) (m : Mark) (t : List ℕ) (d : Completed) → is_answer (answer_for (advance p m t d).outcome) ≡ true → is_mark d ≡ true
heard_mark p m t not_yet e = absurd (true≢false (sym e))
heard_mark p m t (mark x y before) e = refl

answer_there : (p : Profile) (w : List ℕ) (n : ℕ) → is_answer (answer_for (step p (run p fresh w) n).outcome) ≡ true
    → BeginsAt (w ++ (n ∷ [])) (length w + 1 - mark_nibbles)
answer_there p w n e =
    let x = run p fresh w in
    let c : completes (n ∷ onto [] w) ≡ true = sym (marks_are_places p w n) ∙ heard_mark p x.at (n ∷ x.text) (detect (n ∷ x.text)) e in
    subst (λ (i : ℕ). BeginsAt (w ++ (n ∷ [])) (i - mark_nibbles)) (length-append w (n ∷ []))
    (ends_there (w ++ (n ∷ [])) (subst MarkEnds (sym (onto_append [] w (n ∷ []))) (completes_there (n ∷ onto [] w) c)))

-- with more nibbles after it, a mark begins where it did
begins_more : (w v : List ℕ) (i : ℕ) → BeginsAt w i → BeginsAt (w ++ v) i
begins_more w v i b =
    record {
      high = b.high;
      low = b.low;
      rest = b.rest ++ v;
      there = drop-append-le i w v (within i w b.there) ∙ ap (λ (u : List ℕ). u ++ v) b.there;
    }
  where
    within : (i : ℕ) (w : List ℕ) {h : ℕ} {t : List ℕ} → drop i w ≡ h ∷ t → i ≤ length w
    within i w {h} {t} e = omega (arith, ap length e, length-drop i w)

begins_on : (p : Profile) (v w : List ℕ) (s : ℕ) → (0 < length (answers p w) → BeginsAt w s) → 0 < length (answers p (w ++ v))
    → BeginsAt (w ++ v) (begin_from s (length w) (outcomes p (run p fresh w) v))
begins_on p [] w s b h = subst (λ (u : List ℕ). BeginsAt u s) (sym (append-nil w)) (b (subst (λ (u : List ℕ). 0 < length (answers p u)) (append-nil w) h))
begins_on p (n ∷ v) w s b h =
    subst (λ (u : List ℕ). BeginsAt u (begin_from s₁ (length w + 1) (outcomes p x.state v))) (append_assoc w (n ∷ []) v)
    (subst (λ (q : State). BeginsAt (w₁ ++ v) (begin_from s₁ (length w + 1) (outcomes p q v))) (run_append p fresh w (n ∷ []))
    (subst (λ (i : ℕ). BeginsAt (w₁ ++ v) (begin_from s₁ i (outcomes p (run p fresh w₁) v))) (length-append w (n ∷ []))
    (begins_on p v w₁ s₁ (go (is_answer (answer_for x.outcome)) refl) (subst (λ (u : List ℕ). 0 < length (answers p u)) (sym (append_assoc w (n ∷ []) v)) h))))
  where
    x : Step
    x = step p (run p fresh w) n

    w₁ : List ℕ
    w₁ = w ++ (n ∷ [])

    s₁ : ℕ
    s₁ = cond (is_answer (answer_for x.outcome)) (length w + 1 - mark_nibbles) s

    told : answers p w₁ ≡ answers p w ++ (said_in x.outcome ++ [])
    told = ap said (outcomes_append p fresh w (n ∷ [])) ∙ collected_append said_in (outcomes p fresh w) (x.outcome ∷ [])

    go : (c : Bool) → is_answer (answer_for x.outcome) ≡ c → 0 < length (answers p w₁) → BeginsAt w₁ (cond (is_answer (answer_for x.outcome)) (length w + 1 - mark_nibbles) s)
    go true e g = subst (λ (c : Bool). BeginsAt w₁ (cond c (length w + 1 - mark_nibbles) s)) (sym e) (answer_there p w n e)
    go false e g =
        subst (λ (c : Bool). BeginsAt w₁ (cond c (length w + 1 - mark_nibbles) s)) (sym e)
        (begins_more w (n ∷ []) s
        (b (subst (λ (os : List Outcome). 0 < length os) (told ∙ ap (λ (o : Outcome). answers p w ++ (said_in o ++ [])) (no_answer x.outcome e) ∙ append-nil (answers p w)) g)))

-- after any nibbles that brought an answer, the open mark begins where it is said to
pub marks_begin : (p : Profile) (w : List ℕ) → 0 < length (answers p w) → BeginsAt w (begin_in p w)
marks_begin p w h = begins_on p w [] 0 (λ g. absurd (none g)) h
  where
    none : 0 < 0 → ⊥
    none g = omega arith
