-- The number is the reader's own (02, A9): read after any nibbles from a fresh state, the run's first mark is answered with the reason's number;
-- so answer the meaning, the reader that is fed singly, and any list of its calls.
use Rattle.std.specs.Prelude.{◌≡◌, refl, Bool, true, false, cond, List, [], ◌∷◌, ◌++◌, ℕ, ◌+◌, ◌*◌, ◌≤◌, length, take, drop, Option}
use Rattle.std.proofs.Common.{◌∙◌, ap, ap₂, sym, true≢false, append_assoc, append-nil, length-append, take-append-drop, le-leb}
use Rattle.std.proofs.Math.Bool.{or-true}
use Rattle.std.proofs.Math.Seq.{drop-append_seam}
use Rattle.line_code.specs.LineCode.{kind_numbered, meaning_of, reading_of}
use Rattle.profile.specs.declared.Profile.{Profile}
use Rattle.profile.specs.declared.Profile.TheVariants.{VV5404, VV5300}
use Rattle.profile.specs.Profile.{profile_numbered, profile_number, body_length}
use Rattle.stream.specs.declared.Mark.TheVariants.{Open}
use Rattle.stream.specs.Answers.{Outcome, nothing, line, gap, refused, turned}
use Rattle.stream.specs.Stream.{State, Completed, not_yet, mark, fresh, detect, kind_at, advance, step, finish, run, outcomes}
use Rattle.stream.specs.Nibbles.{nibbles_only}
use Rattle.stream.specs.NibblesLaws.{all_nibbles_append, only_nibbles}
use Rattle.recovery.specs.Marks.{onto, is_mark, completes}
use Rattle.recovery.specs.MarksLaws.{marks_are_places}
use Rattle.recovery.specs.Calls.{mark_nibbles}
use Rattle.recovery.specs.CallAnswers.{mark_collector, brought_by}
use Rattle.recovery.specs.CleanAnswers.{said_in, said}
use Rattle.recovery.specs.CollectedLaws.{collected_append}
use Rattle.recovery.specs.CutTexts.{onto_append}
use Rattle.recovery.proofs.Damage.{outcomes_length}
use Rattle.recovery.specs.Resync.{state_with}
use Rattle.recovery.specs.ReadBackLaws.{run_append, outcomes_append}
use Rattle.reader.specs.Reader.{fresh_reader}
use Rattle.refinement.specs.Refine.{fed_reader}
use Rattle.refinement.specs.RefineLaws.{fresh_follows, fed_follows, refines, finish_refines}
use Rattle.refinement.specs.RunAnswers.{runs_finish}
use Rattle.refinement.proofs.RunAnswersLaws.{runs_said}
use Rattle.refinement.specs.Runs.{RunCall, FinishLastRun, runs_taken, runs_collected}
use Rattle.reason.specs.ExplanationLaws.{begun}
use Rattle.reason.specs.Explanation.{opener, is_code, begins_mark, text_in, next_in, first_reason, after_opener, last_kind, run_reason, explanation}
use Rattle.reason_laws.specs.Short.{in_short, short_of, kind_before, first_answer, answer_at_end, answer_given, is_answered, reader_gives, answers_before, calls_give}
use Rattle.reason_laws.proofs.NumberLaws.{reason_said}
use Rattle.reason_laws.proofs.MarkLaws.{answer_from, answer_now, now_answered, open_answer, Opened, first_opens}
use Rattle.line_code.specs.declared.Kind.{Kind}

-- a run that is not refused is explained by its first mark
pub explanation_first : (p : Profile) (k : ℕ) (w : List ℕ) → k ≤ last_kind → nibbles_only w ≡ true → begins_mark w ≡ true
    → explanation (profile_number p) k w ≡ first_reason p (kind_numbered k) (after_opener w)
unfolding explanation run_reason profile_numbered
explanation_first VV5404 k w h n b = simp (le-leb k last_kind h, n, b)
explanation_first VV5300 k w h n b = simp (le-leb k last_kind h, n, b)

-- what comes after nibbles u, if k is how many these are
module _ (ends : Bool) (p : Profile) (u v : List ℕ) (k : ℕ) (e : length u ≡ k) where
  after_nibbles : first_answer (drop k (outcomes p fresh (u ++ v))) (answer_at_end ends p (run p fresh (u ++ v))) ≡ answer_from ends p (run p fresh u) v
  after_nibbles =
      ap₂ (λ (os : List Outcome) (s : State). first_answer os (answer_at_end ends p s))
      (ap₂ (λ (n : ℕ) (os : List Outcome). drop n os) (sym (outcomes_length p fresh u ∙ e)) (outcomes_append p fresh u v)
      ∙ drop-append_seam (outcomes p fresh u) (outcomes p (run p fresh u) v))
      (run_append p fresh u v)

-- the meaning's answer to a run's first mark, by what the mark before was
given : (ends : Bool) (p : Profile) (w₀ : List ℕ) (x y : ℕ) (rest : List ℕ)
    → (o : Opened p (kind_before p w₀) (16 * x + y) x y (run p fresh (w₀ ++ (opener ++ (x ∷ y ∷ [])))))
    → answer_given ends p w₀ (opener ++ (x ∷ y ∷ rest))
    ≡ answer_now ends p (Open o.before (16 * x + y)) (turned (text_in (x ∷ y ∷ rest)) []) (next_in (x ∷ y ∷ rest))
given ends p w₀ x y rest o =
    let u : List ℕ = w₀ ++ (opener ++ (x ∷ y ∷ [])) in
    ap (λ (l : List ℕ). first_answer (drop (length w₀ + mark_nibbles) (outcomes p fresh l)) (answer_at_end ends p (run p fresh l)))
    (sym (append_assoc w₀ (opener ++ (x ∷ y ∷ [])) rest))
    ∙ after_nibbles ends p u rest (length w₀ + mark_nibbles) (length-append w₀ (opener ++ (x ∷ y ∷ [])))
    ∙ ap (λ (s : State). answer_from ends p s rest) o.state
    ∙ open_answer ends p o.before (16 * x + y) x y rest

-- the number is the meaning's, where the next mark's code or finish comes
pub number_of_the_meaning : (ends : Bool) (p : Profile) (w₀ : List ℕ) (k : ℕ) (w : List ℕ) → is_answered w ends ≡ true
    → k ≤ last_kind → nibbles_only w ≡ true → begins_mark w ≡ true → kind_before p w₀ ≡ kind_numbered k
    → in_short (answer_given ends p w₀ w) ≡ short_of (explanation (profile_number p) k w)
unfolding first_reason
number_of_the_meaning ends p w₀ k w a h n b e =
    let g = begun w b in
    let u : List ℕ = g.high ∷ g.low ∷ g.rest in
    let c : ℕ = 16 * g.high + g.low in
    let o = first_opens p w₀ g.high g.low in
    ap (λ (l : List ℕ). in_short (answer_given ends p w₀ l)) g.is
    ∙ ap in_short (given ends p w₀ g.high g.low g.rest o)
    ∙ ap in_short
    (now_answered ends p (Open o.before c) (turned (text_in u) []) (next_in u)
    (ap (λ (l : List ℕ). is_answered l ends) (sym g.is) ∙ a))
    ∙ reason_said p o.before c (text_in u) (next_in u)
    ∙ ap (λ (q : Option Kind). short_of (first_reason p q u)) (o.kind_is ∙ e)
    ∙ ap (λ (l : List ℕ). short_of (first_reason p (kind_numbered k) (after_opener l))) (sym g.is)
    ∙ ap short_of (sym (explanation_first p k w h n b))

-- the number is the reader's own: fed w₀ and then the run, a nibble a call, with a buffer long enough lent to each, and finished
pub number_of_the_reader : (p : Profile) (room : ℕ → ℕ) → ((i : ℕ) → body_length p ≤ room i) → (w₀ w : List ℕ) (k : ℕ)
    → nibbles_only w₀ ≡ true → k ≤ last_kind → nibbles_only w ≡ true → begins_mark w ≡ true → kind_before p w₀ ≡ kind_numbered k
    → in_short (reader_gives room p w₀ w) ≡ short_of (explanation (profile_number p) k w)
number_of_the_reader p room roomy w₀ w k n₀ h n b e =
    let s = all_nibbles_append (only_nibbles w₀ n₀) (only_nibbles w n) in
    ap in_short
    (ap₂ (λ (os : List Outcome) (o : Outcome). first_answer (drop (length w₀ + mark_nibbles) os) o) (refines p room roomy s) (finish_refines p room roomy s))
    ∙ number_of_the_meaning true p w₀ k w (or-true (is_code (next_in (after_opener w)))) h n b e

-- the first answer, of the answers alone
first_said : (os : List Outcome) (o : Outcome) → first_answer (said (os ++ (o ∷ []))) nothing ≡ first_answer os o
first_said [] nothing = refl
first_said [] (line f body) = refl
first_said [] (gap g) = refl
first_said [] (refused n) = refl
first_said (nothing ∷ os) o = first_said os o
first_said (line f body ∷ os) o = refl
first_said (gap g ∷ os) o = refl
first_said (refused n ∷ os) o = refl

first_alone : (os : List Outcome) → first_answer (said os) nothing ≡ first_answer os nothing
first_alone [] = refl
first_alone (nothing ∷ os) = first_alone os
first_alone (line f body ∷ os) = refl
first_alone (gap g ∷ os) = refl
first_alone (refused n ∷ os) = refl

-- the answers that nibbles bring, and finish where it comes: those up to the place i, and those from there on
module _ (p : Profile) (w : List ℕ) (i : ℕ) where
  abbrev os : List Outcome
  os = outcomes p fresh w

  abbrev later : Bool → List Outcome
  later ends = drop i os ++ cond ends ((finish p (run p fresh w)).outcome ∷ []) []

  in_two_lem : (ends : Bool) → said (brought_by p fresh w ends) ≡ said (take i os) ++ said (later ends)
  in_two_lem true =
      let o : Outcome = (finish p (run p fresh w)).outcome in
      ap (λ (l : List Outcome). said (l ++ (o ∷ []))) (sym (take-append-drop i os))
      ∙ ap said (append_assoc (take i os) (drop i os) (o ∷ []))
      ∙ collected_append said_in (take i os) (drop i os ++ (o ∷ []))
  in_two_lem false =
      ap said (sym (take-append-drop i os))
      ∙ collected_append said_in (take i os) (drop i os)
      ∙ ap (λ (l : List Outcome). said (take i os) ++ said l) (sym (append-nil (drop i os)))

  first_later : (ends : Bool) → first_answer (said (later ends)) nothing ≡ first_answer (drop i os) (answer_at_end ends p (run p fresh w))
  first_later true = first_said (drop i os) (finish p (run p fresh w)).outcome
  first_later false = ap (λ (l : List Outcome). first_answer (said l) nothing) (append-nil (drop i os)) ∙ first_alone (drop i os)

-- and so over any list of calls, singles and runs, that take w₀ and then the run, with finish last or without a finish: the next mark's code in the
-- run, or else finish, brings the answer
pub number_of_the_calls : (p : Profile) (w₀ w : List ℕ) (k : ℕ) {cs : List RunCall} → FinishLastRun cs → is_answered w (runs_finish cs) ≡ true
    → runs_taken (fresh_reader p) cs ≡ w₀ ++ w → k ≤ last_kind → nibbles_only w ≡ true → begins_mark w ≡ true → kind_before p w₀ ≡ kind_numbered k
    → in_short (calls_give p w₀ w cs) ≡ short_of (explanation (profile_number p) k w)
number_of_the_calls p w₀ w k {cs} last answered taken h n b e =
    let all : List ℕ = w₀ ++ w in
    let i : ℕ = length w₀ + mark_nibbles in
    let ends : Bool = runs_finish cs in
    let told : runs_collected mark_collector p (fresh_reader p) cs ≡ said (take i (outcomes p fresh all)) ++ said (later p all i ends) =
    runs_said p last ∙ ap (λ (v : List ℕ). said (brought_by p fresh v ends)) taken ∙ in_two_lem p all i ends in
    ap (λ (l : List Outcome). in_short (first_answer (drop (answers_before p w₀ w) l) nothing)) told
    ∙ ap (λ (l : List Outcome). in_short (first_answer l nothing)) (drop-append_seam (said (take i (outcomes p fresh all))) (said (later p all i ends)))
    ∙ ap in_short (first_later p all i ends)
    ∙ number_of_the_meaning ends p w₀ k w answered h n b e

-- the kind of the mark before is the one that the reader itself keeps
pub kind_of_the_reader : (p : Profile) (room : ℕ → ℕ) → ((i : ℕ) → body_length p ≤ room i) → (w₀ : List ℕ) → nibbles_only w₀ ≡ true
    → kind_at (fed_reader room (fresh_reader p) (w₀ ++ opener)).head.at ≡ kind_before p w₀
kind_of_the_reader p room roomy w₀ n₀ =
    ap kind_at (fed_follows p room roomy (all_nibbles_append (only_nibbles w₀ n₀) (only_nibbles opener refl)) (fresh_reader p) fresh (fresh_follows p)).same.head_same.at_same

-- The kind of the mark before is that of the last mark in w₀, unless a mark's code is still due when w₀ ends.
pub kind_before_lem : (p : Profile) (w₀ : List ℕ) → completes (15 ∷ onto [] w₀) ≡ false → completes (15 ∷ 15 ∷ onto [] w₀) ≡ false
    → kind_before p w₀ ≡ kind_at (run p fresh w₀).at
kind_before_lem p w₀ h₁ h₂ = ap (λ (s : State). kind_at s.at) (run_append p fresh w₀ opener ∙ quiet)
  where
    s : State
    s = run p fresh w₀

    t : List ℕ
    t = s.text

    one : (d : Completed) → is_mark d ≡ false → (advance p s.at (15 ∷ t) d).state ≡ state_with s.at (15 ∷ t)
    one not_yet h = refl
    one (mark a b before) h = absurd (true≢false h)

    first : (step p s 15).state ≡ state_with s.at (15 ∷ t)
    first = one (detect (15 ∷ t)) (marks_are_places p w₀ 15 ∙ h₁)

    after : run p fresh (w₀ ++ (15 ∷ [])) ≡ state_with s.at (15 ∷ t)
    after = run_append p fresh w₀ (15 ∷ []) ∙ first

    quiet₂ : is_mark (detect (15 ∷ 15 ∷ t)) ≡ false
    quiet₂ =
        ap (λ (q : State). completes (15 ∷ q.text)) (sym after)
        ∙ marks_are_places p (w₀ ++ (15 ∷ [])) 15
        ∙ ap (λ (l : List ℕ). completes (15 ∷ l)) (onto_append [] w₀ (15 ∷ []))
        ∙ h₂

    two : (d : Completed) → is_mark d ≡ false → (advance p s.at (15 ∷ 15 ∷ t) d).state ≡ state_with s.at (15 ∷ 15 ∷ t)
    two not_yet h = refl
    two (mark a b before) h = absurd (true≢false h)

    second : (step p (state_with s.at (15 ∷ t)) 15).state ≡ state_with s.at (15 ∷ 15 ∷ t)
    second = two (detect (15 ∷ 15 ∷ t)) quiet₂

    quiet : run p s opener ≡ state_with s.at (0 ∷ 0 ∷ 15 ∷ 15 ∷ 15 ∷ 15 ∷ t)
    quiet =
        ap (λ (q : State). run p q (15 ∷ 15 ∷ 15 ∷ 0 ∷ 0 ∷ [])) first
        ∙ ap (λ (q : State). run p q (15 ∷ 15 ∷ 0 ∷ 0 ∷ [])) second

-- where one is due, the two may differ: after 9D (BL) and F F F F 0 0 the last mark so far is a BL; the next F F are a code, which is no line's
pub code_still_due : (p : Profile)
    → (kind_at (run p fresh (opener ++ (9 ∷ 13 ∷ opener))).at ≡ kind_numbered 1) × (kind_before p (opener ++ (9 ∷ 13 ∷ opener)) ≡ kind_numbered 0)
unfolding reading_of meaning_of kind_numbered
code_still_due p = (refl, refl)
