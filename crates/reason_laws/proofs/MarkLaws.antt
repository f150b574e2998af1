-- The first mark of a run and the next: the meaning, which reads nibble by nibble and looks back, opens the run's first mark with its eight
-- nibbles, and answers it for the text up to the first place where another mark begins.
use Rattle.std.specs.Prelude.{◌≡◌, refl, Bool, true, false, cond, ◌||◌, List, [], ◌∷◌, ◌++◌, ℕ, suc, ◌+◌, ◌*◌, ◌<◌, eqb, length, take, drop, None, Option as Optional, Some}
use Rattle.std.proofs.Common.{◌∙◌, ap, ap₂, sym, subst, true≢false, append_assoc, arith, not-suc-le-zero, le_of_suc-le-suc}
use Rattle.std.proofs.Math.Option.{Option, none, some}
use Rattle.std.proofs.Math.Seq.{take-length}
use Rattle.profile.specs.declared.Profile.{Profile}
use Rattle.stream.specs.declared.Before.{Before}
use Rattle.stream.specs.declared.Mark.{Mark}
use Rattle.stream.specs.declared.Mark.TheVariants.{Open}
use Rattle.stream.specs.Answers.{Outcome, nothing, is_line, turned, answer_of}
use Rattle.stream.specs.Stream.{State, fresh, group, strip, Completed, not_yet, mark, mark_if, detect, kind_at, before_by, answer_at, advance, step, run, outcomes}
use Rattle.recovery.specs.Calls.{mark_nibbles}
use Rattle.recovery.specs.Marks.{onto, is_mark, completes}
use Rattle.recovery.specs.MarksLaws.{strip_none, marks_are_places}
use Rattle.recovery.specs.AnswerLaws.{mark_cases}
use Rattle.recovery.specs.CutTexts.{onto_append}
use Rattle.recovery.specs.Resync.{state_with}
use Rattle.recovery.specs.ReadBackLaws.{run_append}
use Rattle.reason.specs.Explanation.{opener, code_after, code_at, is_code, next_mark, text_in, next_in}
use Rattle.reason.specs.ExplanationLaws.{code_short}
use Rattle.reason_laws.specs.Short.{code_or, before_kind, kind_before, first_answer, answer_at_end}
use Rattle.line_code.specs.declared.Kind.{Kind}

-- Short texts hold no mark.

strip_short : (ps t : List ℕ) → length t < length ps → strip ps t ≡ none
strip_short [] t h = absurd (not-suc-le-zero h)
strip_short (q ∷ ps) [] h = refl
strip_short (q ∷ ps) (n ∷ t) h = strip_none (eqb q n) _ (strip_short ps t (le_of_suc-le-suc h))

detect_short : (t : List ℕ) → length t < mark_nibbles → detect t ≡ not_yet
detect_short [] h = refl
detect_short (y ∷ []) h = refl
detect_short (y ∷ x ∷ t) h = ap (mark_if x y) (strip_short group t (omega arith))

next_short : (u : List ℕ) → length u < mark_nibbles → next_mark u ≡ length u
next_short [] h = refl
next_short (n ∷ u) h =
    ap (λ (c : Optional ℕ). cond (is_code c) 0 (suc (next_mark u))) (code_short (n ∷ u) h) ∙ ap suc (next_short u (omega arith))

drop_all : (u : List ℕ) → drop (length u) u ≡ []
drop_all [] = refl
drop_all (n ∷ u) = drop_all u

text_short : (u : List ℕ) → length u < mark_nibbles → text_in u ≡ u
text_short u h = ap (λ (n : ℕ). take n u) (next_short u h) ∙ take-length u

code_none : code_at [] ≡ None
unfolding code_at
code_none = refl

finish_short : (u : List ℕ) → length u < mark_nibbles → next_in u ≡ None
finish_short u h = ap (λ (n : ℕ). code_at (drop n u)) (next_short u h) ∙ ap code_at (drop_all u) ∙ code_none

-- Eight nibbles: looking back from the last finds a mark exactly where looking on from the first does.

data Sees (x y : ℕ) (t : List ℕ) : Completed → Optional ℕ → Type 0 where
  sees_mark : Sees x y t (mark x y t) (Some (16 * x + y))
  sees_none : Sees x y t not_yet None

module _ (x y : ℕ) (t w : List ℕ) where
  sees : (b₀ b₁ b₂ b₃ b₄ b₅ : Bool)
      → Sees x y t
      (mark_if x y (cond b₅ (cond b₄ (cond b₃ (cond b₂ (cond b₁ (cond b₀ (some t) none) none) none) none) none) none))
      (code_after (cond b₀ (cond b₁ (cond b₂ (cond b₃ (cond b₄ (cond b₅ (some (x ∷ y ∷ w)) none) none) none) none) none) none))
  sees true true true true true true = sees_mark
  sees true true true true true false = sees_none
  sees true true true true false true = sees_none
  sees true true true true false false = sees_none
  sees true true true false true true = sees_none
  sees true true true false b₄ false = sees_none
  sees true true true false false true = sees_none
  sees true true false b₃ b₄ false = sees_none
  sees true true false b₃ false true = sees_none
  sees true true false false true true = sees_none
  sees true true false true true true = sees_none
  sees true false b₂ b₃ b₄ false = sees_none
  sees true false b₂ b₃ false true = sees_none
  sees true false b₂ false true true = sees_none
  sees true false false true true true = sees_none
  sees true false true true true true = sees_none
  sees false b₁ b₂ b₃ b₄ false = sees_none
  sees false b₁ b₂ b₃ false true = sees_none
  sees false b₁ b₂ false true true = sees_none
  sees false b₁ false true true true = sees_none
  sees false false true true true true = sees_none
  sees false true true true true true = sees_none

eight : (n₀ n₁ n₂ n₃ n₄ n₅ x y : ℕ) (t w : List ℕ)
    → Sees x y t (detect (y ∷ x ∷ n₅ ∷ n₄ ∷ n₃ ∷ n₂ ∷ n₁ ∷ n₀ ∷ t)) (code_at (n₀ ∷ n₁ ∷ n₂ ∷ n₃ ∷ n₄ ∷ n₅ ∷ x ∷ y ∷ w))
unfolding code_at
eight n₀ n₁ n₂ n₃ n₄ n₅ x y t w = sees x y t w (eqb 15 n₀) (eqb 15 n₁) (eqb 15 n₂) (eqb 15 n₃) (eqb 0 n₄) (eqb 0 n₅)

-- The answer of an open mark.

-- the first answer that nibbles bring from a state on, or else that of finish, where it comes
abbrev pub answer_from : Bool → Profile → State → List ℕ → Outcome
answer_from ends p s w = first_answer (outcomes p s w) (answer_at_end ends p (run p s w))

-- the answer of a mark with this text, by what follows: the next mark's code, or the end
abbrev pub answer_now : Bool → Profile → Mark → List ℕ → Optional ℕ → Outcome
answer_now ends p m t None = cond ends (answer_at p m t none) nothing
answer_now ends p m t (Some d) = answer_at p m t (some d)

-- the answer of an open mark, by its text and what follows, both of nibbles that are still to come
abbrev answer_by : Bool → Profile → Mark → List ℕ → List ℕ → Outcome
answer_by ends p m t u = answer_now ends p m (turned (text_in u) t) (next_in u)

-- where the next mark's code or finish comes, it is the meaning's answer
pub now_answered : (ends : Bool) (p : Profile) (m : Mark) (t : List ℕ) (next : Optional ℕ) → (is_code next || ends) ≡ true
    → answer_now ends p m t next ≡ answer_at p m t (code_or next)
now_answered true p m t None h = refl
now_answered false p m t None h = absurd (true≢false (sym h))
now_answered ends p m t (Some d) h = refl

-- an answer ends the search
answer_first : (p : Profile) (before : Before) (c : ℕ) (t : List ℕ) (next : Option ℕ) (os : List Outcome) (o : Outcome)
    → first_answer (answer_of p before c t next ∷ os) o ≡ answer_of p before c t next
answer_first p before c t next os o =
    mark_cases (λ (a : Outcome). first_answer (a ∷ os) o ≡ a) (λ g. refl) (λ n l. refl) p before c t next (λ f body l e. refl)

-- one more nibble to come, where no mark begins
next_later : (n : ℕ) (u : List ℕ) → code_at (n ∷ u) ≡ None → next_mark (n ∷ u) ≡ suc (next_mark u)
next_later n u h = ap (λ (c : Optional ℕ). cond (is_code c) 0 (suc (next_mark u))) h

next_here : (n : ℕ) (u : List ℕ) (c : ℕ) → code_at (n ∷ u) ≡ Some c → next_mark (n ∷ u) ≡ 0
next_here n u c h = ap (λ (d : Optional ℕ). cond (is_code d) 0 (suc (next_mark u))) h

module _ (ends : Bool) (p : Profile) (before : Before) (c : ℕ) where
  abbrev now : List ℕ → Optional ℕ → Outcome
  now t next = answer_now ends p (Open before c) t next

  -- seven nibbles have come in after a text that holds no later mark
  seven_answer : (w t : List ℕ) (n₀ n₁ n₂ n₃ n₄ n₅ x : ℕ)
      → answer_from ends p (state_with (Open before c) (x ∷ n₅ ∷ n₄ ∷ n₃ ∷ n₂ ∷ n₁ ∷ n₀ ∷ t)) w
      ≡ answer_by ends p (Open before c) t (n₀ ∷ n₁ ∷ n₂ ∷ n₃ ∷ n₄ ∷ n₅ ∷ x ∷ w)
  seven_answer [] t n₀ n₁ n₂ n₃ n₄ n₅ x =
      let u : List ℕ = n₀ ∷ n₁ ∷ n₂ ∷ n₃ ∷ n₄ ∷ n₅ ∷ x ∷ [] in
      let h : length u < mark_nibbles = omega arith in
      sym (ap₂ (λ (v : List ℕ) (d : Optional ℕ). now (turned v t) d) (text_short u h) (finish_short u h))
  seven_answer (y ∷ w) t n₀ n₁ n₂ n₃ n₄ n₅ x =
      go (eight n₀ n₁ n₂ n₃ n₄ n₅ x y t w) refl refl (seven_answer w (n₀ ∷ t) n₁ n₂ n₃ n₄ n₅ x y)
    where
      u : List ℕ
      u = n₁ ∷ n₂ ∷ n₃ ∷ n₄ ∷ n₅ ∷ x ∷ y ∷ w

      back : List ℕ
      back = y ∷ x ∷ n₅ ∷ n₄ ∷ n₃ ∷ n₂ ∷ n₁ ∷ n₀ ∷ t

      after : State
      after = (advance p (Open before c) back (mark x y t)).state

      from : Completed → Outcome
      from d =
          first_answer ((advance p (Open before c) back d).outcome ∷ outcomes p (advance p (Open before c) back d).state w)
          (answer_at_end ends p (run p (advance p (Open before c) back d).state w))

      go : {d : Completed} {e : Optional ℕ} → Sees x y t d e → detect back ≡ d → code_at (n₀ ∷ u) ≡ e
          → answer_from ends p (state_with (Open before c) back) w ≡ answer_by ends p (Open before c) (n₀ ∷ t) u
          → from (detect back) ≡ answer_by ends p (Open before c) t (n₀ ∷ u)
      go sees_mark f g r =
          ap from f
          ∙ answer_first p before c t (some (16 * x + y)) (outcomes p after w) (answer_at_end ends p (run p after w))
          ∙ sym (ap (λ (k : ℕ). now (turned (take k (n₀ ∷ u)) t) (code_at (drop k (n₀ ∷ u)))) (next_here n₀ u (16 * x + y) g)
          ∙ ap (λ (e : Optional ℕ). now t e) g)
      go sees_none f g r =
          ap from f
          ∙ r
          ∙ sym (ap (λ (k : ℕ). now (turned (take k (n₀ ∷ u)) t) (code_at (drop k (n₀ ∷ u)))) (next_later n₀ u g))

  -- few nibbles bring no mark
  few_nibbles : (t w v : List ℕ) → length t + length w < mark_nibbles
      → answer_from ends p (state_with (Open before c) t) (w ++ v) ≡ answer_from ends p (state_with (Open before c) (onto t w)) v
  few_nibbles t [] v h = refl
  few_nibbles t (n ∷ w) v h =
      ap (λ (d : Completed). first_answer ((advance p (Open before c) (n ∷ t) d).outcome ∷ outcomes p (advance p (Open before c) (n ∷ t) d).state (w ++ v))
      (answer_at_end ends p (run p (advance p (Open before c) (n ∷ t) d).state (w ++ v)))) (detect_short (n ∷ t) (omega arith))
      ∙ few_nibbles (n ∷ t) w v (omega arith)

  -- a mark's code has come in; few nibbles follow, and finish
  few_answer : (x y : ℕ) (w : List ℕ) → length w < 6
      → answer_from ends p (state_with (Open before c) (onto (y ∷ x ∷ []) w)) [] ≡ answer_by ends p (Open before c) [] (x ∷ y ∷ w)
  few_answer x y w h =
      let g : length (x ∷ y ∷ w) < mark_nibbles = omega arith in
      ap (λ (l : List ℕ). now l None) (onto_turned (y ∷ x ∷ []) w)
      ∙ sym (ap₂ (λ (v : List ℕ) (d : Optional ℕ). now (turned v []) d) (text_short (x ∷ y ∷ w) g) (finish_short (x ∷ y ∷ w) g))
    where
      onto_turned : (t w : List ℕ) → onto t w ≡ turned w t
      onto_turned t [] = refl
      onto_turned t (n ∷ w) = onto_turned (n ∷ t) w

  -- a mark's code has come in: whatever follows, its answer is that of the text up to the first place where another mark begins
  pub open_answer : (x y : ℕ) (w : List ℕ) → answer_from ends p (state_with (Open before c) (y ∷ x ∷ [])) w ≡ answer_by ends p (Open before c) [] (x ∷ y ∷ w)
  open_answer x y [] = few_answer x y [] (omega arith)
  open_answer x y (n₂ ∷ []) = few_nibbles (y ∷ x ∷ []) (n₂ ∷ []) [] (omega arith) ∙ few_answer x y (n₂ ∷ []) (omega arith)
  open_answer x y (n₂ ∷ n₃ ∷ []) = few_nibbles (y ∷ x ∷ []) (n₂ ∷ n₃ ∷ []) [] (omega arith) ∙ few_answer x y (n₂ ∷ n₃ ∷ []) (omega arith)
  open_answer x y (n₂ ∷ n₃ ∷ n₄ ∷ []) =
      few_nibbles (y ∷ x ∷ []) (n₂ ∷ n₃ ∷ n₄ ∷ []) [] (omega arith) ∙ few_answer x y (n₂ ∷ n₃ ∷ n₄ ∷ []) (omega arith)
  open_answer x y (n₂ ∷ n₃ ∷ n₄ ∷ n₅ ∷ []) =
      few_nibbles (y ∷ x ∷ []) (n₂ ∷ n₃ ∷ n₄ ∷ n₅ ∷ []) [] (omega arith) ∙ few_answer x y (n₂ ∷ n₃ ∷ n₄ ∷ n₅ ∷ []) (omega arith)
  open_answer x y (n₂ ∷ n₃ ∷ n₄ ∷ n₅ ∷ n₆ ∷ w) =
      few_nibbles (y ∷ x ∷ []) (n₂ ∷ n₃ ∷ n₄ ∷ n₅ ∷ n₆ ∷ []) w (omega arith) ∙ seven_answer w [] x y n₂ n₃ n₄ n₅ n₆

-- The run's first mark.

-- the state that a mark's code opens, whichever the mark before was
pub record Opened (p : Profile) (kind : Optional Kind) (code x y : ℕ) (s : State) : Type 0 where
  pub before : Before
  pub kind_is : before_kind before ≡ kind
  pub state : s ≡ state_with (Open before code) (y ∷ x ∷ [])

kind_kept : (k : Optional Kind) (handed : Bool) → before_kind (before_by k handed) ≡ k
kind_kept None handed = refl
kind_kept (Some k) true = refl
kind_kept (Some k) false = refl

-- a mark that is completed: its code opens
completed : (d : Completed) (p : Profile) (m : Mark) (t : List ℕ) → is_mark d ≡ true → (x y : ℕ) (u : List ℕ) → t ≡ y ∷ x ∷ u → detect t ≡ d
    → Opened p (kind_at m) (16 * x + y) x y (advance p m t d).state
completed not_yet p m t h x y u e f = absurd (true≢false (sym h))
completed (mark a b older) p m t h x y u e f = go (detect_code (strip group u) (sym f ∙ ap detect e))
  where
    detect_code : (o : Option (List ℕ)) → mark a b older ≡ mark_if x y o → (a ≡ x) × (b ≡ y)
    detect_code none k = (cc, cc)
    detect_code (some r) k = (cc, cc)

    handed : Bool
    handed = is_line (answer_at p m older (some (16 * a + b)))

    go : (a ≡ x) × (b ≡ y) → Opened p (kind_at m) (16 * x + y) x y (advance p m t (mark a b older)).state
    go q =
        record {
          before = before_by (kind_at m) handed;
          kind_is = kind_kept (kind_at m) handed;
          state = ap₂ (λ (i j : ℕ). state_with (Open (before_by (kind_at m) handed) (16 * i + j)) (j ∷ i ∷ [])) q.0 q.1;
        }

still : (d : Completed) (p : Profile) (m : Mark) (t : List ℕ) → is_mark d ≡ false → (advance p m t d).state ≡ state_with m t
still not_yet p m t h = refl
still (mark a b before) p m t h = absurd (true≢false h)

-- the eight nibbles of a mark open it
pub first_opens : (p : Profile) (w₀ : List ℕ) (x y : ℕ) → Opened p (kind_before p w₀) (16 * x + y) x y (run p fresh (w₀ ++ (opener ++ (x ∷ y ∷ []))))
first_opens p w₀ x y = subst (Opened p (kind_before p w₀) (16 * x + y) x y) (sym whole) two
  where
    s : State
    s = run p fresh (w₀ ++ opener)

    here : onto [] (w₀ ++ opener) ≡ group ++ onto [] w₀
    here = onto_append [] w₀ opener

    no_mark : is_mark (detect (x ∷ s.text)) ≡ false
    no_mark = marks_are_places p (w₀ ++ opener) x ∙ ap (λ (l : List ℕ). completes (x ∷ l)) here

    one : (step p s x).state ≡ state_with s.at (x ∷ s.text)
    one = still (detect (x ∷ s.text)) p s.at (x ∷ s.text) no_mark

    then_run : run p fresh (w₀ ++ (opener ++ (x ∷ []))) ≡ state_with s.at (x ∷ s.text)
    then_run = ap (run p fresh) (sym (append_assoc w₀ opener (x ∷ []))) ∙ run_append p fresh (w₀ ++ opener) (x ∷ []) ∙ one

    is_mark_lem : is_mark (detect (y ∷ x ∷ s.text)) ≡ true
    is_mark_lem =
        ap (λ (q : State). completes (y ∷ q.text)) (sym then_run)
        ∙ marks_are_places p (w₀ ++ (opener ++ (x ∷ []))) y
        ∙ ap (λ (l : List ℕ). completes (y ∷ l)) (onto_append [] w₀ (opener ++ (x ∷ [])))

    two : Opened p (kind_before p w₀) (16 * x + y) x y (step p (state_with s.at (x ∷ s.text)) y).state
    two = completed (detect (y ∷ x ∷ s.text)) p s.at (y ∷ x ∷ s.text) is_mark_lem x y s.text refl refl

    whole : run p fresh (w₀ ++ (opener ++ (x ∷ y ∷ []))) ≡ (step p (state_with s.at (x ∷ s.text)) y).state
    whole =
        ap (run p fresh) (sym (append_assoc w₀ (opener ++ (x ∷ [])) (y ∷ [])))
        ∙ run_append p fresh (w₀ ++ (opener ++ (x ∷ []))) (y ∷ [])
        ∙ ap (λ (q : State). (step p q y).state) then_run
