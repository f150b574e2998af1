-- Where marks are (01, 'Marks and line codes'): the reader forgets what came before an open mark, and yet completes a mark exactly
-- where F F F F 0 0 and two more nibbles stand among all nibbles taken, since two such groups can't overlap.
use Rattle.std.specs.Prelude.{◌≡◌, refl, Bool, true, false, cond, List, [], ◌∷◌, ◌++◌, ℕ, ◌+◌, ◌*◌, ◌≤◌, eqb, length, replicate}
use Rattle.std.proofs.Common.{◌∙◌, ap, ap₂, sym, subst, true≢false, not-suc-le-zero, le_of_suc-le-suc, arith}
use Rattle.std.proofs.Math.Option.{Option, none, some}
use Rattle.refusal.specs.Refusal.{damaged_code}
use Rattle.line_code.specs.LineCode.{reading_of}
use Rattle.profile.specs.declared.Profile.{Profile}
use Rattle.stream.specs.declared.Mark.{Mark}
use Rattle.stream.specs.declared.Mark.TheVariants.{NoMark, Open}
use Rattle.stream.specs.Answers.{Outcome, nothing, refused, answer_of}
use Rattle.stream.specs.Stream.{State, fresh, group, strip, Completed, not_yet, mark, mark_if, detect, answer_at, advance, step, finish, run, outcomes}
use Rattle.stream.specs.TextLaws.{strip_found}
use Rattle.recovery.specs.AnswerLaws.{mark_cases}
use Rattle.recovery.specs.Marks.{onto, found, is_mark, completes, MarkEnds, Since, all_taken, since_group, answer_in, answers_in, counted, marks_in}

-- Patterns.

-- one nibble of a pattern
pub strip_none : (b : Bool) (o : Option (List ℕ)) → o ≡ none → cond b o none ≡ none
strip_none true o h = h
strip_none false o h = refl

found_if : (b : Bool) (o q : Option (List ℕ)) → found o ≡ found q → found (cond b o none) ≡ found (cond b q none)
found_if true o q h = h
found_if false o q h = refl

-- a text as long as the pattern: older nibbles don't count
found_older : (ps t older : List ℕ) → length ps ≤ length t → found (strip ps (t ++ older)) ≡ found (strip ps t)
found_older [] t older h = refl
found_older (q ∷ ps) [] older h = absurd (not-suc-le-zero h)
found_older (q ∷ ps) (n ∷ t) older h = found_if (eqb q n) _ _ (found_older ps t older (le_of_suc-le-suc h))

-- Where a mark is completed.

pub detected : (t : List ℕ) (x y : ℕ) (before : List ℕ) → detect t ≡ mark x y before → t ≡ y ∷ x ∷ (group ++ before)
detected [] x y before h = cc
detected (b ∷ []) x y before h = cc
detected (b ∷ a ∷ t) x y before h = go (strip group t) refl h
  where
    go : (o : Option (List ℕ)) → strip group t ≡ o → mark_if a b o ≡ mark x y before → b ∷ a ∷ t ≡ y ∷ x ∷ (group ++ before)
    go none e k = cc
    go (some r) e k =
        let ex : a ≡ x = cc in
        let ey : b ≡ y = cc in
        let er : r ≡ before = cc in
        let et : t ≡ group ++ before = strip_found group t before (e ∙ ap {B = Option (List ℕ)} (λ l. some l) er) in
        ap₂ (λ (m : ℕ) (l : List ℕ). m ∷ l) ey (ap₂ (λ (m : ℕ) (l : List ℕ). m ∷ l) ex et)

pub completes_there : (t : List ℕ) → completes t ≡ true → MarkEnds t
completes_there t h = go (detect t) refl h
  where
    go : (d : Completed) → detect t ≡ d → is_mark d ≡ true → MarkEnds t
    go not_yet e k = absurd (true≢false (sym k))
    go (mark x y before) e k = record { high = x; low = y; older = before; is = detected t x y before e }

pub there_completes : (t : List ℕ) → MarkEnds t → completes t ≡ true
there_completes t h = ap completes h.is

-- What the reader keeps of all nibbles.

-- a group that begins in a text doesn't reach into the group before it
apart : (n : ℕ) (t older : List ℕ) → found (strip group ((n ∷ t) ++ (group ++ older))) ≡ found (strip group (n ∷ t))
apart a [] older = refl
apart a (b ∷ []) older = refl
apart a (b ∷ c ∷ []) older = refl
apart a (b ∷ c ∷ d ∷ []) older = refl
apart a (b ∷ c ∷ d ∷ e ∷ []) older = refl
apart a (b ∷ c ∷ d ∷ e ∷ f ∷ t) older = found_older group (a ∷ b ∷ c ∷ d ∷ e ∷ f ∷ t) (group ++ older) (omega arith)

mark_found : (x y : ℕ) (o : Option (List ℕ)) → is_mark (mark_if x y o) ≡ found o
mark_found x y none = refl
mark_found x y (some t) = refl

-- so a nibble completes a mark of what is kept exactly if it completes one of all nibbles
pub kept_completes : (t all : List ℕ) → Since t all → (n : ℕ) → completes (n ∷ t) ≡ completes (n ∷ all)
kept_completes t all all_taken n = refl
kept_completes [] all (since_group older h) n = absurd (not-suc-le-zero h)
kept_completes (x ∷ []) all (since_group older h) n = absurd (not-suc-le-zero (le_of_suc-le-suc h))
kept_completes (x ∷ a ∷ t) all (since_group older h) n =
    mark_found x n (strip group (a ∷ t)) ∙ sym (apart a t older) ∙ sym (mark_found x n (strip group ((a ∷ t) ++ (group ++ older))))

pub kept_step : (p : Profile) (m : Mark) (t all : List ℕ) (n : ℕ) (d : Completed) → detect (n ∷ t) ≡ d → Since t all
    → Since (advance p m (n ∷ t) d).state.text (n ∷ all)
kept_step p m t all n not_yet e all_taken = all_taken
kept_step p m t all n not_yet e (since_group older h) = since_group older (omega arith)
kept_step p m t all n (mark x y before) e all_taken =
    subst (Since (y ∷ x ∷ [])) (sym (detected (n ∷ t) x y before e)) (since_group before (omega arith))
kept_step p m t all n (mark x y before) e (since_group older h) =
    subst (λ (l : List ℕ). Since (y ∷ x ∷ []) (l ++ (group ++ older))) (sym (detected (n ∷ t) x y before e)) (since_group (before ++ (group ++ older)) (omega arith))

kept : (p : Profile) (s : State) (all w : List ℕ) → Since s.text all → Since (run p s w).text (onto all w)
kept p s all [] h = h
kept p s all (n ∷ w) h = kept p (step p s n).state (n ∷ all) w (kept_step p s.at s.text all n (detect (n ∷ s.text)) refl h)

-- a code byte may lie on the next group's first nibbles: two marks, the first with the damaged code FF
code_on_group : (p : Profile) → outcomes p fresh (15 ∷ 15 ∷ 15 ∷ 15 ∷ 0 ∷ 0 ∷ 15 ∷ 15 ∷ 15 ∷ 15 ∷ 0 ∷ 0 ∷ 12 ∷ 7 ∷ []) ≡ replicate 13 nothing ++ (refused damaged_code ∷ [])
unfolding answer_of reading_of
code_on_group p = refl

-- after any nibbles w from a fresh reader, the nibble n completes a mark exactly if it does so among all of them (and that is where
-- `MarkEnds` says)
pub marks_are_places : (p : Profile) (w : List ℕ) (n : ℕ) → completes (n ∷ (run p fresh w).text) ≡ completes (n ∷ onto [] w)
marks_are_places p w n = kept_completes (run p fresh w).text (onto [] w) (kept p fresh [] w all_taken) n

-- Each mark gets exactly one answer.

-- a mark that waits for its answer
abbrev waiting : Mark → ℕ
waiting NoMark = 0
waiting (Open before code) = 1

answered : (p : Profile) (m : Mark) (t : List ℕ) (next : Option ℕ) → answer_in (answer_at p m t next) ≡ waiting m
answered p NoMark t next = refl
answered p (Open before c) t next = mark_cases (λ (o : Outcome). answer_in o ≡ 1) (λ g. refl) (λ n l. refl) p before c t next (λ f body l e. refl)

-- a nibble that completes a mark answers the one that waits, and the new one waits; any other answers nothing
answered_step : (p : Profile) (m : Mark) (t : List ℕ) (d : Completed)
    → answer_in (advance p m t d).outcome + waiting (advance p m t d).state.at ≡ waiting m + counted (is_mark d)
answered_step p m t not_yet = omega arith
answered_step p m t (mark x y before) = omega (arith, answered p m before (some (16 * x + y)))

answered_all : (p : Profile) (s : State) (all w : List ℕ) → Since s.text all
    → answers_in (outcomes p s w) + waiting (run p s w).at ≡ waiting s.at + marks_in all w
answered_all p s all [] h = omega arith
answered_all p s all (n ∷ w) h =
    let d = detect (n ∷ s.text) in
    let c : counted (completes (n ∷ s.text)) ≡ counted (completes (n ∷ all)) = ap counted (kept_completes s.text all h n) in
    omega (arith, c, answered_step p s.at (n ∷ s.text) d, answered_all p (step p s n).state (n ∷ all) w (kept_step p s.at s.text all n d refl h))

-- of any nibbles and finish: as many answers as marks
pub one_answer_each : (p : Profile) (w : List ℕ) → answers_in (outcomes p fresh w) + answer_in (finish p (run p fresh w)).outcome ≡ marks_in [] w
one_answer_each p w =
    omega (arith, answered p (run p fresh w).at (run p fresh w).text none, answered_all p fresh [] w all_taken)
