-- A capture that is read as if an end of line stood before it: its marks are answered as a fresh reader answers them, and the end of line is
-- answered where the first of them is complete. So that place is known, too.
use Rattle.std.specs.Prelude.{Bool, true, false, cond, ℕ, eqb}
use mathlib.Core.List.{List, [], ◌∷◌, ◌++◌}
use Rattle.std.proofs.Math.Option.{Option, none, some}
use Rattle.line_code.specs.LineCode.{clean_byte, kind_numbered, reserved_of, meaning_of, reading_of}
use Rattle.profile.specs.declared.Profile.{Profile}
use Rattle.stream.specs.declared.Before.TheVariants.{NoLine}
use Rattle.stream.specs.declared.Mark.TheVariants.{NoMark, Open}
use Rattle.stream.specs.Answers.{Outcome, nothing}
use Rattle.stream.specs.Stream.{State, fresh, group, strip, mark_if, advance, run, outcomes}
use Rattle.stream.specs.Written.{end_mark}
use Rattle.recovery.specs.Resync.{state_with}

-- the answers of nibbles from two states, and the states they leave: they agree, but that the first mark's code answers a mark of the first alone
pub data AgreeAfterEnd : List Outcome → State → List Outcome → State → Type 0 where
  no_mark : (s q : State) → AgreeAfterEnd [] s [] q
  not_complete : {os qs : List Outcome} {s q : State} → AgreeAfterEnd os s qs q → AgreeAfterEnd (nothing ∷ os) s (nothing ∷ qs) q
  first_mark : (o : Outcome) (os : List Outcome) (s : State) → AgreeAfterEnd (o ∷ os) s (nothing ∷ os) s

-- the code of the end of line, 80, newest nibble first
abbrev end_text : List ℕ
end_text = 0 ∷ 8 ∷ []

-- F F F F 0 0 doesn't reach into it
data Both : Option (List ℕ) → Option (List ℕ) → Type 0 where
  neither : Both none none
  found : (r : List ℕ) → Both (some (r ++ end_text)) (some r)

both_if : (b : Bool) {o q : Option (List ℕ)} → Both o q → Both (cond b o none) (cond b q none)
both_if true h = h
both_if false h = neither

both : (u : List ℕ) → Both (strip group (u ++ end_text)) (strip group u)
both [] = neither
both (a ∷ []) = both_if (eqb 0 a) neither
both (a ∷ b ∷ []) = both_if (eqb 0 a) (both_if (eqb 0 b) neither)
both (a ∷ b ∷ c ∷ []) = both_if (eqb 0 a) (both_if (eqb 0 b) (both_if (eqb 15 c) neither))
both (a ∷ b ∷ c ∷ d ∷ []) = both_if (eqb 0 a) (both_if (eqb 0 b) (both_if (eqb 15 c) (both_if (eqb 15 d) neither)))
both (a ∷ b ∷ c ∷ d ∷ e ∷ []) = both_if (eqb 0 a) (both_if (eqb 0 b) (both_if (eqb 15 c) (both_if (eqb 15 d) (both_if (eqb 15 e) neither))))
both (a ∷ b ∷ c ∷ d ∷ e ∷ f ∷ r) =
    both_if (eqb 0 a) (both_if (eqb 0 b) (both_if (eqb 15 c) (both_if (eqb 15 d) (both_if (eqb 15 e) (both_if (eqb 15 f) (found r))))))

module _ (p : Profile) where
  abbrev ended : List ℕ → State
  ended t = state_with (Open NoLine 0x80) (t ++ end_text)

  agree : (w t : List ℕ) → AgreeAfterEnd (outcomes p (ended t) w) (run p (ended t) w) (outcomes p (state_with NoMark t) w) (run p (state_with NoMark t) w)
  unfolding reading_of meaning_of kind_numbered reserved_of
  agree [] t = no_mark _ _
  agree (n ∷ w) [] = not_complete (agree w (n ∷ []))
  agree (n ∷ w) (x ∷ u) = go (both u) (agree w (n ∷ x ∷ u))
    where
      go : {o q : Option (List ℕ)} → Both o q
          → AgreeAfterEnd (outcomes p (ended (n ∷ x ∷ u)) w) (run p (ended (n ∷ x ∷ u)) w) (outcomes p (state_with NoMark (n ∷ x ∷ u)) w) (run p (state_with NoMark (n ∷ x ∷ u)) w)
          → AgreeAfterEnd
          ((advance p (Open NoLine 0x80) (n ∷ x ∷ (u ++ end_text)) (mark_if x n o)).outcome ∷ outcomes p (advance p (Open NoLine 0x80) (n ∷ x ∷ (u ++ end_text)) (mark_if x n o)).state w)
          (run p (advance p (Open NoLine 0x80) (n ∷ x ∷ (u ++ end_text)) (mark_if x n o)).state w)
          ((advance p NoMark (n ∷ x ∷ u) (mark_if x n q)).outcome ∷ outcomes p (advance p NoMark (n ∷ x ∷ u) (mark_if x n q)).state w)
          (run p (advance p NoMark (n ∷ x ∷ u) (mark_if x n q)).state w)
      go neither rest = not_complete rest
      go (found r) rest = first_mark _ _ _

  -- the law: of any nibbles after an end of line
  pub after_an_end : (w : List ℕ) → AgreeAfterEnd (outcomes p (run p fresh end_mark) w) (run p (run p fresh end_mark) w) (outcomes p fresh w) (run p fresh w)
  unfolding clean_byte
  after_an_end w = agree w []
