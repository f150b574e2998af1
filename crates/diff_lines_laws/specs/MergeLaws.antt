-- Two lists walked by their numbers: what holds at each step holds of all pairs of lists.
use Rattle.std.specs.Prelude.{◌≡◌, refl, Bool, true, false, List, [], ◌∷◌, ◌<◌, ltb}
use Rattle.std.proofs.Common.{arith, ltb-true, ltb-false}
use Rattle.line_records.specs.Lines.{FullLine}

-- one step for each way that two lists can begin
pub record MergeSteps (P : List FullLine → List FullLine → Type 0) : Type 0 where
  pub none : P [] []
  pub first_left : (a : FullLine) (ls : List FullLine) → P ls [] → P (a ∷ ls) []
  pub second_left : (b : FullLine) (ms : List FullLine) → P [] ms → P [] (b ∷ ms)
  pub first : (a b : FullLine) (ls ms : List FullLine) → a.number < b.number → P ls (b ∷ ms) → P (a ∷ ls) (b ∷ ms)
  pub second : (a b : FullLine) (ls ms : List FullLine) → b.number < a.number → P (a ∷ ls) ms → P (a ∷ ls) (b ∷ ms)
  pub both : (a b : FullLine) (ls ms : List FullLine) → a.number ≡ b.number → P ls ms → P (a ∷ ls) (b ∷ ms)

inner : (P : List FullLine → List FullLine → Type 0) → MergeSteps P → (a : FullLine) (ls : List FullLine) → ((ms : List FullLine) → P ls ms) → (ms : List FullLine) → P (a ∷ ls) ms
inner P s a ls h [] = s.first_left a ls (h [])
inner P s a ls h (b ∷ ms) = by (ltb a.number b.number) (ltb b.number a.number) refl refl (inner P s a ls h ms)
  where
    by : (t u : Bool) → ltb a.number b.number ≡ t → ltb b.number a.number ≡ u → P (a ∷ ls) ms → P (a ∷ ls) (b ∷ ms)
    by true u e f r = s.first a b ls ms (ltb-true _ _ e) (h (b ∷ ms))
    by false true e f r = s.second a b ls ms (ltb-true _ _ f) r
    by false false e f r = s.both a b ls ms (omega (arith, ltb-false a.number b.number e, ltb-false b.number a.number f)) (h ms)

pub walked : (P : List FullLine → List FullLine → Type 0) → MergeSteps P → (ls ms : List FullLine) → P ls ms
walked P s [] [] = s.none
walked P s [] (b ∷ ms) = s.second_left b ms (walked P s [] ms)
walked P s (a ∷ ls) ms = inner P s a ls (walked P s ls) ms
