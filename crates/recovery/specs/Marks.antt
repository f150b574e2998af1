-- Where marks are (01, 'Marks and line codes') among all nibbles taken, what the reader keeps of them, and how many marks and answers there are.
-- Definitions only.
use Rattle.std.specs.Prelude.{◌≡◌, Bool, true, false, cond, List, [], ◌∷◌, ◌++◌, ℕ, ◌+◌, ◌≤◌, length}
use Rattle.std.proofs.Math.Option.{Option, none, some}
use Rattle.stream.specs.Answers.{Outcome, nothing, line, gap, refused}
use Rattle.stream.specs.Stream.{group, Completed, not_yet, mark, detect}

-- nibbles pushed on a text, newest first
abbrev pub onto : List ℕ → List ℕ → List ℕ
onto t [] = t
onto t (n ∷ w) = onto (n ∷ t) w

-- whether a pattern is there
abbrev pub found : Option (List ℕ) → Bool
found none = false
found (some t) = true

-- whether a mark is completed
abbrev pub is_mark : Completed → Bool
is_mark not_yet = false
is_mark (mark x y before) = true

-- whether the newest of these nibbles completes a mark
abbrev pub completes : List ℕ → Bool
completes t = is_mark (detect t)

-- a text whose newest nibbles are F F F F 0 0 and two more
pub record MarkEnds (t : List ℕ) : Type 0 where
  pub high : ℕ
  pub low : ℕ
  pub older : List ℕ
  pub is : t ≡ low ∷ high ∷ (group ++ older)

-- the text is all nibbles taken; or those since some F F F F 0 0, two at least
pub data Since (t : List ℕ) : List ℕ → Type 0 where
  all_taken : Since t t
  since_group : (older : List ℕ) → 2 ≤ length t → Since t (t ++ (group ++ older))

-- an outcome counts as an answer, but not nothing
abbrev pub answer_in : Outcome → ℕ
answer_in nothing = 0
answer_in (line f body) = 1
answer_in (gap g) = 1
answer_in (refused n) = 1

-- the answers among outcomes
abbrev pub answers_in : List Outcome → ℕ
answers_in [] = 0
answers_in (o ∷ os) = answer_in o + answers_in os

-- a test as a number: 1 where it passes, else 0
abbrev pub counted : Bool → ℕ
counted b = cond b 1 0

-- the marks that nibbles complete, after those of a text
abbrev pub marks_in : List ℕ → List ℕ → ℕ
marks_in t [] = 0
marks_in t (n ∷ w) = counted (completes (n ∷ t)) + marks_in (n ∷ t) w
