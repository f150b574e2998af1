-- Demand 2, read-back: a line as written with code bytes of its own, what comes out of it, and what it is to read it back. Definitions only.
use Rattle.std.specs.Prelude.{◌≡◌, List, [], ◌∷◌, ◌++◌, ℕ, ◌/◌, ◌%◌, length}
use Rattle.line_code.specs.declared.Repair.{Repair}
use Rattle.profile.specs.declared.Profile.{Profile}
use Rattle.stream.specs.Answers.{facts, Outcome, nothing, line, good_gap}
use Rattle.stream.specs.Stream.{fresh, finish, run, outcomes}
use Rattle.stream.specs.Written.{Sent, mark_of, start_mark, content, tail}
use Rattle.recovery.specs.Marks.{onto}
use Rattle.recovery.specs.Collected.{nothings}

-- the first seven nibbles of a mark bring nothing
abbrev pub seven : List Outcome
seven = nothing ∷ nothing ∷ nothing ∷ nothing ∷ nothing ∷ nothing ∷ nothing ∷ []

-- then its last nibble brings an outcome
abbrev pub seven_then : Outcome → List Outcome
seven_then o = seven ++ (o ∷ [])

-- a line as written, but with the code bytes given: with the clean ones it is `written s`
abbrev pub written_with : ℕ → ℕ → Sent → List ℕ
written_with start end s = mark_of start ++ (content s ++ (mark_of end ++ tail s))

-- the text of the end mark when the line's gap and nulls have come in
abbrev pub gap_text : ℕ → Sent → List ℕ
gap_text c s = onto (c % 16 ∷ c / 16 ∷ []) (tail s)

-- what comes out of a line as written after its start mark: the line, with the end code's second nibble, and nothing else
abbrev pub rest_told : Sent → Repair → Repair → List Outcome
rest_told s r q = nothings (content s) ++ (seven_then (line (facts s.kind s.number r q) s.body) ++ nothings (tail s))

-- the nibbles w, fed to a fresh reader, are read as the line s, with these repairs of the code that starts it and of the one that ends it
pub record ReadsBack (p : Profile) (s : Sent) (w : List ℕ) (r q : Repair) : Type 0 where
  -- only the second nibble of the end code brings an answer: the line
  pub line_told : outcomes p fresh w ≡ nothings (start_mark s) ++ rest_told s r q
  -- the gap is told when the next mark's code is complete, whatever that is, and its line's period is its length as written; or at finish
  pub gap_at_mark : (code : ℕ) → outcomes p (run p fresh w) (mark_of code) ≡ seven_then (good_gap (length w) s.gap_one s.gap_two)
  pub gap_at_finish : (finish p (run p fresh w)).outcome ≡ good_gap 0 s.gap_one s.gap_two
