-- A state of the meaning by its mark and text, and what a mark becomes. Definitions only.
use Rattle.std.specs.Prelude.{List, [], ◌∷◌, ℕ, ◌/◌, ◌%◌}
use Rattle.std.proofs.Math.Option.{some}
use Rattle.profile.specs.declared.Profile.{Profile}
use Rattle.stream.specs.declared.Before.{Before}
use Rattle.stream.specs.declared.Mark.{Mark}
use Rattle.stream.specs.declared.Mark.TheVariants.{Open}
use Rattle.stream.specs.Answers.{is_line}
use Rattle.stream.specs.Stream.{State, kind_at, before_by, answer_at}

-- the state with a mark and its text
abbrev pub state_with : Mark → List ℕ → State
state_with m t = record { at = m; text = t }

-- the state with a mark whose code has just come in
abbrev pub opened : Before → ℕ → State
opened before c = state_with (Open before c) (c % 16 ∷ c / 16 ∷ [])

-- what a mark is to the next one, whose code is this, when its text is complete
abbrev pub becomes : Profile → Mark → List ℕ → ℕ → Before
becomes p m t code = before_by (kind_at m) (is_line (answer_at p m t (some code)))
