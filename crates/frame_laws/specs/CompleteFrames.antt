-- Rulings on the lines of a frame that is Complete. Definitions only.
use Rattle.std.specs.Prelude.{◌≡◌, List, [], ◌∷◌, ◌++◌, ℕ, ◌-◌, replicate}
use Rattle.profile.specs.declared.Profile.{Profile}
use Rattle.frame_judge.specs.declared.Judge.{Judge}
use Rattle.frame_judge.specs.declared.Judge.TheVariants.{Waiting}
use Rattle.frame_judge.specs.declared.Ruling.{Ruling}
use Rattle.frame_judge.specs.declared.Ruling.TheVariants as ruling
use Rattle.frame_layout.specs.FrameLayout.{last_place}
use Rattle.frame_judge.specs.Calls.{Line, after, rulings}

-- so many lines are Going, the last one Complete
abbrev pub to_complete : ℕ → List Ruling
to_complete n = replicate n ruling.Going ++ (ruling.Complete ∷ [])

-- the lines are answered v, then Going up to the last, which is Complete; then the judge waits
abbrev pub Completes : Profile → Judge → Ruling → List Line → Type 0
Completes p j v ls = (rulings p j ls ≡ v ∷ to_complete (last_place p - 1)) × (after p j ls ≡ Waiting)
