-- Lines that lie frame by frame, and none between. Definitions only.
use Rattle.std.specs.Prelude.{◌≡◌, Bool, true, false, ◌&&◌, List, [], ◌∷◌, ◌++◌, ◌≤◌, length}
use Rattle.profile.specs.declared.Profile.{Profile}
use Rattle.frame_layout.specs.declared.Borders.{Borders}
use Rattle.frame_judge.specs.declared.Judge.TheVariants.{Waiting}
use Rattle.frame_judge.specs.declared.Ruling.{Ruling}
use Rattle.frame_judge.specs.declared.Ruling.TheVariants as ruling
use Rattle.frame_layout.specs.FrameLayout.{last_place}
use Rattle.frame_judge.specs.Calls.{Line, rulings, IsFrame}

-- each ruling is Going
abbrev pub is_going : Ruling → Bool
is_going ruling.Waiting = false
is_going ruling.Going = true
is_going ruling.Complete = false
is_going (ruling.Refused refusal) = false

-- each ruling is Going
abbrev pub all_going : List Ruling → Bool
all_going [] = true
all_going (v ∷ vs) = is_going v && all_going vs

-- whole frames, each straight after the one before; then fewer lines than a frame has, each of which a judge that waits before them answers
-- with Going
pub data FrameByFrame (p : Profile) : List Line → Type 0 where
  unfinished : (ls : List Line) → length ls ≤ last_place p → all_going (rulings p Waiting ls) ≡ true → FrameByFrame p ls
  frame_first : (b : Borders) (frame : List Line) {ls : List Line} → IsFrame p b frame → FrameByFrame p ls → FrameByFrame p (frame ++ ls)
