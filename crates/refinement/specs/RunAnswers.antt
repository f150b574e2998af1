-- Whether a list of calls with runs holds a finish. Definitions only.
use Rattle.std.specs.Prelude.{Bool, true, false, List, [], ◌∷◌}
use Rattle.recovery.specs.Calls.{feed, done}
use Rattle.refinement.specs.Runs.{RunCall, run, one}

-- whether finish is among the calls
abbrev pub runs_finish : List RunCall → Bool
runs_finish [] = false
runs_finish (run w buffer ∷ cs) = runs_finish cs
runs_finish (one (feed n buffer) ∷ cs) = runs_finish cs
runs_finish (one done ∷ cs) = true
