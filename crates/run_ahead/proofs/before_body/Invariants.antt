-- At each turn the run from here on is the run from the start; a pair is two nibbles taken one by one (Pairs.antt), and the places left fall.
use mathlib.Core.Path.{◌≡◌}
use mathlib.Core.List.{List}
use Prim.Native.Nat.{ℕ, ◌+◌, ◌-◌, ◌%◌, ◌≤◌}
use Rattle.run_ahead.specs.Parts.{Leads}
use Rattle.run_ahead.proofs.Pairs.{head, Stands}
use Rattle.run_ahead.proofs.before_body.Given as goal

abbrev pub invariant-loop-kept : goal.invariant-loop-kept
invariant-loop-kept l =
    ((B : List ℕ) → Leads l.s (head l.h.profile l.h.at l.initial.count l.initial.window l.initial.kept) B l.from (head l.h.profile l.h.at l.count l.window l.kept) B l.i)
    × (Stands l.s l.from l.end l.window l.i) × (l.count % 2 ≡ 0) × (l.count + (l.end - l.i) ≤ 14) × (l.i + l.initial.count ≡ l.from + l.count)

abbrev pub decreases-loop-kept : goal.decreases-loop-kept
decreases-loop-kept l = l.end - l.i
