-- The places before the one reached are used, and stay.
use Rattle.std.proofs.Common.{◌≡◌}
use Rattle.saved_search.proofs.Looking.{Passed}
use Rattle.saved_search.proofs.save_into.Given as goal

abbrev pub invariant-loop-i : goal.invariant-loop-i
invariant-loop-i l = (l.places ≡ l.fn.places) × Passed l.setting l.fn.places l.i
