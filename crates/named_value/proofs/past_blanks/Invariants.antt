-- At each turn only blanks were passed.
use mathlib.Core.Path.{◌≡◌}
use lib.ListN.{drop}
use Rattle.named_value.specs.Number.{past_blanks}
use Rattle.named_value.proofs.past_blanks.Given as goal

abbrev pub invariant-loop-i : goal.invariant-loop-i
invariant-loop-i l = past_blanks (drop l.at l.line) ≡ past_blanks (drop l.i l.line)
