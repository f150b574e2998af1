-- At each turn the number is that of the digits so far.
use mathlib.Core.Path.{◌≡◌}
use lib.ListN.{drop}
use Rattle.named_value.specs.Number.{digits_onto}
use Rattle.named_value.proofs.number.Given as goal

abbrev pub invariant-loop-c : goal.invariant-loop-c
invariant-loop-c l = digits_onto 0 l.c-items ≡ digits_onto l.n (drop l.c-index l.c-items)
