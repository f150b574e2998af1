-- The length must leave 2 by 3; then each character is tried at its place.
use mathlib.Core.Path.{◌≡◌}
use lib.ListN.{drop}
use Rattle.two_wire_text.specs.Hex.{chars_fit}
use Rattle.two_wire_text.proofs.is_message.Given as goal

abbrev pub invariant-loop-i : goal.invariant-loop-i
invariant-loop-i l = chars_fit 0 l.line ≡ chars_fit l.i (drop l.i l.line)
