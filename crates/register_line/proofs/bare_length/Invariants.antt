-- At each turn the end is that of the characters read, unless one that counts is left.
use mathlib.Core.Path.{◌≡◌}
use lib.ListN.{drop}
use Rattle.register_line.specs.Bare.{bare_length}
use Rattle.register_line.specs.BareLaws.{reach}
use Rattle.register_line.proofs.bare_length.Given as goal

abbrev pub invariant-loop-i : goal.invariant-loop-i
invariant-loop-i l = bare_length l.line ≡ reach l.i l.end (bare_length (drop l.i l.line))
