-- The number is that of the two bytes after the kind.
use native.Mathlib.Omega.{arith}
use Rattle.line_records.specs.Lines.{front_line}
use Rattle.line_records.proofs.number.Goals as goal

pub returns : goal.returns
unfolding front_line
returns c = (omega arith, omega arith)
