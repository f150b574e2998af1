-- Five bytes for kinds that differ, seven for each place.
use native.Mathlib.Omega.{arith}
use Rattle.line_records.specs.Lines.{front_line}
use Rattle.diff_records.proofs.DifferenceLaws.{between_size}
use Rattle.diff_records.proofs.between_size.Goals as goal

pub returns : goal.returns
unfolding front_line
returns c =
    let args = c.args in
    omega (arith, between_size (front_line args.a.now) (front_line args.b.now))
