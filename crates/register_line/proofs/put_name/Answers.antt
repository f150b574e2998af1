-- A line that ends before the place is put whole; of a longer one the front is.
use mathlib.Core.Path.{sym}
use native.Mathlib.Omega.{arith}
use lib.Seq.{take_all, length-take-le}
use Rattle.register_line.proofs.put_name.Goals as goal

pub returns-then-line-end : goal.returns-then-line-end
returns-then-line-end c =
    let args = c.args in
    simp (take_all args.end args.line.now c.if-line-end.true) c.put.ensures

pub slice_bounds-put-end : goal.slice_bounds-put-end
slice_bounds-put-end c = sym (length-take-le c.before.before.before.before.args.end c.before.before.before.before.args.line.now (omega (arith, c.if-line-end.false)))
