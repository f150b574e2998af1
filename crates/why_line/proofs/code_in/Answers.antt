-- The byte itself, or a half of it and a half of the next.
use Rattle.why_line.specs.ReasonText.{code_in}
use native.Mathlib.Omega.{arith}
use Rattle.why_line.proofs.code_in.Goals as goal

pub returns-then-low : goal.returns-then-low
unfolding code_in
returns-then-low c = simp (c.if-low.true, ← c.byte_in.ensures, ← c.byte_in-then-low.ensures) (omega arith)

pub returns : goal.returns
unfolding code_in
returns c = simp c.if-low.false c.byte_in-2.ensures
