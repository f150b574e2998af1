-- Every third character is a space; any other must be a digit, which the call for digits tells.
use Prim.Native.Nat.{◌%◌}
use borrow.Author.Tests.{eq-eqb, ne_eqb}
use Rattle.two_wire_text.specs.Hex.{char_fits}
use Rattle.two_wire_text.proofs.char_fits.Goals as goal

pub returns-then-place-eq2 : goal.returns-then-place-eq2
unfolding char_fits
returns-then-place-eq2 c = simp (eq-eqb (c.args.place % 3) 2 c.if-place-eq2.true)

pub returns : goal.returns
unfolding char_fits
returns c = simp (ne_eqb (c.args.place % 3) 2 c.if-place-eq2.false, c.digit.ensures)
