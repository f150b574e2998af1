-- The length must leave 2 by 3; then each character is tried at its place.
use mathlib.Core.Path.{refl, sym, ◌∙◌}
use Prim.Native.Nat.{◌%◌}
use borrow.Author.Tests.{eq-eqb, ne_eqb}
use lib.ListN.{length, drop_of_length-le}
use Rattle.two_wire_text.specs.Hex.{is_message}
use Rattle.two_wire_text.specs.HexLaws.{chars_step}
use Rattle.two_wire_text.proofs.is_message.Goals as goal

pub loop-i-init : goal.loop-i-init
loop-i-init c = refl

pub loop-i-preserved : goal.loop-i-preserved
loop-i-preserved c = c.loop-i.invariant ∙ chars_step _ _ c.loop-i-test.true ∙ simp (← c.char_fits.ensures, c.if-not-char_fits.false)

pub returns-then-not-char_fits : goal.returns-then-not-char_fits
unfolding is_message
returns-then-not-char_fits c =
    simp (eq-eqb (length c.args.line.now % 3) 2 c.if-line-ne2.false) (sym (c.loop-i.invariant ∙ chars_step _ _ c.loop-i-test.true ∙ simp (← c.char_fits.ensures, c.if-not-char_fits.true)))

pub returns-then-line-ne2 : goal.returns-then-line-ne2
unfolding is_message
returns-then-line-ne2 c = simp (ne_eqb (length c.args.line.now % 3) 2 c.if-line-ne2.true)

pub returns : goal.returns
unfolding is_message
returns c = simp (eq-eqb (length c.args.line.now % 3) 2 c.if-line-ne2.false) (sym (c.loop-i.invariant ∙ rw (drop_of_length-le c.args.line.now c.loop-i-test.false)))
