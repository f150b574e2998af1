-- The tests of the definition, in its order.
use Rattle.std.proofs.Common.{◌≡◌, length, arith}
use borrow.Author.Tests.{eq-eqb, ne_eqb}
use Rattle.saved_setting.specs.SavedSettings.{found_in}
use Rattle.saved_places.proofs.find_in.Goals as goal

pub returns-then-version-eq0 : goal.returns-then-version-eq0
unfolding found_in
returns-then-version-eq0 c =
    let l : length c.args.places ≡ 8 = omega arith in
    simp (l, ← c.in_order.ensures, c.if-in_order.true, eq-eqb _ _ c.if-version-eq0.true)

pub returns-then-in_order : goal.returns-then-in_order
unfolding found_in
returns-then-in_order c =
    let l : length c.args.places ≡ 8 = omega arith in
    simp (l, ← c.in_order.ensures, c.if-in_order.true, ne_eqb _ _ c.if-version-eq0.false, c.look_up.ensures)

pub returns : goal.returns
unfolding found_in
returns c =
    let l : length c.args.places ≡ 8 = omega arith in
    simp (l, ← c.in_order.ensures, c.if-in_order.false)
