-- From the last digit on: those left to put, and those behind the place, are the number's.
use mathlib.Core.Path.{sym, ap, ◌∙◌}
use mathlib.Core.List.{List, ◌++◌, append-nil}
use Prim.Native.Nat.{ℕ, ◌-◌}
use native.Mathlib.Omega.{arith}
use lib.ListN.{length-set, drop_of_length-le}
use Rattle.text.specs.Text.{digits, decimal}
use Rattle.text.specs.TextLaws.{more_places, digit_put, last_put}
use Rattle.text.proofs.fill_digits.Goals as goal

pub loop-left-init : goal.loop-left-init
unfolding decimal
loop-left-init c =
    let a = c.args in
    let none = drop_of_length-le a.places.now {i = 20} (omega (arith, c.requires)) in
    (omega arith, omega arith, c.requires, ap (λ (r : List ℕ). digits 20 a.n ++ r) none ∙ append-nil (digits 20 a.n))

pub loop-left-preserved : goal.loop-left-preserved
loop-left-preserved c =
    let l = c.loop-left in
    let m = sym c.is_more.ensures ∙ c.loop-left-test.true in (
      omega (arith, more_places l.left l.rest m),
      omega (arith, l.invariant.1),
      length-set {A = ℕ} l.places (l.left - 1) c.last_digit.result ∙ l.invariant.2,
      rw c.last_digit.ensures (digit_put l.left l.rest l.places _ m (omega (arith, l.invariant.1, l.invariant.2)) l.invariant.3),
    )

pub shape_of-places : goal.shape_of-places
shape_of-places c =
    length-set {A = ℕ} c.loop-left.places (c.loop-left.left - 1) c.last_digit-2.result ∙ c.loop-left.invariant.2 ∙ sym c.requires

pub returns : goal.returns
returns c =
    let l = c.loop-left in
    let m = sym c.is_more.ensures ∙ c.loop-left-test.false in (
      omega (arith, l.invariant.1, l.invariant.0),
      rw c.last_digit-2.ensures (last_put l.left l.rest l.places _ m l.invariant.0 (omega (arith, l.invariant.1, l.invariant.2)) l.invariant.3),
    )
