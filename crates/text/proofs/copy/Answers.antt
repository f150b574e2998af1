-- Byte after byte: after i turns the first i bytes of the text are put.
use mathlib.Core.Path.{◌≡◌, sym, subst, ◌∙◌}
use mathlib.Core.List.{List}
use Prim.Native.Nat.{ℕ, ◌+◌, ◌<◌}
use native.Mathlib.Omega.{arith}
use lib.ListN.{length, take}
use Rattle.text.specs.Put.{Puts}
use Rattle.text.specs.PutLaws.{puts_length, puts_none, puts_more, puts_one}
use Rattle.text.proofs.copy.Goals as goal

moved : {d d₁ t : List ℕ} {at r r₁ : ℕ} → r ≡ r₁ → Puts d at t r d₁ → Puts d at t r₁ d₁
moved e p = record { place = sym e ∙ p.place; stored = p.stored }

pub loop-i-init : goal.loop-i-init
loop-i-init c =
    let z : c.args.at ≡ c.args.at + 0 = omega arith in
    moved z (puts_none _ _)

pub overflow_add-out : goal.overflow_add-out
overflow_add-out c = omega (arith, c.loop-i-test.true, c.requires.1, puts_length c.loop-i.invariant, c.well_formed)

pub bounds-out-at : goal.bounds-out-at
bounds-out-at c = omega (arith, c.loop-i-test.true, c.requires.1, puts_length c.loop-i.invariant)

pub loop-i-preserved : goal.loop-i-preserved
loop-i-preserved c =
    let l = c.loop-i in
    let a = c.args in
    let h : l.i < length a.text.now = omega (arith, c.loop-i-test.true, c.requires.0) in
    let e : a.at + l.i + 1 ≡ a.at + (l.i + 1) = omega arith in
    moved e (puts_more _ _ h l.invariant (puts_one _ _ _ (omega (arith, c.loop-i-test.true, c.requires.1, puts_length l.invariant))))

pub shape_of-out : goal.shape_of-out
shape_of-out c = puts_length c.loop-i.invariant

pub returns : goal.returns
returns c =
    let a = c.args in
    let l = c.loop-i in
    let e : l.i ≡ a.n = omega arith in
    subst (λ (i : ℕ). Puts a.out.now a.at (take i a.text.now) (a.at + i) l.out) e l.invariant
