-- From place 6 on a nibble begins or completes its body byte; past the longest body or the buffer's end putting it changes nothing.
-- what is put past a list's end changes nothing
use lib.Seq.{set_out}
use borrow.Author.Tests.{lt-ltb, le-ltb, le-leb, lt-leb, eq-eqb, ne_eqb}
use Prim.Native.Nat.{ℕ, ◌-◌, ◌/◌, ◌%◌}
use mathlib.Core.Path.{◌≡◌, sym}
use mathlib.Core.Bool.{Bool, true, false, cond}
use mathlib.Core.List.{List}
use lib.Dec.{eqb}
use Rattle.mark_text.specs.MarkText.{body_at, body_place}
use borrow.Author.Rules.{rules}
use Rattle.mark_text.proofs.store.Goals as goal

either_out : (t : Bool) (b x y : List ℕ) → x ≡ b → y ≡ b → b ≡ cond t x y
either_out true b x y e f = sym e
either_out false b x y e f = sym f

pub returns-then-place-lt-BODY_PLACE : goal.returns-then-place-lt-BODY_PLACE
unfolding body_at
returns-then-place-lt-BODY_PLACE c = simp (lt-leb _ _ c.if-place-lt-BODY_PLACE.true)

pub returns-then-i-ge-LONGEST : goal.returns-then-i-ge-LONGEST
unfolding body_at
returns-then-i-ge-LONGEST c = simp (le-leb _ _ c.if-place-lt-BODY_PLACE.false, le-ltb _ _ c.if-i-ge-LONGEST.true)

pub returns-then-body-i : goal.returns-then-body-i
unfolding body_at
returns-then-body-i c =
    let a = c.args in
    let i : ℕ = (a.place - body_place) / 2 in
    let b : List ℕ = a.body.now in
    let out = c.if-body-i.true in
    simp (le-leb _ _ c.if-place-lt-BODY_PLACE.false, lt-ltb _ _ c.if-i-ge-LONGEST.false)
    (either_out (eqb (a.place % 2) 0) b _ _ (set_out b i _ out) (set_out b i _ out))

pub returns-then-place-eq0 : goal.returns-then-place-eq0
unfolding body_at
returns-then-place-eq0 c = simp (le-leb _ _ c.if-place-lt-BODY_PLACE.false, lt-ltb _ _ c.if-i-ge-LONGEST.false, eq-eqb _ _ c.if-place-eq0.true, c.low_four-nibble.ensures.0)

pub returns-else-place-eq0 : goal.returns-else-place-eq0
unfolding body_at
returns-else-place-eq0 c = simp (le-leb _ _ c.if-place-lt-BODY_PLACE.false, lt-ltb _ _ c.if-i-ge-LONGEST.false, ne_eqb _ _ c.if-place-eq0.false, c.with_low.ensures, c.low_four-nibble.ensures.0)
