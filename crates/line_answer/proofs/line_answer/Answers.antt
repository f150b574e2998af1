-- 4 by the length; then decoding gives a number exactly where both bytes are good, else 5, and with a number the body decides.
-- what decoding says of the two bytes
use Rattle.std.specs.Prelude.{None, Some}
use Rattle.line_number.specs.LineNumber.{number_good, number_from, decode_of}
use mathlib.Core.Path.{◌≡◌, refl, sym, ◌∙◌}
use mathlib.Core.Bool.{Bool, true, false, ◌&&◌, cond}
use Prim.Native.Nat.{ℕ}
use native.Mathlib.Omega.{arith}
use borrow.Author.Tests.{eq-eqb, ne_eqb}
use Rattle.profile.specs.LayoutLaws.{body_small}
use Rattle.stream.specs.Answers.{require}
use borrow.Author.Rules.{rules}
use Rattle.line_answer.proofs.line_answer.Goals as goal

known : (a b n : ℕ) → decode_of a b ≡ Some n → ((number_good a && number_good b) ≡ true) × (number_from a b ≡ n)
known a b n h = by (number_good a && number_good b) h
  where
    by : (t : Bool) → cond t (Some (number_from a b)) None ≡ Some n → (t ≡ true) × (number_from a b ≡ n)
    by true h = (refl, cc)
    by false h = (cc, cc)

unknown : (a b : ℕ) → decode_of a b ≡ None → (number_good a && number_good b) ≡ false
unknown a b h = by (number_good a && number_good b) h
  where
    by : (t : Bool) → cond t (Some (number_from a b)) None ≡ None → t ≡ false
    by true h = cc
    by false h = refl

pub overflow_mul-wanted : goal.overflow_mul-wanted
overflow_mul-wanted c = omega (arith, c.body_length.ensures, body_small c.args.profile)

pub overflow_add-wanted : goal.overflow_add-wanted
overflow_add-wanted c = omega (arith, c.body_length.ensures, body_small c.args.profile)

pub returns-in-Some : goal.returns-in-Some
unfolding require
returns-in-Some c =
    let t = c.args.kept in
    let k = known t.first t.second _ (sym c.decode-d.ensures ∙ c.in-Some.is) in
    simp (← c.body_length.ensures, eq-eqb _ _ c.if-length-wanted.true, k.0, k.1, c.body_answer.ensures)

pub returns-in-None : goal.returns-in-None
unfolding require
returns-in-None c =
    let t = c.args.kept in
    let k = unknown t.first t.second (sym c.decode-d.ensures ∙ c.in-None.is) in
    simp (← c.body_length.ensures, eq-eqb _ _ c.if-length-wanted.true, k)

pub returns : goal.returns
unfolding require
returns c = simp (← c.body_length.ensures, ne_eqb _ _ c.if-length-wanted.false)
