-- What fits has the body's length, so a shorter buffer is refused with 6; else 6, 7 or the line, by the calls in the paper's order.
-- a body that is too short doesn't fit
use mathlib.Core.Path.{◌≡◌, refl, sym, ◌∙◌}
use mathlib.Core.Bool.{Bool, true, false}
use mathlib.Core.List.{List}
use Prim.Native.Nat.{ℕ, ◌<◌}
use native.Mathlib.Omega.{arith}
use lib.ListN.{length, take, length-take}
use lib.Seq.{length-take-le}
use Rattle.line_code.specs.declared.Kind.{Kind}
use Rattle.profile.specs.declared.Profile.{Profile}
use Rattle.profile.specs.Profile.{body_length}
use Rattle.profile.specs.Layout.{rules, fits}
use Rattle.profile.specs.LayoutLaws.{rules_length, fits_length}
use Rattle.stream.specs.Answers.{require}
use borrow.Author.Rules.{rules as found}
use Rattle.line_answer.proofs.body_answer.Goals as goal

short : (p : Profile) (k : Kind) (body : List ℕ) → length body < body_length p → fits (rules p k) (take (body_length p) body) ≡ false
short p k body h = go (fits (rules p k) (take (body_length p) body)) refl
  where
    go : (t : Bool) → fits (rules p k) (take (body_length p) body) ≡ t → t ≡ false
    go false e = refl
    go true e = absurd (omega (arith, fits_length (rules p k) _ e ∙ rules_length p k, length-take (body_length p) body, h))

pub returns-then-body-n : goal.returns-then-body-n
unfolding require
returns-then-body-n c =
    let a = c.args in
    simp (short a.profile a.kind a.body.now (omega (arith, c.if-body-n.true, c.body_length-n.ensures)))

pub returns-then-is_end : goal.returns-then-is_end
unfolding require
returns-then-is_end c =
    let body_length_lem = c.body_length-n in
    simp (← body_length_lem.ensures, ← c.body_fits.ensures, c.if-body_fits.true, ← c.read-reading.ensures, ← c.is_end.ensures, c.if-is_end.true, ← c.repair-end.ensures)

pub returns-then-body_fits : goal.returns-then-body_fits
unfolding require
returns-then-body_fits c =
    let body_length_lem = c.body_length-n in
    simp (← body_length_lem.ensures, ← c.body_fits.ensures, c.if-body_fits.true, ← c.read-reading.ensures, ← c.is_end.ensures, c.if-is_end.false)

pub returns : goal.returns
unfolding require
returns c = simp (← c.body_length-n.ensures, ← c.body_fits.ensures, c.if-body_fits.false)
