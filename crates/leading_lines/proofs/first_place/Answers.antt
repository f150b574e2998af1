-- Past the EOF line's place, due at its own, or not; a place up to the EOF line's has one after it.
use mathlib.Core.Path.{◌≡◌, refl, sym, ap, ◌∙◌}
use mathlib.Core.Bool.{Bool, true, false, cond}
use Prim.Native.Nat.{ℕ, ◌+◌}
use native.Mathlib.Omega.{arith}
use lib.Dec.{ltb}
use borrow.Author.Tests.{lt-ltb, le-ltb}
use Rattle.profile.specs.declared.Profile.{Profile}
use Rattle.frame_layout.specs.declared.Borders.{Borders}
use Rattle.frame_layout.specs.FrameLayout.{end_place, due_at}
use Rattle.frame_layout.specs.PlaceLaws.{last_small, end_within}
use Rattle.leading_lines.specs.LeadingLines.{first_place}
use borrow.Author.Rules.{rules}
use Rattle.leading_lines.proofs.first_place.Goals as goal

by_tests_lem : (p : Profile) (b : Borders) (k n : ℕ) (past due : Bool) → ltb (end_place p b) n ≡ past → due_at p b n k n ≡ due
    → first_place p b k n ≡ cond past 0 (cond due (n + 1) 0)
unfolding first_place
by_tests_lem p b k n past due e d =
    ap (λ (x : Bool). cond x 0 (cond (due_at p b n k n) (n + 1) 0)) e ∙ ap (λ (x : Bool). cond past 0 (cond x (n + 1) 0)) d

pub returns-then-end_place-number : goal.returns-then-end_place-number
unfolding first_place
returns-then-end_place-number c = simp (← c.end_place.ensures, lt-ltb _ _ c.if-end_place-number.true)

pub overflow_add-result : goal.overflow_add-result
overflow_add-result c = omega (arith, c.if-end_place-number.false, c.end_place.ensures, end_within c.args.profile c.args.borders, last_small c.args.profile)

pub returns-then-due_at : goal.returns-then-due_at
returns-then-due_at c =
    let given = c.args in
    let within = c.if-end_place-number.false in
    let end = c.end_place.ensures in
    sym (by_tests_lem given.profile given.borders given.kind given.number false true (le-ltb (end_place given.profile given.borders) given.number (omega (arith, within, end))) (sym c.due_at.ensures ∙ c.if-due_at.true))

pub returns : goal.returns
returns c =
    let given = c.args in
    let within = c.if-end_place-number.false in
    let end = c.end_place.ensures in
    sym (by_tests_lem given.profile given.borders given.kind given.number false false (le-ltb (end_place given.profile given.borders) given.number (omega (arith, within, end))) (sym c.due_at.ensures ∙ c.if-due_at.false))
