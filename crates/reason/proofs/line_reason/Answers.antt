-- 3 at finish; else 4 by the length, or by the number.
use mathlib.Core.Path.{sym, ap, ◌∙◌}
use Prim.Native.Nat.{ℕ, ◌+◌, ◌*◌}
use native.Mathlib.Omega.{arith}
use lib.ListN.{length}
use Rattle.profile.specs.LayoutLaws.{body_small}
use Rattle.reason.specs.declared.Reason.TheVariants.{WrongLength}
use Rattle.reason.specs.Explanation.{line_reason}
use Rattle.reason.proofs.Steps.{line_long, line_wrong}
use Rattle.reason.proofs.line_reason.Goals as goal

pub overflow_mul-wanted : goal.overflow_mul-wanted
overflow_mul-wanted c = omega (arith, c.body_length.ensures, body_small c.args.profile)

pub overflow_add-wanted : goal.overflow_add-wanted
overflow_add-wanted c = omega (arith, c.body_length.ensures, body_small c.args.profile)

pub returns-then-text-wanted : goal.returns-then-text-wanted
returns-then-text-wanted c =
    let a = c.args in
    c.number_reason.ensures ∙ sym (ap (line_reason a.profile a.kind a.text.now) c.in-Some.is ∙ line_long a.profile a.kind a.text.now _ (c.if-text-wanted.true ∙ ap (λ (n : ℕ). 2 * n + 6) c.body_length.ensures))

pub returns-in-None : goal.returns-in-None
unfolding line_reason
returns-in-None c =
    let a = c.args in
    sym (ap (line_reason a.profile a.kind a.text.now) c.in-None.is)

pub returns-else-text-wanted : goal.returns-else-text-wanted
returns-else-text-wanted c =
    let a = c.args in
    let e = ap (λ (n : ℕ). 2 * n + 6) c.body_length.ensures in
    sym (ap (line_reason a.profile a.kind a.text.now) c.in-Some.is ∙ line_wrong a.profile a.kind a.text.now _ (λ q. c.if-text-wanted.false (q ∙ sym e)) ∙ ap (WrongLength (length a.text.now)) (sym e))
