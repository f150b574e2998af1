-- By which of the two numbers is the greater: a minus sign and how much it is, or how much alone.
use mathlib.Core.Path.{sym, subst}
use mathlib.Core.List.{List}
use Prim.Native.Nat.{ℕ, ◌*◌}
use Rattle.text.specs.Pages.{Writes}
use Rattle.text.specs.PagesLaws.{next}
use Rattle.half_means.specs.HalfMeans.{difference}
use Rattle.mean_rows.specs.MeanRowsLaws.{signed_less, signed_more}
use borrow.Author.Rules.{rules}
use Rattle.mean_rows.proofs.put_difference.Goals as goal

pub returns-then-scaled-sum : goal.returns-then-scaled-sum
unfolding difference
returns-then-scaled-sum c =
    let a = c.args in
    subst (λ (v : List ℕ). Writes v a.page.now c.put_decimal.new.self)
    (sym (signed_less (64 * a.byte) a.sum c.if-scaled-sum.true))
    (next c.put.ensures c.put_decimal.ensures)

pub returns : goal.returns
unfolding difference
returns c =
    let a = c.args in
    subst (λ (v : List ℕ). Writes v a.page.now c.put_decimal-2.new.self)
    (sym (signed_more (64 * a.byte) a.sum c.if-scaled-sum.false))
    c.put_decimal-2.ensures
