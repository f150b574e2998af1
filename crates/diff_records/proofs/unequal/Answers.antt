-- 1 exactly where the bytes differ.
use borrow.Author.Rules.{rules}
use borrow.Author.Tests.{eq-eqb, ne_eqb}
use Rattle.diff_records.proofs.unequal.Goals as goal

pub returns-then-x-y : goal.returns-then-x-y
returns-then-x-y c = (simp (eq-eqb _ _ c.if-x-y.true), search rules)

pub returns : goal.returns
returns c = (simp (ne_eqb _ _ c.if-x-y.false), search rules)
