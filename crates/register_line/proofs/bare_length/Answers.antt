-- At each turn the end is that of the characters read, unless one that counts is left.
use mathlib.Core.Path.{sym, ◌∙◌}
use borrow.Author.Tests.{eq-eqb, ne_eqb}
use lib.ListN.{drop_of_length-le}
use Rattle.register_line.specs.BareLaws.{reach_start, reach_comment, reach_step}
use Rattle.register_line.proofs.bare_length.Goals as goal

pub loop-i-init : goal.loop-i-init
loop-i-init c = reach_start _

pub returns-then-c-eq-COMMENT : goal.returns-then-c-eq-COMMENT
returns-then-c-eq-COMMENT c = sym (c.loop-i.invariant ∙ reach_comment _ _ c.loop-i-test.true _ (eq-eqb _ _ c.if-c-eq-COMMENT.true))

pub loop-i-preserved : goal.loop-i-preserved
loop-i-preserved c = c.loop-i.invariant ∙ reach_step _ _ c.loop-i-test.true _ (ne_eqb _ _ c.if-c-eq-COMMENT.false) ∙ simp c.end_after-end.ensures

pub returns : goal.returns
returns c = sym (c.loop-i.invariant ∙ rw (drop_of_length-le c.args.line.now c.loop-i-test.false))
