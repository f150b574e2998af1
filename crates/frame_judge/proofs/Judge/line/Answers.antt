-- The tests come in the paper's order: 11, 13, a broken line, 14; where one refuses the judge is handed back as it was.
use borrow.Author.Tests.{eq-eqb, ne_eqb, le-leb, lt-leb}
use Rattle.frame_judge.specs.Frame.{judge_of}
use Rattle.frame_judge.specs.RulingLaws.{gives_judged}
use borrow.Author.Rules.{rules}
use Rattle.frame_judge.proofs.Judge.line.Goals as goal

pub returns-then-kind-number : goal.returns-then-kind-number
unfolding judge_of
returns-then-kind-number c =
    gives_judged _ _
    (simp (
      ← c.passes.ensures,
      c.if-passes.true,
      ← c.number.ensures,
      lt-leb _ _ c.if-kind-number.true,
      c.refused.ensures,
    ))

pub returns-then-kind-eq-BROKEN : goal.returns-then-kind-eq-BROKEN
unfolding judge_of
returns-then-kind-eq-BROKEN c =
    gives_judged _ _
    (simp (
      ← c.passes.ensures,
      c.if-passes.true,
      ← c.number.ensures,
      le-leb _ _ c.if-kind-number.false,
      eq-eqb _ _ c.if-kind-eq-BROKEN.true,
      c.broken.ensures,
    ))

pub returns-then-number-gt-GREATEST : goal.returns-then-number-gt-GREATEST
unfolding judge_of
returns-then-number-gt-GREATEST c =
    gives_judged _ _
    (simp (
      ← c.passes.ensures,
      c.if-passes.true,
      ← c.number.ensures,
      le-leb _ _ c.if-kind-number.false,
      ne_eqb _ _ c.if-kind-eq-BROKEN.false,
      lt-leb _ _ c.if-number-gt-GREATEST.true,
      c.refused-then-number-gt-GREATEST.ensures,
    ))

pub returns-then-passes : goal.returns-then-passes
unfolding judge_of
returns-then-passes c =
    gives_judged _ _
    (simp (
      ← c.passes.ensures,
      c.if-passes.true,
      ← c.number.ensures,
      le-leb _ _ c.if-kind-number.false,
      ne_eqb _ _ c.if-kind-eq-BROKEN.false,
      le-leb _ _ c.if-number-gt-GREATEST.false,
      c.whole.ensures,
    ))

pub returns : goal.returns
unfolding judge_of
returns c = gives_judged _ _ (simp (← c.passes.ensures, c.if-passes.false, c.refused-2.ensures))
