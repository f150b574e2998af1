-- The numbers from a part on rise from the least that may come there.
use Rattle.std.proofs.Common.{ap, ◌∙◌, arith, add-one, rules}
use Rattle.std.proofs.lemmas.Bool.{lt-leb, le-leb}
use Rattle.line_records.specs.Lines.{rises_from}
use Rattle.line_records.proofs.LinesLaws.{heads_none}
use Rattle.line_records.proofs.PartsLaws.{part_is_line, part_is_none}
use Rattle.line_records.proofs.some_falls.Goals as goal

pub returns-then-line-lt-HEAD : goal.returns-then-line-lt-HEAD
returns-then-line-lt-HEAD c =
    let l = c.loop-line in
    let s = c.in-Some.ensures.steps.1 in
    l.invariant.4 ∙ ap (rises_from l.least) (part_is_none _ _ _ _ l.invariant.2 s.0 s.1 c.if-line-lt-HEAD.true)

pub returns-then-n-least : goal.returns-then-n-least
returns-then-n-least c =
    let l = c.loop-line in
    let s = c.in-Some.ensures.steps.1 in
    l.invariant.4
    ∙ ap (rises_from l.least) (part_is_line _ _ _ _ l.invariant.2 s.0 s.1 c.if-line-lt-HEAD.false)
    ∙ simp (← c.number-n.ensures.0, lt-leb _ _ c.if-n-least.true)

pub loop-line-preserved : goal.loop-line-preserved
loop-line-preserved c =
    let l = c.loop-line in
    let s = c.in-Some.ensures.steps in
    let step = part_is_line _ _ _ _ l.invariant.2 s.1.0 s.1.1 c.if-line-lt-HEAD.false in (
      omega (arith, s.0, l.invariant.0),
      tt,
      s.0 ∙ l.invariant.2,
      search rules,
      l.invariant.4 ∙ ap (rises_from l.least) step ∙ simp (← c.number-n.ensures.0, le-leb _ _ c.if-n-least.false, add-one),
    )

pub returns : goal.returns
returns c =
    let l = c.loop-line in
    l.invariant.4 ∙ ap (rises_from l.least) (heads_none _ (omega (arith, c.in-None.ensures.steps.1.0)))
