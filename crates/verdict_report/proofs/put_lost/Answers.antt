-- By the flag.
use Rattle.text.specs.PagesLaws.{nothing}
use borrow.Author.Rules.{rules}
use Rattle.verdict_report.proofs.put_lost.Goals as goal

pub returns-then-lost : goal.returns-then-lost
returns-then-lost c =
    simp c.if-lost.true c.put.ensures

pub returns-else-lost : goal.returns-else-lost
returns-else-lost c =
    simp c.if-lost.false (nothing _)
