-- What to do, and the line of the verdict.
use Rattle.text.specs.PagesLaws.{next}
use borrow.Author.Rules.{rules}
use Rattle.verdict_report.proofs.put_verdict.Goals as goal

pub returns-in-Good : goal.returns-in-Good
returns-in-Good c =
    next c.put_advice.ensures (simp c.in-Good.is c.put.ensures)

pub returns-in-CheckTheClip : goal.returns-in-CheckTheClip
returns-in-CheckTheClip c =
    next c.put_advice.ensures (simp c.in-CheckTheClip.is c.put-in-CheckTheClip.ensures)

pub returns-in-NotGood : goal.returns-in-NotGood
returns-in-NotGood c =
    next c.put_advice.ensures (simp c.in-NotGood.is c.put-in-NotGood.ensures)

pub returns-in-NoSignal : goal.returns-in-NoSignal
returns-in-NoSignal c =
    next c.put_advice.ensures (simp c.in-NoSignal.is c.put-in-NoSignal.ensures)
