-- By the verdict; none for a good capture.
use Rattle.text.specs.PagesLaws.{nothing}
use borrow.Author.Rules.{rules}
use Rattle.verdict_report.proofs.put_advice.Goals as goal

pub returns-in-Good : goal.returns-in-Good
returns-in-Good c = simp c.in-Good.is (nothing _)

pub returns-in-CheckTheClip : goal.returns-in-CheckTheClip
returns-in-CheckTheClip c = simp c.in-CheckTheClip.is c.put.ensures

pub returns-in-NotGood : goal.returns-in-NotGood
returns-in-NotGood c = simp c.in-NotGood.is c.put_no_frame.ensures

pub returns-in-NoSignal : goal.returns-in-NoSignal
returns-in-NoSignal c = simp c.in-NoSignal.is c.put-in-NoSignal.ensures
