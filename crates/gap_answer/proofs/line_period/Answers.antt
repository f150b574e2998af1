-- By what the mark before was: only a line that was handed out has a period.
use borrow.Author.Rules.{rules}
use Rattle.stream.specs.Answers.{period_of}
use Rattle.gap_answer.proofs.line_period.Goals as goal

pub returns-in-NoLine : goal.returns-in-NoLine
unfolding period_of
returns-in-NoLine c = λ next. simp c.in-NoLine.is

pub returns-in-RefusedLine : goal.returns-in-RefusedLine
unfolding period_of
returns-in-RefusedLine c = λ next. simp c.in-RefusedLine.is

pub returns-in-HandedOut : goal.returns-in-HandedOut
unfolding period_of
returns-in-HandedOut c = λ next. simp c.in-HandedOut.is c.handed_period.ensures
