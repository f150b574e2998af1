-- Without a mark nothing is answered; an open one is judged by its code's reading: damaged, or by its meaning with no mark to come.
use mathlib.Core.List.{[]}
use mathlib.Core.Option.{none}
use Rattle.mark_answer.proofs.ByReading.{by_reading_lem}
use Rattle.mark_answer.specs.KeptAnswer.{kept_answer}
use borrow.Author.Rules.{rules}
use Rattle.mark_answer.proofs.at_finish.Goals as goal

pub returns-in-NoMark : goal.returns-in-NoMark
unfolding kept_answer
returns-in-NoMark c = simp c.in-NoMark.is

pub returns-in-Says : goal.returns-in-Says
returns-in-Says c =
    let a = c.args in
    simp (by_reading_lem a.profile a.length a.kept [] none c.in-Open.is c.read-reading.ensures, c.in-Says.is, c.last_answer.ensures c.in-Says.field-1)

pub returns-in-Damaged : goal.returns-in-Damaged
returns-in-Damaged c =
    let a = c.args in
    simp (by_reading_lem a.profile a.length a.kept [] none c.in-Open.is c.read-reading.ensures, c.in-Damaged.is)
