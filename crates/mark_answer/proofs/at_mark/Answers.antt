-- Without a mark nothing is answered; an open one is judged by its code's reading, and so is what it is to the next one.
use mathlib.Core.Path.{◌∙◌, ap, sym}
use mathlib.Core.Option.{some}
use Rattle.stream.specs.Answers.{answer_for}
use Rattle.mark_answer.proofs.ByReading.{by_reading_lem, left_by_lem}
use Rattle.mark_answer.specs.KeptAnswer.{kept_answer}
use borrow.Author.Rules.{rules}
use Rattle.mark_answer.proofs.at_mark.Goals as goal

pub returns-in-NoMark : goal.returns-in-NoMark
unfolding kept_answer
returns-in-NoMark c = record { says = simp c.in-NoMark.is; leaves = simp c.in-NoMark.is }

pub returns-in-Open : goal.returns-in-Open
returns-in-Open c =
    let a = c.args in
    let o = kept_answer a.profile a.mark a.length a.kept a.body.now (some a.next) in
    let read = by_reading_lem a.profile a.length a.kept a.body.now (some a.next) c.in-Open.is c.read-reading.ensures in
    let says = c.reading_answer-answer.ensures ∙ ap answer_for (sym read) in
    record {
      says = says;
      leaves = c.of-before.ensures ∙ left_by_lem o c.in-Open.is c.read-reading.ensures c.kind-kind.ensures says c.is_line-handed.ensures;
    }
