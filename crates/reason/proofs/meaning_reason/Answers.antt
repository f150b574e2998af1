-- By the meaning of the code.
use mathlib.Core.Path.{sym, ap, ◌∙◌}
use Rattle.line_code.specs.declared.Meaning.{Meaning}
use Rattle.reason.specs.Explanation.{meaning_reason}
use Rattle.reason.proofs.meaning_reason.Goals as goal

pub returns-in-EndOfLine : goal.returns-in-EndOfLine
returns-in-EndOfLine c =
    let a = c.args in
    c.end_mark_reason.ensures ∙ sym (ap (λ (m : Meaning). meaning_reason a.profile a.before m a.text.now a.next) c.in-EndOfLine.is)

pub returns-in-Line : goal.returns-in-Line
returns-in-Line c =
    let a = c.args in
    c.line_reason.ensures ∙ sym (ap (λ (m : Meaning). meaning_reason a.profile a.before m a.text.now a.next) c.in-Line.is)
