-- By the reading of the code: a meaning, or damaged with the sums that fail.
use mathlib.Core.Path.{sym, ap, ◌∙◌}
use Rattle.line_code.specs.declared.Reading.{Reading}
use Rattle.reason.specs.declared.Reason.TheVariants.{DamagedCode}
use Rattle.reason.specs.Explanation.{reading_reason, reason_of}
use Rattle.reason.proofs.mark_reason.Goals as goal

pub returns-in-Says : goal.returns-in-Says
unfolding reason_of
returns-in-Says c =
    let a = c.args in
    c.meaning_reason.ensures ∙ sym (ap (λ (d : Reading). reading_reason a.profile a.before d a.code a.text.now a.next) (sym c.read-reading.ensures ∙ c.in-Says.is))

pub returns-in-Damaged : goal.returns-in-Damaged
unfolding reason_of
returns-in-Damaged c =
    let a = c.args in
    ap (DamagedCode a.code) c.failed_sums-sums.ensures ∙ sym (ap (λ (d : Reading). reading_reason a.profile a.before d a.code a.text.now a.next) (sym c.read-reading.ensures ∙ c.in-Damaged.is))
