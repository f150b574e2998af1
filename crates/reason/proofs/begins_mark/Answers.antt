-- Fewer than eight nibbles hold no mark, nor do more whose first is no F; and else they hold one where they start with F F F F 0 0.
use mathlib.Core.Path.{sym, ap, ◌∙◌}
use mathlib.Core.Bool.{true≢false}
use Rattle.reason.specs.Explanation.{is_code}
use Rattle.reason.specs.ExplanationLaws.{code_short}
use Rattle.reason.proofs.Steps.{begins_starts, begins_first}
use Rattle.reason.proofs.begins_mark.Goals as goal
use Rattle.reason.proofs.begins_mark.Goals.{then-run-lt-MARK-via-then-run-lt-MARK, then-run-lt-MARK-via-else-run-lt-MARK+then-run-ne15}

pub returns-then-run-lt-MARK : goal.returns-then-run-lt-MARK
returns-then-run-lt-MARK c = (
  elim c.then-run-lt-MARK.branch [
    | then-run-lt-MARK-via-then-run-lt-MARK w ↦ sym (ap is_code (code_short _ w.if-run-lt-MARK.true))
    | then-run-lt-MARK-via-else-run-lt-MARK+then-run-ne15 w ↦ sym (begins_first _ w.if-run-ne15.true)
  ],
  λ e. absurd (true≢false (sym e)),
)

pub returns : goal.returns
returns c = (c.starts_with.ensures.value ∙ sym (begins_starts _ c.if-run-lt-MARK.false), λ e. c.if-run-lt-MARK.false)
