-- A byte beyond the buffer's end is left out, and the place stays.
use Rattle.text.specs.PutLaws.{puts_one, puts_out}
use Rattle.text.proofs.put_byte.Goals as goal

pub returns-then-at-out : goal.returns-then-at-out
returns-then-at-out c = puts_one _ _ _ c.if-at-out.true

pub returns : goal.returns
returns c = puts_out _ _ _ c.if-at-out.false
