-- The place is the byte's high nibble, its low one, or neither: it is then begun, completed, or left as it was.
use borrow.Author.Tests.{eq-eqb, ne_eqb}
use Rattle.mark_text.specs.MarkText.{byte_at}
use borrow.Author.Rules.{rules}
use Rattle.mark_text.proofs.byte_at.Goals as goal

pub returns-then-place-from : goal.returns-then-place-from
unfolding byte_at
returns-then-place-from c = simp (eq-eqb _ _ c.if-place-from.true)

pub returns-then-place-from-2 : goal.returns-then-place-from-2
unfolding byte_at
returns-then-place-from-2 c = simp (ne_eqb _ _ c.if-place-from.false, eq-eqb _ _ c.if-place-from-2.true, c.with_low.ensures)

pub returns : goal.returns
unfolding byte_at
returns c = simp (ne_eqb _ _ c.if-place-from.false, ne_eqb _ _ c.if-place-from-2.false)
