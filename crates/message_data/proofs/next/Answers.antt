-- With increment it is one more, which cannot overflow up to 127; without it the index stays.
use Rattle.message_data.specs.Registers.{next}
use Rattle.message_data.proofs.next.Goals as goal

pub returns-then-increment : goal.returns-then-increment
unfolding next
returns-then-increment c = simp c.if-increment.true

pub returns : goal.returns
unfolding next
returns c = simp c.if-increment.false
