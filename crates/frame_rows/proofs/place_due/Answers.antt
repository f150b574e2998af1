-- While the judge waits the first place is due, else its own.
use borrow.Author.Rules.{rules}
use Rattle.frame_rows.proofs.place_due.Goals as goal

pub returns-in-Waiting : goal.returns-in-Waiting
returns-in-Waiting c = simp c.in-Waiting.is

pub returns-in-Due : goal.returns-in-Due
returns-in-Due c = simp c.in-Due.is
