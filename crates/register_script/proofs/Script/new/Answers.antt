-- Each part is as at the start, the sensor as it is made.
use borrow.Author.Rules.{rules}
use Rattle.register_script.proofs.Script.new.Goals as goal

pub returns : goal.returns
returns c = simp c.new.ensures
