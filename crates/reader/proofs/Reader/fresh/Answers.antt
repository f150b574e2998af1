-- Nothing is kept, as its call promises; the rest is written as the definition has it.
use Rattle.reader.proofs.Reader.fresh.Goals as goal

pub returns : goal.returns
returns c = simp c.nothing-kept.ensures
