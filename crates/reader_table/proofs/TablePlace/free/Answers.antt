-- The reader of a free place is a fresh one.
use Rattle.reader_table.proofs.TablePlace.free.Goals as goal

pub returns : goal.returns
returns c = simp c.fresh-reader.ensures
