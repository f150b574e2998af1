-- Eight free places.
use Rattle.reader_table.proofs.ReaderTable.empty.Goals as goal

pub returns : goal.returns
returns c = simp c.free-place.ensures
