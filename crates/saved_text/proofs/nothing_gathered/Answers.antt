-- Eight unused places, and no numbers.
use Rattle.saved_text.proofs.nothing_gathered.Goals as goal

pub returns : goal.returns
returns c = simp c.no_fields.ensures
