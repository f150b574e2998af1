-- Nothing is no answer, and then the place decides; anything else is one.
use Rattle.capture_bytes.proofs.goes_on.Goals as goal

pub returns-in-Nothing : goal.returns-in-Nothing
returns-in-Nothing c = simp c.in-Nothing.is
