-- The answer is the refusal, and the places are the ones given.
use mathlib.Core.Path.{refl}
use Rattle.saved_places.proofs.refused.Goals as goal

pub returns : goal.returns
returns c = (refl, refl)
