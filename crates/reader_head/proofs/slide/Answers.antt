-- The oldest nibble is cut off by the remainder and the new one put lowest, so the window stays below 2 ^ 32.
use mathlib.Core.Path.{refl}
use Rattle.reader_head.specs.Head.{slide}
use Rattle.reader_head.proofs.slide.Goals as goal

pub returns : goal.returns
unfolding slide
returns c = refl
