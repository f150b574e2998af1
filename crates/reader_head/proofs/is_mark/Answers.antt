-- The window without its two newest nibbles is compared with F F F F 0 0 as one number.
use mathlib.Core.Path.{refl}
use Rattle.reader_head.specs.Head.{shows_mark}
use Rattle.reader_head.proofs.is_mark.Goals as goal

pub returns : goal.returns
unfolding shows_mark
returns c = refl
