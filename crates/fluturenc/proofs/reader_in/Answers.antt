-- The head is read by its function, and the body is the 356 bytes after it.
use Rattle.exported_state.specs.StateLaws.{held_head_lem}
use Rattle.fluturenc.proofs.reader_in.Goals as goal

pub returns : goal.returns
returns c = simp (c.head_in-head.ensures, held_head_lem c.args.state.now c.requires, c.copy_from_slice.ensures.after)
