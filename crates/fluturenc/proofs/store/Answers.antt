-- The head is put at the front, and the 356 bytes of the body straight after it: what is behind them stays.
use Rattle.fluturenc.proofs.Storing.{reader_stored}
use Rattle.fluturenc.proofs.store.Goals as goal

pub returns : goal.returns
returns c = reader_stored c.args.r c.args.state.now c.store_head.new.state c.copy_from_slice.new.self c.requires c.store_head.ensures c.copy_from_slice.ensures.after
