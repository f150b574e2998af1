-- A state that holds a reader is long enough to be read and to be stored in again.
use Rattle.std.proofs.Common.{sym, ◌∙◌}
use Rattle.exported_state.specs.StateLaws.{holds_length}
use Rattle.fluturenc.proofs.fluturenc_finish.Goals as goal

pub reader_in-r-requires : goal.reader_in-r-requires
reader_in-r-requires c = holds_length _ (sym c.holds_reader.ensures ∙ c.if-holds_reader.true)

pub store-requires : goal.store-requires
store-requires c = holds_length _ (sym c.holds_reader.ensures ∙ c.if-holds_reader.true)
