-- Two digits, each at most 16, joined and cut to a byte: nothing overflows sixteen bits.
use Rattle.two_wire_text.specs.Hex.{byte_of}
use Rattle.two_wire_text.proofs.byte_of.Goals as goal

pub returns : goal.returns
unfolding byte_of
returns c = simp (c.digit-high.ensures, c.digit-low.ensures)
