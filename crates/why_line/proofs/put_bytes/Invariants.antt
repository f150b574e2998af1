-- Byte after byte: after i turns the first i bytes are put.
use Rattle.std.proofs.Common.{take}
use Rattle.text.specs.Pages.{Writes}
use Rattle.why_line.specs.ReasonText.{hexes}
use Rattle.why_line.proofs.put_bytes.Given as goal

abbrev pub invariant-loop-byte : goal.invariant-loop-byte
invariant-loop-byte l = Writes (hexes (take l.byte-index l.bytes)) l.initial.page l.page
