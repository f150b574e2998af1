-- The high digit, then the low one.
use Rattle.text.specs.PutLaws.{then}
use Rattle.text.proofs.put_hex.Goals as goal

pub returns : goal.returns
returns c =
    simp (← c.hex_digit.ensures, ← c.hex_digit-2.ensures) (then c.put_byte-next.ensures c.put_byte.ensures)
