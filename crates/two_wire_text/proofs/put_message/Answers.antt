-- The message's three bytes in hex, with spaces between them and a newline, one after another.
use Rattle.text.specs.PagesLaws.{next}
use Rattle.two_wire_text.proofs.put_message.Goals as goal

pub returns : goal.returns
returns c =
    next c.put_hex.ensures
    (next c.put.ensures
    (next c.put_hex-2.ensures (next c.put-2.ensures (next c.put_hex-3.ensures c.put-3.ensures))))
