-- A byte put straight after another is the same as both put at once.
use Rattle.writer.proofs.Putting.{put_then}
use Rattle.writer.proofs.put_two.Goals as goal

pub returns : goal.returns
returns c = put_then c.put_byte-next.ensures c.put_byte.ensures
