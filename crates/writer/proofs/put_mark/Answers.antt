-- FF FF and then 00 and the code, each pair put after the one before, are the four bytes of a mark.
use Rattle.writer.proofs.Putting.{put_then}
use Rattle.writer.proofs.put_mark.Goals as goal

pub returns : goal.returns
returns c = put_then c.put_two-next.ensures c.put_two.ensures
