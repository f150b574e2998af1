-- In profile 0 each byte after the code must be F F; in profile 1 the two bytes are the gap's own, and nothing is noted.
use Rattle.run_ahead.proofs.stray_kept.Goals as goal

pub returns-in-VV5404 : goal.returns-in-VV5404
returns-in-VV5404 c = simp (c.in-VV5404.is, c.stray_after.ensures)
