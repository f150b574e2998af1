-- Each number within its limit.
use Rattle.settings_typed.proofs.wanted.Goals as goal

pub returns : goal.returns
returns c = simp (c.byte-3.ensures, c.byte-2.ensures, c.byte.ensures, c.short-2.ensures, c.short.ensures)
