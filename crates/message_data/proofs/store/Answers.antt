-- Data that passes 127 leaves the registers as they stand; any other may be stored whole.
use mathlib.Core.Path.{sym, ◌∙◌}
use Rattle.message_data.specs.Registers.{stored_whole}
use Rattle.message_data.proofs.store.Goals as goal

pub returns-then-runs_past : goal.returns-then-runs_past
unfolding stored_whole
returns-then-runs_past c = (simp (← c.runs_past.ensures, c.if-runs_past.true), simp (← c.runs_past.ensures, c.if-runs_past.true))

pub put_all-requires : goal.put_all-requires
put_all-requires c = sym c.runs_past.ensures ∙ c.if-runs_past.false

pub returns : goal.returns
unfolding stored_whole
returns c = (simp (← c.runs_past.ensures, c.if-runs_past.false), simp (← c.runs_past.ensures, c.if-runs_past.false) c.put_all.ensures)
