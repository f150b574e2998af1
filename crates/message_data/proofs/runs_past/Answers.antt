-- From past 127 on the first byte passes; else with increment data with more bytes than there are registers from the index on, and without none.
use mathlib.Core.Path.{sym}
use Rattle.message_data.specs.RegisterLaws.{runs_past_beyond, runs_past_counts, runs_past_still}
use borrow.Author.Rules.{rules}
use Rattle.message_data.proofs.runs_past.Goals as goal

pub returns-then-index-gt-LAST_INDEX : goal.returns-then-index-gt-LAST_INDEX
returns-then-index-gt-LAST_INDEX c = let a = c.args in
    sym (runs_past_beyond a.increment a.index a.bytes.now c.if-index-gt-LAST_INDEX.true)

pub returns-then-increment : goal.returns-then-increment
returns-then-increment c = let a = c.args in
    simp c.if-increment.true (sym (runs_past_counts a.index a.bytes.now (search rules)))

pub returns-else-increment : goal.returns-else-increment
returns-else-increment c = let a = c.args in
    simp c.if-increment.false (sym (runs_past_still a.index a.bytes.now c.if-index-gt-LAST_INDEX.false))
