-- A count at its stop is held there; one that would pass it comes to it.
use native.Mathlib.Omega.{arith}
use mathlib.Core.Path.{sym}
use Rattle.run_ahead.proofs.Blocks.{later_held, later_below, later_stop}
use Rattle.run_ahead.proofs.later_count.Goals as goal

pub returns-then-count-ge-COUNT_STOP : goal.returns-then-count-ge-COUNT_STOP
returns-then-count-ge-COUNT_STOP c = sym (later_held c.args.pairs c.args.count c.if-count-ge-COUNT_STOP.true)

pub returns-then-count-pairs : goal.returns-then-count-pairs
returns-then-count-pairs c = sym (later_stop c.args.pairs c.args.count (omega (arith, c.if-count-ge-COUNT_STOP.false)) (omega (arith, c.if-count-pairs.true)))

pub returns : goal.returns
returns c = sym (later_below c.args.pairs c.args.count (omega (arith, c.if-count-pairs.false, c.if-count-ge-COUNT_STOP.false)))
