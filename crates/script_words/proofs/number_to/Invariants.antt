-- The number stays below ten times the greatest one that a digit may follow.
use Rattle.std.proofs.Common.{◌+◌, ◌*◌, ◌≤◌}
use Rattle.script_words.proofs.number_to.Given as goal

abbrev pub invariant-loop-sign : goal.invariant-loop-sign
invariant-loop-sign l = l.n ≤ 10 * l.most + 9
