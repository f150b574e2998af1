-- The arguments below i have been read; each turn reads one more.
use Rattle.std.proofs.Common.{◌-◌, ◌≤◌}
use Rattle.command.specs.ArgumentsLaws.{ReadBelow}
use Rattle.command.proofs.words_below.Given as goal

abbrev pub invariant-loop-i : goal.invariant-loop-i
invariant-loop-i l = ReadBelow l.usage l.i l.asked × (l.i - 1 ≤ l.count - 1)
