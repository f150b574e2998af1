-- What is read on from here is the whole text's number.
use Rattle.std.proofs.Common.{◌≡◌, drop}
use Rattle.command_word.specs.Word.{mark_onto}
use Rattle.command_word.proofs.mark_in.Given as goal

abbrev pub invariant-loop-c : goal.invariant-loop-c
invariant-loop-c l = mark_onto 0 l.text ≡ mark_onto l.mark (drop l.c-index l.text)
