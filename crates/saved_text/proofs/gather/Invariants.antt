-- At each turn what is gathered is that of the characters so far.
use mathlib.Core.Path.{◌≡◌}
use lib.ListN.{drop}
use Rattle.saved_text.specs.SettingsText.{nothing_gathered, gathered_over}
use Rattle.saved_text.proofs.gather.Given as goal

abbrev pub invariant-loop-c : goal.invariant-loop-c
invariant-loop-c l = gathered_over nothing_gathered l.text ≡ gathered_over l.gathered (drop l.c-index l.text)
