-- It is the one or the other, whichever comes first.
use mathlib.Core.Path.{refl}
use mathlib.Core.Logic.{inl, inr}
use borrow.Author.Rules.{rules}
use Rattle.run_ahead.proofs.sooner.Goals as goal

pub returns-then-end-from : goal.returns-then-end-from
returns-then-end-from c = (search rules, search rules, search rules, inl refl)

pub returns : goal.returns
returns c = (search rules, search rules, search rules, inr refl)
