-- A fresh judge, as its own function promises, and no rows kept.
use mathlib.Core.Path.{ap}
use borrow.Author.Rules.{rules}
use Rattle.frame_judge.specs.declared.Judge.{Judge}
use Rattle.frame_rows.proofs.Gatherer.new.Goals as goal

pub returns : goal.returns
returns c = ap (λ (j : Judge). record { judge = j; kept = 0; keeping = c.args.keeping }) c.new-judge.ensures
