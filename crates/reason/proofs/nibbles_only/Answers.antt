-- Each input is tried: all are at most 15, or one is above.
use Prim.Native.Nat.{◌<◌, ◌≤◌}
use borrow.Author.Rules.{rules}
use borrow.Author.Tests.{tests}
use Rattle.std.proofs.lemmas.Iterator.{cases_from_all, YieldsList-from_slice}
use Rattle.reason.proofs.Steps.{nibbles_tried}
use Rattle.reason.proofs.nibbles_only.Goals as goal

pub returns : goal.returns
returns c =
    nibbles_tried _ _
    (cases_from_all _ _ _ (λ x. x ≤ 15) (λ x. 15 < x) c.all.ensures.ran (YieldsList-from_slice c.args.run.now cc) (λ x q k. search (rules, tests)) (λ x q k. search (rules, tests)))
