-- Below the greatest u64 one can be added; at it the count stays.
use mathlib.Core.Path.{◌≡◌, ◌∙◌}
use Prim.Native.Nat.{ℕ, ◌+◌, ◌<◌}
use native.Mathlib.Omega.{arith}
use Rattle.std.specs.Prelude.{min, cond, ltb}
use Rattle.std.proofs.lemmas.Bool.Decides.{nat_tests}
use Rattle.counts.specs.Counts.{one_more, greatest_count}
use Rattle.counts.proofs.one_more.Goals as goal

held : (n : ℕ) → n < greatest_count + 1 → min (n + 1) greatest_count ≡ cond (ltb n greatest_count) (n + 1) n
held n h = grind (arith, nat_tests)

pub returns : goal.returns
unfolding one_more
returns c = c.saturating_add.ensures ∙ held c.args.count (omega arith)
