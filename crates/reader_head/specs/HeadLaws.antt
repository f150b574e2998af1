-- What holds of a head: the count of a text's nibbles does not fall.
use Rattle.std.specs.Prelude.{Bool, true, false, cond, ℕ, ◌+◌, ◌≤◌, ltb}
use Rattle.std.proofs.Common.{arith}
use Rattle.reader_head.specs.Head.{count_stop, bump}

pub bump_more : (c : ℕ) → c ≤ bump c
unfolding bump
bump_more c = go (ltb c count_stop)
  where
    go : (b : Bool) → c ≤ cond b (c + 1) c
    go true = omega arith
    go false = omega arith
