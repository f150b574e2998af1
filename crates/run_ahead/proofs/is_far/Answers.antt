-- Each test rules one thing out: past them the block has nibbles alone, each of its windows is apart from one before a mark, and nothing is stray anew.
use mathlib.Core.List.{List}
use mathlib.Core.Logic.{inl, inr, ⊎_elim}
use Prim.Native.Nat.{ℕ, ◌+◌, ◌≤◌, ◌<◌}
use native.Mathlib.Omega.{arith}
use lib.ListN.{get_or}
use Rattle.run_ahead.specs.Blocks.{NibblesFrom}
use Rattle.run_ahead.proofs.Pairs.{lt_or_ge}
use Rattle.run_ahead.proofs.Blocks.{not_both}
use Rattle.run_ahead.proofs.is_far.Goals as goal

-- eight nibbles, and the block's own
nibbles : (s : List ℕ) (k most : ℕ) → NibblesFrom s k 8 → ((x : ℕ) → k + 8 ≤ x → x < k + 8 + 32 → get_or s x 0 ≤ most) → most ≤ 15 → NibblesFrom s k 40
nibbles s k most h g l x u v = ⊎_elim (λ (d : x < k + 8). h x u d) (λ (d : k + 8 ≤ x). omega (arith, g x d (omega arith))) (lt_or_ge x (k + 8))

pub returns-then-most_of-gt15 : goal.returns-then-most_of-gt15
returns-then-most_of-gt15 c = not_both

pub least_gap-requires : goal.least_gap-requires
least_gap-requires c =
    (c.requires.0, nibbles c.args.s.now c.args.k c.most_of.result c.requires.1 c.most_of.ensures c.if-most_of-gt15.false)

pub returns-then-least_gap-eq0 : goal.returns-then-least_gap-eq0
returns-then-least_gap-eq0 c = not_both

pub returns-then-stray : goal.returns-then-stray
returns-then-stray c =
    λ e. record {
      small = nibbles c.args.s.now c.args.k c.most_of.result c.requires.1 c.most_of.ensures c.if-most_of-gt15.false;
      apart = λ x u v. omega (arith, c.least_gap.ensures x u v, c.if-least_gap-eq0.false);
      same = inl c.if-stray.true;
    }

pub most_off-requires : goal.most_off-requires
most_off-requires c =
    (omega (arith, c.requires.0), λ x u v. nibbles c.args.s.now c.args.k c.most_of.result c.requires.1 c.most_of.ensures c.if-most_of-gt15.false x u (omega (arith, v)))

pub returns-then-most_off-gt0 : goal.returns-then-most_off-gt0
returns-then-most_off-gt0 c = not_both

pub returns : goal.returns
returns c =
    λ e. record {
      small = nibbles c.args.s.now c.args.k c.most_of.result c.requires.1 c.most_of.ensures c.if-most_of-gt15.false;
      apart = λ x u v. omega (arith, c.least_gap.ensures x u v, c.if-least_gap-eq0.false);
      same = inr (λ x u v. omega (arith, c.most_off.ensures x u v, c.if-most_off-gt0.false));
    }
