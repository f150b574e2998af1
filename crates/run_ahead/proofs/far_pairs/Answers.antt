-- At each turn the pairs that are passed can be taken.
use mathlib.Core.Path.{◌≡◌, ◌∙◌, subst}
use Prim.Native.Nat.{ℕ, ◌+◌, ◌*◌, ◌-◌, ◌/◌, ◌≤◌, ◌<◌}
use native.Mathlib.Omega.{arith}
use mathlib.Core.List.{List}
use lib.ListN.{get_or}
use Rattle.run_ahead.specs.Blocks.{NibblesFrom, Far, FarOn}
use Rattle.run_ahead.proofs.Blocks.{far_none, far_more}
use Rattle.run_ahead.proofs.far_pairs.Goals as goal

nibbles : (s : List ℕ) (i n most : ℕ) → ((x : ℕ) → i ≤ x → x < i + n → get_or s x 0 ≤ most) → most ≤ 15 → NibblesFrom s i n
nibbles s i n most g l x u v = omega (arith, g x u v)

pub returns-then-from-lt8 : goal.returns-then-from-lt8
returns-then-from-lt8 c = ((λ l. absurd (omega arith)), omega arith)

pub returns-then-end-from-lt-BLOCK : goal.returns-then-end-from-lt-BLOCK
returns-then-end-from-lt-BLOCK c = ((λ l. absurd (omega arith)), omega arith)

pub most_of-requires : goal.most_of-requires
most_of-requires c = omega (arith, c.requires.0, c.requires.1, c.if-from-lt8.false)

pub returns-then-most_of-gt15 : goal.returns-then-most_of-gt15
returns-then-most_of-gt15 c = ((λ l. absurd (omega arith)), omega arith)

pub window_from-requires : goal.window_from-requires
window_from-requires c =
    (omega (arith, c.requires.0, c.requires.1, c.if-from-lt8.false), nibbles c.args.s.now (c.args.from - 8) 8 c.most_of.result c.most_of.ensures c.if-most_of-gt15.false)

pub returns-then-window-window_from : goal.returns-then-window-window_from
returns-then-window-window_from c = ((λ l. absurd (omega arith)), omega arith)

pub loop-block-init : goal.loop-block-init
loop-block-init c =
    let a = c.args in
    record {
      behind = omega (arith, c.if-from-lt8.false);
      up_to = omega (arith, c.requires.1);
      shown = c.if-window-window_from.false ∙ c.window_from.ensures;
      far = far_none a.s.now (a.from - 8) (nibbles a.s.now (a.from - 8) 8 c.most_of.result c.most_of.ensures c.if-most_of-gt15.false);
    }

pub is_far-requires : goal.is_far-requires
is_far-requires c =
    let f = c.loop-block.invariant in (
      omega (arith, c.requires.0, f.behind),
      λ x u v. f.far.small x (omega (arith, u)) (omega (arith, v)),
    )

pub loop-block-preserved : goal.loop-block-preserved
loop-block-preserved c =
    let a = c.args in
    let l = c.loop-block in
    let f = l.invariant in
    let k = a.from - 8 in
    record {
      behind = f.behind;
      up_to = omega arith;
      shown = f.shown;
      far = subst (Far a.stray a.s.now k) (let z : 2 * (16 * l.block) + 32 ≡ 2 * (16 * (l.block + 1)) = omega arith in z)
          (far_more a.s.now k (2 * (16 * l.block)) (k + 32 * l.block) 32 (omega arith) f.far (c.is_far.ensures c.if-not-is_far.false));
    }

pub returns-then-not-is_far : goal.returns-then-not-is_far
returns-then-not-is_far c = ((λ l. c.loop-block.invariant), omega arith)

pub returns : goal.returns
returns c =
    let a = c.args in
    let l = c.loop-block in
    ((λ h. subst (FarOn a.window a.stray a.s.now a.from a.end) (let z : 16 * l.block ≡ 16 * ((a.end - a.from) / 32) = omega arith in z) l.invariant), omega arith)
