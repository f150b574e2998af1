-- At each turn the run from here on is the run from the start; a pair is two nibbles taken one by one (Pairs.antt), and the places left fall.
use mathlib.Core.Path.{◌≡◌, refl, sym}
use mathlib.Core.List.{List}
use mathlib.Core.Logic.{◌⊎◌, inl, inr}
use Prim.Native.Nat.{ℕ, ◌+◌, ◌-◌, ◌<◌}
use native.Mathlib.Omega.{arith}
use lib.ListN.{length}
use borrow.Author.Rules.{rules}
use Rattle.run_ahead.proofs.Pairs.{turn, reads, fewer, stands_next, leads_before, leads_here, leads_on, here, reaches, ended}
use Rattle.run_ahead.proofs.before_body.Goals as goal

-- the part's own end, or the run's
part_end : (s : List ℕ) (from end count₀ count i : ℕ) → count₀ < 14 → i + count₀ ≡ from + count → (end ≡ length s) ⊎ (end ≡ from + (14 - count₀))
    → (end ≡ length s) ⊎ (end + count ≡ i + 14)
part_end s from end count₀ count i l e (inl a) = inl a
part_end s from end count₀ count i l e (inr a) = inr (omega arith)

pub returns-then-h-ge-BODY : goal.returns-then-h-ge-BODY
returns-then-h-ge-BODY c = let a = c.args in (λ B. here a.s.now a.h B a.from (search rules) (inl (search rules)), search rules)

pub loop-kept-init : goal.loop-kept-init
loop-kept-init c =
    let a = c.args in (
      λ B. leads_here a.s.now a.h B a.from,
      record { small = search rules; from_on = search rules; up_to = search rules; within = search rules },
      search rules,
      omega arith,
      refl,
    )

pub slide_byte-window-requires : goal.slide_byte-window-requires
slide_byte-window-requires c =
    let there = turn c.loop-kept.invariant.1 c.is_pair.ensures c.loop-kept-test.true in
    reads there

pub overflow_add-i : goal.overflow_add-i
overflow_add-i c =
    let there = turn c.loop-kept.invariant.1 c.is_pair.ensures c.loop-kept-test.true in
    omega (arith, (reads there).0)

pub loop-kept-smaller : goal.loop-kept-smaller
loop-kept-smaller c =
    let there = turn c.loop-kept.invariant.1 c.is_pair.ensures c.loop-kept-test.true in
    fewer there

pub loop-kept-preserved : goal.loop-kept-preserved
loop-kept-preserved c =
    let there = turn c.loop-kept.invariant.1 c.is_pair.ensures c.loop-kept-test.true in
    let l = c.loop-kept in
    let t = there in
    let f = t.fits in (
      λ B. simp (c.slide_byte-window.ensures, c.keep_byte-kept.ensures, c.top_byte.ensures)
          (leads_on _ _ B _ _ B _ _ B _ (l.invariant.0 B) (leads_before _ _ l.count l.kept B t (omega arith) l.invariant.2)),
      stands_next t c.slide_byte-window.ensures,
      omega arith,
      omega arith,
      omega arith,
    )

pub returns : goal.returns
returns c =
    let a = c.args in
    let l = c.loop-kept in
    let through = ended 14 l.count l.invariant.1 c.is_pair.ensures c.loop-kept-test.false (sym l.invariant.2)
    (part_end a.s.now _ _ _ _ l.i c.if-h-ge-BODY.false l.invariant.4 c.sooner-end.ensures.3) in
    (λ B. reaches (l.invariant.0 B) l.invariant.1 through, l.invariant.2)
