-- The differences from a place of each list on are left to count; each turn counts those of the next number.
use mathlib.Core.Path.{sym, ap, ◌∙◌}
use native.Mathlib.Omega.{arith}
use Rattle.diff_records.proofs.NextLaws.{in_first, in_second}
use Rattle.diff_summary.specs.Summary.{with_differences}
use Rattle.diff_summary.specs.SummaryLaws.{differences_from, walk_counted, walk_end}
use borrow.Author.Rules.{rules}
use Rattle.diff_summary.proofs.summed.Goals as goal

pub loop-a-init : goal.loop-a-init
unfolding differences_from
loop-a-init c = (search rules, search rules, simp c.new-s.ensures)

pub overflow_add-far : goal.overflow_add-far
overflow_add-far c =
    let a = c.args in
    let l = c.loop-a in
    let p = c.next_number-n.ensures in
    let q = c.next_number-m.ensures in
    let f = in_first a.first.now a.second.now l.i l.j _ _ p q in
    let g = in_second a.first.now a.second.now l.i l.j _ _ p q in
    omega (arith, c.how_far-far.ensures, c.how_far-other.ensures, f, g)

pub returns-then-far-other-eq0 : goal.returns-then-far-other-eq0
returns-then-far-other-eq0 c =
    let a = c.args in
    let l = c.loop-a in
    let p = c.next_number-n.ensures in
    let q = c.next_number-m.ensures in
    let none = walk_end a.first.now a.second.now l.i l.j _ _ p q (omega (arith, c.how_far-far.ensures, c.how_far-other.ensures, c.if-far-other-eq0.true)) in
    sym (ap (with_differences l.s) none) ∙ l.invariant.2

pub overflow_add-i : goal.overflow_add-i
overflow_add-i c =
    let a = c.args in
    let l = c.loop-a in
    let p = c.next_number-n.ensures in
    let q = c.next_number-m.ensures in
    let f = in_first a.first.now a.second.now l.i l.j _ _ p q in
    let g = in_second a.first.now a.second.now l.i l.j _ _ p q in
    omega (arith, l.invariant.0, c.how_far-far.ensures, f)

pub overflow_add-j : goal.overflow_add-j
overflow_add-j c =
    let a = c.args in
    let l = c.loop-a in
    let p = c.next_number-n.ensures in
    let q = c.next_number-m.ensures in
    let f = in_first a.first.now a.second.now l.i l.j _ _ p q in
    let g = in_second a.first.now a.second.now l.i l.j _ _ p q in
    omega (arith, l.invariant.1, c.how_far-other.ensures, g)

pub loop-a-smaller : goal.loop-a-smaller
loop-a-smaller c =
    let a = c.args in
    let l = c.loop-a in
    let p = c.next_number-n.ensures in
    let q = c.next_number-m.ensures in
    let f = in_first a.first.now a.second.now l.i l.j _ _ p q in
    let g = in_second a.first.now a.second.now l.i l.j _ _ p q in
    omega (arith, c.if-far-other-eq0.false, c.how_far-far.ensures, c.how_far-other.ensures, f, g)

pub loop-a-preserved : goal.loop-a-preserved
loop-a-preserved c =
    let a = c.args in
    let l = c.loop-a in
    let p = c.next_number-n.ensures in
    let q = c.next_number-m.ensures in
    let f = in_first a.first.now a.second.now l.i l.j _ _ p q in
    let g = in_second a.first.now a.second.now l.i l.j _ _ p q in
    let step = walk_counted a.first.now a.second.now l.i l.j _ _ p q l.s in
    (omega (arith, c.how_far-far.ensures, f, l.invariant.0), omega (arith, c.how_far-other.ensures, g, l.invariant.1), simp (c.with_next-s.ensures, c.how_far-far.ensures, c.how_far-other.ensures) step ∙ l.invariant.2)
