-- The differences still to come are left to put; each turn puts those of the next number.
use native.Mathlib.Omega.{arith}
use Rattle.diff_records.proofs.NextLaws.{left_bytes, left_step, left_end, in_first, in_second}
use Rattle.diff_records.specs.RestLaws.{rest_all, rest_put, rest_none}
use borrow.Author.Rules.{rules}
use Rattle.diff_lines.proofs.put_all.Goals as goal

pub loop-a-init : goal.loop-a-init
unfolding left_bytes
loop-a-init c = (search rules, search rules, rest_all _ _ _)

pub overflow_add-far : goal.overflow_add-far
overflow_add-far c =
    let a = c.args in
    let l = c.loop-a in
    let p = c.next_number-n.ensures in
    let q = c.next_number-m.ensures in
    omega (arith, c.how_far-far.ensures, c.how_far-other.ensures, in_first a.first.now a.second.now l.i l.j _ _ p q, in_second a.first.now a.second.now l.i l.j _ _ p q)

pub shape_of-buffer-then-far-other-eq0 : goal.shape_of-buffer-then-far-other-eq0
shape_of-buffer-then-far-other-eq0 c =
    let loop-at = c.loop-a in
    loop-at.invariant.2.kept

pub returns-then-far-other-eq0 : goal.returns-then-far-other-eq0
returns-then-far-other-eq0 c =
    let a = c.args in
    let l = c.loop-a in
    rest_none _ (left_end a.first.now a.second.now l.i l.j _ _ c.next_number-n.ensures c.next_number-m.ensures (omega (arith, c.how_far-far.ensures, c.how_far-other.ensures, c.if-far-other-eq0.true))) l.invariant.2

pub overflow_add-i : goal.overflow_add-i
overflow_add-i c =
    let next_number_lem = c.next_number-n in
    let next_number2 = c.next_number-m in
    let a = c.args in
    let l = c.loop-a in
    omega (arith, l.invariant.0, c.how_far-far.ensures, in_first a.first.now a.second.now l.i l.j _ _ next_number_lem.ensures next_number2.ensures)

pub overflow_add-j : goal.overflow_add-j
overflow_add-j c =
    let next_number_lem = c.next_number-n in
    let next_number2 = c.next_number-m in
    let a = c.args in
    let l = c.loop-a in
    omega (arith, l.invariant.1, c.how_far-other.ensures, in_second a.first.now a.second.now l.i l.j _ _ next_number_lem.ensures next_number2.ensures)

pub loop-a-smaller : goal.loop-a-smaller
loop-a-smaller c =
    let a = c.args in
    let l = c.loop-a in
    let p = c.next_number-n.ensures in
    let q = c.next_number-m.ensures in
    omega (arith, c.if-far-other-eq0.false, c.how_far-far.ensures, c.how_far-other.ensures, in_first a.first.now a.second.now l.i l.j _ _ p q, in_second a.first.now a.second.now l.i l.j _ _ p q)

pub loop-a-preserved : goal.loop-a-preserved
loop-a-preserved c =
    let a = c.args in
    let l = c.loop-a in
    let p = c.next_number-n.ensures in
    let q = c.next_number-m.ensures in
    let f = in_first a.first.now a.second.now l.i l.j _ _ p q in
    let g = in_second a.first.now a.second.now l.i l.j _ _ p q in
    (omega (arith, c.how_far-far.ensures, f, l.invariant.0), omega (arith, c.how_far-other.ensures, g, l.invariant.1), simp (c.how_far-far.ensures, c.how_far-other.ensures) (rest_put _ _ _ (left_step a.first.now a.second.now l.i l.j _ _ p q) l.invariant.2 c.put_next-at.ensures))
