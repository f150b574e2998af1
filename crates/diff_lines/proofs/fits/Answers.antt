-- The room left, and the bytes of the differences still to come, are those of the start.
use mathlib.Core.Path.{sym, ap}
use Prim.Native.Nat.{◌≤◌, ◌<◌}
use native.Mathlib.Omega.{arith}
use borrow.Author.Tests.{lt-leb, le-leb}
use lib.ListN.{length}
use Rattle.line_records.specs.Lines.{full_lines}
use Rattle.diff_records.specs.Difference.{differences, encoded_all}
use Rattle.diff_records.proofs.NextLaws.{left_bytes, left_length, left_end, in_first, in_second}
use borrow.Author.Rules.{rules}
use Rattle.diff_lines.proofs.fits.Goals as goal

pub loop-a-init : goal.loop-a-init
unfolding left_bytes
loop-a-init c = (search rules, search rules, omega arith)

pub overflow_add-far : goal.overflow_add-far
overflow_add-far c =
    let a = c.args in
    let l = c.loop-a in
    let p = c.next_number-n.ensures in
    let q = c.next_number-m.ensures in
    omega (arith, c.how_far-far.ensures, c.how_far-other.ensures, in_first a.first.now a.second.now l.i l.j _ _ p q, in_second a.first.now a.second.now l.i l.j _ _ p q)

pub returns-then-far-other-eq0 : goal.returns-then-far-other-eq0
returns-then-far-other-eq0 c =
    let a = c.args in
    let l = c.loop-a in
    let total = length (encoded_all (differences (full_lines a.first.now) (full_lines a.second.now))) in
    let none = left_end a.first.now a.second.now l.i l.j _ _ c.next_number-n.ensures c.next_number-m.ensures (omega (arith, c.how_far-far.ensures, c.how_far-other.ensures, c.if-far-other-eq0.true)) in
    let h : total ≤ a.room = omega (arith, l.invariant.2, ap length none) in
    sym (le-leb total a.room h)

pub returns-then-left-size : goal.returns-then-left-size
returns-then-left-size c =
    let a = c.args in
    let l = c.loop-a in
    let total = length (encoded_all (differences (full_lines a.first.now) (full_lines a.second.now))) in
    let h : a.room < total = omega (arith, l.invariant.2, c.next_size-size.ensures, left_length a.first.now a.second.now l.i l.j _ _ c.next_number-n.ensures c.next_number-m.ensures) in
    sym (lt-leb total a.room h)

pub overflow_add-i : goal.overflow_add-i
overflow_add-i c =
    let a = c.args in
    let l = c.loop-a in
    omega (arith, l.invariant.0, c.how_far-far.ensures, in_first a.first.now a.second.now l.i l.j _ _ c.next_number-n.ensures c.next_number-m.ensures)

pub overflow_add-j : goal.overflow_add-j
overflow_add-j c =
    let a = c.args in
    let l = c.loop-a in
    omega (arith, l.invariant.1, c.how_far-other.ensures, in_second a.first.now a.second.now l.i l.j _ _ c.next_number-n.ensures c.next_number-m.ensures)

pub loop-a-smaller : goal.loop-a-smaller
loop-a-smaller c =
    let a = c.args in
    let l = c.loop-a in
    let p = c.next_number-n.ensures in
    let q = c.next_number-m.ensures in
    omega (arith, c.if-far-other-eq0.false, c.how_far-far.ensures, c.how_far-other.ensures, in_first a.first.now a.second.now l.i l.j _ _ p q, in_second a.first.now a.second.now l.i l.j _ _ p q)

pub loop-a-preserved : goal.loop-a-preserved
loop-a-preserved c =
    let a = c.args in
    let l = c.loop-a in
    let p = c.next_number-n.ensures in
    let q = c.next_number-m.ensures in
    let f = in_first a.first.now a.second.now l.i l.j _ _ p q in
    let g = in_second a.first.now a.second.now l.i l.j _ _ p q in
    let e = left_length a.first.now a.second.now l.i l.j _ _ p q in
    (omega (arith, c.how_far-far.ensures, f, l.invariant.0), omega (arith, c.how_far-other.ensures, g, l.invariant.1), simp (c.how_far-far.ensures, c.how_far-other.ensures) (omega (arith, l.invariant.2, e, c.next_size-size.ensures, c.if-left-size.false)))
