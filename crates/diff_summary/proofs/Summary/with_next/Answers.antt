-- What the least number gives is counted, by whose it is.
use Rattle.diff_records.proofs.NextLaws.{next_line_lem, next_first, next_second, next_both, next_none}
use borrow.Author.Rules.{rules}
use Rattle.diff_summary.proofs.Summary.with_next.Goals as goal

pub returns-then-n-m : goal.returns-then-n-m
returns-then-n-m c = simp (next_first c.next_number-n.ensures c.next_number-m.ensures c.if-n-m.true) c.count.ensures

pub returns-then-m-n : goal.returns-then-m-n
returns-then-m-n c = simp (next_second c.next_number-n.ensures c.next_number-m.ensures c.if-m-n.true) c.count-then-m-n.ensures

pub with_between-requires : goal.with_between-requires
with_between-requires c =
    let a = next_line_lem c.next_number-n.ensures c.if-n-lt-NO_LINE.true in
    (a.0, (next_line_lem c.next_number-m.ensures (search rules)).0, a.1)

pub returns-then-n-lt-NO_LINE : goal.returns-then-n-lt-NO_LINE
returns-then-n-lt-NO_LINE c = simp (next_both c.next_number-n.ensures c.next_number-m.ensures c.if-m-n.false c.if-n-m.false c.if-n-lt-NO_LINE.true) c.with_between.ensures

pub returns : goal.returns
returns c = simp (next_none c.next_number-n.ensures c.next_number-m.ensures c.if-m-n.false c.if-n-m.false c.if-n-lt-NO_LINE.false)
