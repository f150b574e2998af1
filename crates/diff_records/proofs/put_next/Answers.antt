-- What the least number gives is put, by whose it is.
use mathlib.Core.Path.{sym, ap, ◌∙◌}
use mathlib.Core.List.{append-nil}
use Rattle.text.specs.PutLaws.{puts_none}
use Rattle.diff_records.specs.Difference.{encoded, encoded_all}
use Rattle.diff_records.proofs.NextLaws.{next_line_lem, lesser_line, next_first, next_second, next_both, next_none}
use Rattle.diff_records.specs.RestLaws.{puts_is}
use borrow.Author.Rules.{rules}
use Rattle.diff_records.proofs.put_next.Goals as goal

pub put_line-requires : goal.put_line-requires
put_line-requires c = lesser_line c.next_number-n.ensures c.next_number-m.ensures c.if-n-m.true

pub returns-then-n-m : goal.returns-then-n-m
unfolding encoded
returns-then-n-m c = puts_is (sym (ap encoded_all (next_first c.next_number-n.ensures c.next_number-m.ensures c.if-n-m.true) ∙ append-nil _)) c.put_line.ensures

pub put_line-requires-then-m-n : goal.put_line-requires-then-m-n
put_line-requires-then-m-n c = lesser_line c.next_number-m.ensures c.next_number-n.ensures c.if-m-n.true

pub returns-then-m-n : goal.returns-then-m-n
unfolding encoded
returns-then-m-n c =
    let next_number_lem = c.next_number-n in
    puts_is (sym (ap encoded_all (next_second next_number_lem.ensures c.next_number-m.ensures c.if-m-n.true) ∙ append-nil _)) c.put_line-then-m-n.ensures

pub put_between-requires : goal.put_between-requires
put_between-requires c =
    let a = next_line_lem c.next_number-n.ensures c.if-n-lt-NO_LINE.true in
    (a.0, (next_line_lem c.next_number-m.ensures (search rules)).0, a.1, a.2)

pub returns-then-n-lt-NO_LINE : goal.returns-then-n-lt-NO_LINE
returns-then-n-lt-NO_LINE c =
    let next_number_lem = c.next_number-n in
    let next_number2 = c.next_number-m in
    puts_is (sym (ap encoded_all (next_both next_number_lem.ensures next_number2.ensures c.if-m-n.false c.if-n-m.false c.if-n-lt-NO_LINE.true))) c.put_between.ensures

pub returns : goal.returns
returns c = puts_is (sym (ap encoded_all (next_none c.next_number-n.ensures c.next_number-m.ensures c.if-m-n.false c.if-n-m.false c.if-n-lt-NO_LINE.false))) (puts_none _ _)
