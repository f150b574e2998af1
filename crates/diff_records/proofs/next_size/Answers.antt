-- The size of what the least number gives, by whose it is.
use mathlib.Core.Path.{sym, ap, ◌∙◌}
use lib.ListN.{length}
use Rattle.line_records.proofs.LinesLaws.{body_length_lem}
use Rattle.diff_records.specs.Difference.{encoded_all}
use Rattle.diff_records.proofs.DifferenceLaws.{first_size, second_size}
use Rattle.diff_records.proofs.NextLaws.{next_line_lem, lesser_line, next_first, next_second, next_both, next_none}
use borrow.Author.Rules.{rules}
use Rattle.diff_records.proofs.next_size.Goals as goal

pub returns-then-n-m : goal.returns-then-n-m
returns-then-n-m c =
    let p = c.next_number-n.ensures in
    let q = c.next_number-m.ensures in
    sym (ap (λ ds. length (encoded_all ds)) (next_first p q c.if-n-m.true) ∙ first_size _ (body_length_lem _ (lesser_line p q c.if-n-m.true).0))

pub returns-then-m-n : goal.returns-then-m-n
returns-then-m-n c =
    let p = c.next_number-n.ensures in
    let q = c.next_number-m.ensures in
    sym (ap (λ ds. length (encoded_all ds)) (next_second p q c.if-m-n.true) ∙ second_size _ (body_length_lem _ (lesser_line q p c.if-m-n.true).0))

pub between_size-requires : goal.between_size-requires
between_size-requires c = ((next_line_lem c.next_number-n.ensures c.if-n-lt-NO_LINE.true).0, (next_line_lem c.next_number-m.ensures (search rules)).0)

pub returns-then-n-lt-NO_LINE : goal.returns-then-n-lt-NO_LINE
returns-then-n-lt-NO_LINE c = c.between_size.ensures ∙ sym (ap (λ ds. length (encoded_all ds)) (next_both c.next_number-n.ensures c.next_number-m.ensures c.if-m-n.false c.if-n-m.false c.if-n-lt-NO_LINE.true))

pub returns : goal.returns
returns c = sym (ap (λ ds. length (encoded_all ds)) (next_none c.next_number-n.ensures c.next_number-m.ensures c.if-m-n.false c.if-n-m.false c.if-n-lt-NO_LINE.false))
