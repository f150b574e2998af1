-- Blanks stand before the number; a line that ends before them, or goes on otherwise, has none.
use lib.ListN.{drop_of_length-le}
use Rattle.named_value.specs.NumberLaws.{value_step}
use Rattle.named_value.proofs.value.Goals as goal

pub returns-then-line-at : goal.returns-then-line-at
returns-then-line-at c = rw (drop_of_length-le c.args.line.now c.if-line-at.true)

pub returns-then-is_blank : goal.returns-then-is_blank
returns-then-is_blank c =
    let a = c.args in
    simp (value_step a.line.now a.at c.if-line-at.false, ← c.is_blank.ensures, c.if-is_blank.true, c.number.ensures, c.past_blanks.ensures)

pub returns : goal.returns
returns c =
    let a = c.args in
    simp (value_step a.line.now a.at c.if-line-at.false, ← c.is_blank.ensures, c.if-is_blank.false)
