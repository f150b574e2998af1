-- The line, and the room with its words, one after another.
use borrow.Author.Rules.{rules}
use Rattle.text.specs.PagesLaws.{next, from_front}
use Rattle.register_line.specs.Line.{too_long_text}
use Rattle.register_line.proofs.put_too_long.Goals as goal

pub returns : goal.returns
unfolding too_long_text
returns c =
    let w = next c.put_line.ensures (next c.put_decimal.ensures c.put.ensures) in
    search (rules, from_front c.new-page.ensures w)
