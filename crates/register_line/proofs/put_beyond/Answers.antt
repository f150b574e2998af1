-- The line, the name, and the limit with its words, one after another.
use borrow.Author.Rules.{rules}
use Rattle.text.specs.PagesLaws.{next, from_front}
use Rattle.register_line.specs.Line.{beyond_text}
use Rattle.register_line.proofs.put_beyond.Goals as goal

pub returns : goal.returns
unfolding beyond_text
returns c =
    let w = next c.put_line.ensures (next c.put_name.ensures (next c.put.ensures (next c.put_decimal.ensures c.put-2.ensures))) in
    search (rules, from_front c.new-page.ensures w)
