-- The line, and the words for the sensor.
use borrow.Author.Rules.{rules}
use Rattle.text.specs.PagesLaws.{next, from_front}
use Rattle.register_line.specs.Line.{unknown_text}
use Rattle.register_line.proofs.put_unknown.Goals as goal

pub returns : goal.returns
unfolding unknown_text
returns c =
    let w = next c.put_line.ensures c.put_unknown_words.ensures in
    search (rules, from_front c.new-page.ensures w)
