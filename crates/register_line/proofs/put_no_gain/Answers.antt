-- The line, and the codes.
use borrow.Author.Rules.{rules}
use Rattle.text.specs.PagesLaws.{next, from_front}
use Rattle.register_line.specs.Line.{no_gain_text}
use Rattle.register_line.proofs.put_no_gain.Goals as goal

pub returns : goal.returns
unfolding no_gain_text
returns c =
    let w = next c.put_line.ensures c.put.ensures in
    search (rules, from_front c.new-page.ensures w)
