-- The word, the number and what it means, one after another.
use borrow.Author.Rules.{rules}
use Rattle.text.specs.PagesLaws.{next, from_front}
use Rattle.two_wire_words.specs.Words.{refused_text}
use Rattle.two_wire_words.proofs.put_refused.Goals as goal

pub returns : goal.returns
unfolding refused_text
returns c =
    let w = next c.put.ensures (next c.put_decimal.ensures c.put_words.ensures) in
    search (rules, from_front c.new-page.ensures w)
