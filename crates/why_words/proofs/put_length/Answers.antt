-- The line, then the nibbles found and wanted.
use Rattle.text.specs.PagesLaws.{next}
use Rattle.why_words.specs.ReasonWords.{length_words}
use borrow.Author.Rules.{rules}
use Rattle.why_words.proofs.put_length.Goals as goal

pub returns : goal.returns
unfolding length_words
returns c =
    next c.put_line.ensures (next c.put.ensures (next c.put_decimal.ensures (next c.put-2.ensures (next c.put_decimal-2.ensures c.put-3.ensures))))
