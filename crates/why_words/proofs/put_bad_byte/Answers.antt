-- The line, then the place and the byte.
use Rattle.text.specs.PagesLaws.{next}
use Rattle.why_words.specs.ReasonWords.{bad_byte_words}
use borrow.Author.Rules.{rules}
use Rattle.why_words.proofs.put_bad_byte.Goals as goal

pub returns : goal.returns
unfolding bad_byte_words
returns c =
    next c.put_line.ensures (next c.put.ensures (next c.put_decimal.ensures (next c.put-2.ensures c.put_hex.ensures)))
