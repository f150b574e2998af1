-- The code, and the sums that fail.
use Rattle.text.specs.PagesLaws.{next}
use Rattle.why_words.specs.ReasonWords.{damaged_words}
use borrow.Author.Rules.{rules}
use Rattle.why_words.proofs.put_damaged.Goals as goal

pub returns : goal.returns
unfolding damaged_words
returns c =
    next c.put.ensures (next c.put_hex.ensures (next c.put-2.ensures c.put_sums.ensures))
