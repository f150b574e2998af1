-- Words, number, newline, one after another.
use Rattle.text.specs.PagesLaws.{next}
use Rattle.diff_summary_words.specs.SummaryWords.{count_text}
use borrow.Author.Rules.{rules}
use Rattle.diff_summary_words.proofs.put_count.Goals as goal

pub returns : goal.returns
unfolding count_text
returns c =
    next c.put.ensures (next c.put_decimal.ensures c.put-2.ensures)
