-- A line after another.
use Rattle.text.specs.PagesLaws.{next}
use Rattle.diff_summary_words.specs.SummaryWords.{summary_text}
use borrow.Author.Rules.{rules}
use Rattle.diff_summary_words.proofs.put_summary.Goals as goal

pub returns : goal.returns
unfolding summary_text
returns c =
    next c.put_count.ensures (next c.put_count-2.ensures (next c.put_count-3.ensures (next c.put_count-4.ensures c.put_places.ensures)))
