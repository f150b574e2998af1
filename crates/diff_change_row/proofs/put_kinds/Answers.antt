-- Both kinds with their words, one after another.
use Rattle.text.specs.PagesLaws.{next}
use Rattle.diff_change_row.specs.ChangeRow.{kinds_words}
use Rattle.diff_change_row.proofs.put_kinds.Goals as goal

pub returns : goal.returns
unfolding kinds_words
returns c =
    next c.put.ensures (next c.put_kind.ensures (next c.put-2.ensures (next c.put_kind-2.ensures c.put-3.ensures)))
