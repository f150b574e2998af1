-- Kind, number and note, one after another; the note by the facts' own test of repair.
use borrow.Author.Rules.{rules}
use Rattle.text.specs.PagesLaws.{next}
use Rattle.list_rows.specs.Rows.{line_words}
use Rattle.list_rows.proofs.put_line.Goals as goal

pub returns : goal.returns
unfolding line_words
returns c =
    simp (← c.is_repaired.ensures)
    (next c.put_kind.ensures (next c.put.ensures (next c.put_decimal.ensures (next c.put-2.ensures c.put_note.ensures))))
