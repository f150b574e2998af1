-- Where the limit is passed: four numbers, each after its words, one after another; otherwise nothing.
use borrow.Author.Tests.{lt-ltb, le-ltb}
use Rattle.text.specs.PagesLaws.{next, nothing}
use Rattle.settings_replies.specs.SettingsWords.{fine_note}
use Rattle.settings_replies.proofs.put_fine_note.Goals as goal

pub returns-then-limit-fine : goal.returns-then-limit-fine
unfolding fine_note
returns-then-limit-fine c =
    simp (← c.fine_limit-limit.ensures, lt-ltb _ _ c.if-limit-fine.true)
    (next c.put_field.ensures
    (next c.put_field-then-limit-fine.ensures (next c.put_field-then-limit-fine-2.ensures (next c.put_field-then-limit-fine-3.ensures c.put.ensures))))

pub returns-else-limit-fine : goal.returns-else-limit-fine
unfolding fine_note
returns-else-limit-fine c = simp (← c.fine_limit-limit.ensures, le-ltb _ _ c.if-limit-fine.false) (nothing _)
