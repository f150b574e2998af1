-- Where the limit is passed: three numbers, each after its words, one after another; otherwise nothing.
use borrow.Author.Tests.{lt-ltb, le-ltb}
use Rattle.text.specs.PagesLaws.{next, nothing}
use Rattle.settings_replies.specs.SettingsWords.{coarse_note}
use Rattle.settings_replies.proofs.put_coarse_note.Goals as goal

pub returns-then-coarse-gt-COARSE_LIMIT : goal.returns-then-coarse-gt-COARSE_LIMIT
unfolding coarse_note
returns-then-coarse-gt-COARSE_LIMIT c =
    simp (lt-ltb _ _ c.if-coarse-gt-COARSE_LIMIT.true)
    (next c.put_field.ensures (next c.put_field-then-coarse-gt-COARSE_LIMIT.ensures (next c.put_field-then-coarse-gt-COARSE_LIMIT-2.ensures c.put.ensures)))

pub returns-else-coarse-gt-COARSE_LIMIT : goal.returns-else-coarse-gt-COARSE_LIMIT
unfolding coarse_note
returns-else-coarse-gt-COARSE_LIMIT c = simp (le-ltb _ _ c.if-coarse-gt-COARSE_LIMIT.false) (nothing _)
