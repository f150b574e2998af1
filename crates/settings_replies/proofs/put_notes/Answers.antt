-- The note on fine exposure, then that on coarse.
use Rattle.text.specs.PagesLaws.{next}
use Rattle.settings_replies.proofs.put_notes.Goals as goal

pub returns : goal.returns
returns c = next c.put_fine_note.ensures c.put_coarse_note.ensures
