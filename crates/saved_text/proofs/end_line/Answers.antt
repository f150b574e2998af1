-- Where a place is left the line's setting is stored there; otherwise the places stay.
use borrow.Author.Tests.{lt-ltb, le-ltb}
use Rattle.saved_text.proofs.end_line.Goals as goal

pub returns-then-count-lt-PLACES : goal.returns-then-count-lt-PLACES
returns-then-count-lt-PLACES c = simp (lt-ltb _ _ c.if-count-lt-PLACES.true, c.setting_of.ensures, c.no_fields.ensures)

pub returns : goal.returns
returns c = simp (le-ltb _ _ c.if-count-lt-PLACES.false, c.no_fields-2.ensures)
