-- Each of the three things kept is brought up to date by its own function, all from the one nibble.
use Rattle.mark_text.specs.MarkText.{kept_at}
use borrow.Author.Rules.{rules}
use Rattle.mark_text.proofs.Kept.commit.Goals as goal

pub returns : goal.returns
unfolding kept_at
returns c = simp (c.stray_at-stray.ensures, c.byte_at-second.ensures, c.byte_at-first.ensures, c.low_four-nibble.ensures.0)
