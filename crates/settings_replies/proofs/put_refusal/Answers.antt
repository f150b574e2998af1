-- The number, then its words.
use Rattle.text.specs.PagesLaws.{next}
use Rattle.settings_replies.proofs.put_refusal.Goals as goal

pub returns : goal.returns
returns c = next c.put_field.ensures c.put_words.ensures
