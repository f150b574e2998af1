-- What was saved is said as it is then found, and what was clipped; a refusal is said as such.
use mathlib.Core.Path.{refl}
use Rattle.text.specs.PagesLaws.{next, from_front}
use Rattle.settings_request.specs.SettingsRequest.{saving}
use borrow.Author.Rules.{rules}
use Rattle.settings_request.proofs.respond_save.Goals as goal

pub returns-in-Ok : goal.returns-in-Ok
unfolding saving
returns-in-Ok c =
    simp (← c.save_held-kept.ensures.answers, ← c.save_held-kept.ensures.leaves, c.in-Ok.is) (record { lists = refl; changes = refl; refuses = refl; says = search (rules, from_front c.new-page.ensures (next c.put_held.ensures c.put_notes.ensures)) })

pub returns-in-Err : goal.returns-in-Err
unfolding saving
returns-in-Err c =
    simp (← c.save_held-kept.ensures.answers, ← c.save_held-kept.ensures.leaves, c.in-Err.is) c.refuse.ensures
