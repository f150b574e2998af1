-- What was saved again is said as it is then found; a refusal is said as such.
use mathlib.Core.Path.{refl}
use mathlib.Core.List.{append-nil}
use Rattle.text.specs.PagesLaws.{from_front}
use Rattle.settings_request.specs.SettingsRequest.{saving}
use borrow.Author.Rules.{rules}
use Rattle.settings_request.proofs.respond_back.Goals as goal

pub returns-in-Ok : goal.returns-in-Ok
unfolding saving
returns-in-Ok c =
    simp (← c.back_held-kept.ensures.answers, ← c.back_held-kept.ensures.leaves, c.in-Ok.is, append-nil) (record { lists = refl; changes = refl; refuses = refl; says = search (rules, from_front c.new-page.ensures c.put_held.ensures) })

pub returns-in-Err : goal.returns-in-Err
unfolding saving
returns-in-Err c =
    simp (← c.back_held-kept.ensures.answers, ← c.back_held-kept.ensures.leaves, c.in-Err.is) c.refuse.ensures
