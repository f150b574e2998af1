-- What is found is said as its line; nothing else changes.
use mathlib.Core.Path.{refl}
use Rattle.text.specs.PagesLaws.{from_front}
use Rattle.settings_request.specs.SettingsRequest.{looking_up}
use borrow.Author.Rules.{rules}
use Rattle.settings_request.proofs.respond_find.Goals as goal

pub returns-in-Ok : goal.returns-in-Ok
unfolding looking_up
returns-in-Ok c =
    simp (← c.in-Ok.ensures) (record { lists = refl; changes = refl; refuses = refl; says = search (rules, from_front c.new-page.ensures c.put_setting.ensures) })

pub returns-in-Err : goal.returns-in-Err
unfolding looking_up
returns-in-Err c =
    simp (← c.in-Err.ensures) c.refuse.ensures
