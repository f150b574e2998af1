-- What is found is said as its messages; nothing else changes.
use mathlib.Core.Path.{refl}
use Rattle.text.specs.PagesLaws.{from_front}
use Rattle.settings_request.specs.SettingsRequest.{sending}
use borrow.Author.Rules.{rules}
use Rattle.settings_request.proofs.respond_messages.Goals as goal

pub returns-in-Ok : goal.returns-in-Ok
unfolding sending
returns-in-Ok c =
    simp (← c.in-Ok.ensures) (record { lists = refl; changes = refl; refuses = refl; says = search (rules, from_front c.new-page.ensures c.put_writes.ensures) })

pub returns-in-Err : goal.returns-in-Err
unfolding sending
returns-in-Err c =
    simp (← c.in-Err.ensures) c.refuse.ensures
