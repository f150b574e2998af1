-- The list's words stand at the front; nothing else changes.
use mathlib.Core.Path.{refl}
use Rattle.text.specs.PagesLaws.{from_front}
use borrow.Author.Rules.{rules}
use Rattle.settings_request.proofs.respond_list.Goals as goal

pub returns : goal.returns
returns c =
    record { lists = refl; changes = refl; refuses = refl; says = search (rules, from_front c.new-page.ensures c.put_list.ensures) }
