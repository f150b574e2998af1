-- The refusal's text stands at the front; the list stays.
use mathlib.Core.Path.{refl}
use Rattle.text.specs.PagesLaws.{from_front}
use borrow.Author.Rules.{rules}
use Rattle.settings_request.proofs.refuse.Goals as goal

pub returns : goal.returns
returns c =
    record { lists = refl; changes = refl; refuses = refl; says = search (rules, from_front c.new-page.ensures c.put_refusal.ensures) }
