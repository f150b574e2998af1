-- A text that is a list's is served by that list; another is refused, and nothing is put for it.
use mathlib.Core.Path.{◌≡◌, refl, sym, ap, ◌∙◌}
use mathlib.Core.Bool.{true, false}
use Rattle.text.specs.PutLaws.{puts_none}
use Rattle.text.specs.PagesLaws.{from_front}
use Rattle.saved_text.specs.declared.Restored.{Restored}
use Rattle.saved_text.specs.SettingsText.{numbers_of, is_settings_text}
use Rattle.settings_request.specs.SettingsRequest.{service}
use borrow.Author.Rules.{rules}
use Rattle.settings_request.proofs.serve.Goals as goal

pub returns-then-read : goal.returns-then-read
unfolding service
returns-then-read c =
    let text = c.args.text.now in
    let valid : is_settings_text text ≡ true = sym (ap (λ (r : Restored). r.valid) c.read-read.ensures) ∙ c.if-read.true in
    let list : numbers_of text ≡ c.read-read.result.list = sym (ap (λ (r : Restored). r.list) c.read-read.ensures) in
    simp (valid, list) (record {
      changes = c.respond-response.ensures.changes;
      refuses = c.respond-response.ensures.refuses;
      writes = rw (← c.respond-response.ensures.lists) (search (rules, from_front c.new-page.ensures c.put_settings.ensures));
      says = c.respond-response.ensures.says;
    })

pub returns : goal.returns
unfolding service
returns c =
    let text = c.args.text.now in
    let invalid : is_settings_text text ≡ false = sym (ap (λ (r : Restored). r.valid) c.read-read.ensures) ∙ c.if-read.false in
    simp invalid (record { changes = refl; refuses = refl; writes = puts_none _ _; says = search (rules, from_front c.new-page-2.ensures c.put_refusal.ensures) })
