-- The list's text is written whole, so what stands at the buffer's front is that text, and the two are compared.
use mathlib.Core.Path.{◌≡◌, sym, ap, ◌∙◌}
use mathlib.Core.List.{List}
use Prim.Native.Nat.{ℕ, ◌≤◌}
use native.Mathlib.Omega.{arith}
use lib.ListN.{length, length-replicate, take}
use lib.Seq.{length-take-le}
use borrow.Author.Rules.{rules}
use Rattle.std.specs.Borrow.{MutBor}
use Rattle.saved_setting.specs.declared.SavedSetting.{SavedSetting}
use Rattle.text.specs.declared.Page.{Page}
use Rattle.text.specs.Pages.{Opens, Writes}
use Rattle.text.specs.PagesLaws.{from_front}
use Rattle.text.specs.PutLaws.{put_within, front_text}
use Rattle.saved_text.specs.SettingsText.{is_like}
use Rattle.saved_lines.specs.SavedLines.{settings_text}
use Rattle.saved_lines.specs.SavedLinesLaws.{text_whole}
use Rattle.saved_text.proofs.is_settings_text.Goals as goal

-- it is written whole where there are 1,136 bytes: so its end lies in them, and what stands up to there is the text
within : (list : List SavedSetting) {room : MutBor (List ℕ)} {a b : Page} → Opens room a → Writes (settings_text list) a b → 1136 ≤ length room.now
    → (last : List ℕ) → (room.ghost_name ≡ b.room.ghost_name → last ≡ b.room.now) → b.used ≤ length last
within list o w fits last h = put_within (text_whole list fits (from_front o w last h))

front : (list : List SavedSetting) {room : MutBor (List ℕ)} {a b : Page} → Opens room a → Writes (settings_text list) a b → 1136 ≤ length room.now
    → (last : List ℕ) → (room.ghost_name ≡ b.room.ghost_name → last ≡ b.room.now) → take b.used last ≡ settings_text list
front list o w fits last h = front_text (text_whole list fits (from_front o w last h))

pub slice_bounds-whole-end : goal.slice_bounds-whole-end
slice_bounds-whole-end c =
    search (rules, within c.args.list c.new-page.ensures c.put_settings.ensures (omega (arith, length-replicate {A = ℕ} 1136 0)))

pub slice_bounds-is_like-end : goal.slice_bounds-is_like-end
slice_bounds-is_like-end c =
    sym (length-take-le _ _ (search (rules, within c.args.list c.new-page.ensures c.put_settings.ensures (omega (arith, length-replicate {A = ℕ} 1136 0)))))

pub returns : goal.returns
returns c =
    let a = c.args in
    c.is_like.ensures ∙ ap (λ (t : List ℕ). is_like a.text.now t)
    (search (rules, front a.list c.new-page.ensures c.put_settings.ensures (omega (arith, length-replicate {A = ℕ} 1136 0))))
