-- The six messages, one after another, of the pairs that the setting has.
use mathlib.Core.Path.{◌≡◌, subst}
use mathlib.Core.List.{List, ◌++◌}
use Prim.Native.Nat.{ℕ}
use lib.ListN.{get_or}
use Rattle.text.specs.declared.Page.{Page}
use Rattle.text.specs.Pages.{Writes}
use Rattle.text.specs.PagesLaws.{next}
use Rattle.two_wire.specs.Messages.{message}
use Rattle.two_wire_text.specs.Hex.{hex_text}
use Rattle.saved_registers.specs.SettingRegisters.{setting_pairs}
use Rattle.settings_replies.proofs.put_writes.Goals as goal

-- the line of the pair at a place
abbrev line_at : List ℕ → ℕ → ℕ → List ℕ
line_at p i v = hex_text (message (get_or p i 0) (get_or p v 0))

abbrev six : List ℕ → List ℕ
six p = line_at p 0 1 ++ (line_at p 2 3 ++ (line_at p 4 5 ++ (line_at p 6 7 ++ (line_at p 8 9 ++ line_at p 10 11))))

of_pairs : {a b : Page} (p q : List ℕ) → p ≡ q → Writes (six p) a b → Writes (six q) a b
of_pairs {a} {b} p q e writes = subst (λ (x : List ℕ). Writes (six x) a b) e writes

pub returns : goal.returns
unfolding setting_pairs
returns c =
    of_pairs _ _ c.pairs-p.ensures
    (next c.put_message.ensures
    (next c.put_message-2.ensures
    (next c.put_message-3.ensures
    (next c.put_message-4.ensures (next c.put_message-5.ensures c.put_message-6.ensures)))))
