-- Texts written one after another are their concatenation, written at once.
use Rattle.std.specs.Prelude.{◌≡◌, refl, List, [], ◌++◌, ℕ, ◌≤◌, length}
use Rattle.std.proofs.Common.{sym, ◌∙◌}
use Rattle.text.specs.declared.Page.{Page}
use Rattle.text.specs.Put.{Puts, AtFront}
use Rattle.text.specs.PutLaws.{then, puts_none, puts_front}
use Rattle.std.specs.Borrow.{MutBor}
use Rattle.text.specs.Pages.{Opens, Writes}

pub next : {v w : List ℕ} {a b c : Page} → Writes v a b → Writes w b c → Writes (v ++ w) a c
next p q = record { same_room = q.same_room ∙ p.same_room; puts = then p.puts q.puts }

pub nothing : (a : Page) → Writes [] a a
nothing a = record { same_room = refl; puts = puts_none a.room.now a.used }

-- what is written on an empty page stands at the front of its room, as it is when the page is let go
pub from_front : {t : List ℕ} {room : MutBor (List ℕ)} {a b : Page} → Opens room a → Writes t a b → (last : List ℕ)
    → (room.ghost_name ≡ b.room.ghost_name → last ≡ b.room.now) → Puts room.now 0 t b.used last
from_front {t} {room} {a} {b} o w last h =
    rw (h (sym (w.same_room ∙ o.same_room)), sym o.room_is, sym o.empty) w.puts

-- and where it has room, it is there whole
pub at_front : {t : List ℕ} {room : MutBor (List ℕ)} {a b : Page} → Opens room a → Writes t a b → length t ≤ length room.now → (last : List ℕ)
    → (room.ghost_name ≡ b.room.ghost_name → last ≡ b.room.now) → AtFront t b.used room.now last
at_front o w fits last h = puts_front (from_front o w last h) fits
