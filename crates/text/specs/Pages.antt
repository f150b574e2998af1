-- Texts written on a page, one after another.
use Rattle.std.specs.Prelude.{◌≡◌, List, ℕ}
use Rattle.std.specs.Borrow.{MutBor}
use Rattle.text.specs.declared.Page.{Page}
use Rattle.text.specs.Put.{Puts}

-- a page of lent room, with nothing written
pub record Opens (room : MutBor (List ℕ)) (page : Page) : Type 0 where
  pub same_room : page.room.ghost_name ≡ room.ghost_name
  pub room_is : page.room.now ≡ room.now
  pub empty : page.used ≡ 0

-- a text written on a page, after what it has: as far as there is room, and in the same room
pub record Writes (text : List ℕ) (before after : Page) : Type 0 where
  pub same_room : after.room.ghost_name ≡ before.room.ghost_name
  pub puts : Puts before.room.now before.used text after.used after.room.now
