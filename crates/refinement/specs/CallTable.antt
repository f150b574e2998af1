-- The table of 01 for refused calls: a feeding call is refused 11, 10 or 12, in this order, and finish 11, each exactly when named. Definitions only.
use Rattle.std.specs.Prelude.{◌≡◌, true, false, ℕ, ◌≤◌, ◌<◌}
use Rattle.refusal.specs.Refusal.{not_a_nibble, bad_state, no_room}
use Rattle.profile.specs.Profile.{body_length}
use Rattle.reader.specs.declared.Reader.{Reader}
use Rattle.reader_head.specs.Head.{passes}
use Rattle.reader.specs.Reader.{Took, refusing, taking}
use Rattle.reader_laws.specs.Passing.{finished}

-- feeding the input n, with a buffer of so many bytes
pub data FeedTable (r : Reader) (n room : ℕ) : Took → Type 0 where
  -- 11: the reader fails its own test
  bad_state_lem : passes r.head ≡ false → FeedTable r n room (refusing r bad_state)
  -- 10: the input is above 15
  not_a_nibble_lem : passes r.head ≡ true → 15 < n → FeedTable r n room (refusing r not_a_nibble)
  -- 12: the buffer is shorter than the body
  no_room_lem : passes r.head ≡ true → n ≤ 15 → room < body_length r.head.profile → FeedTable r n room (refusing r no_room)
  -- the nibble is taken
  taken : passes r.head ≡ true → n ≤ 15 → body_length r.head.profile ≤ room → FeedTable r n room (taking r n)

-- finish
pub data FinishTable (r : Reader) : Took → Type 0 where
  -- 11 only
  finish_bad : passes r.head ≡ false → FinishTable r (refusing r bad_state)
  -- the last mark is answered
  finish_good : passes r.head ≡ true → FinishTable r (finished r)
