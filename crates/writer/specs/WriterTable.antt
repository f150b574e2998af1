-- The table of 01 for the writer's answers, each exactly when named, in the writer's order; and its answer to a line. Definitions only.
use Rattle.std.specs.Prelude.{◌≡◌, true, false, List, ℕ, ◌≤◌, ◌<◌, length, None, Some}
use Rattle.refusal.specs.Refusal.{bad_state, no_room, bad_kind, number_too_large, wrong_body_length, byte_not_allowed, too_many_nulls}
use Rattle.lent_buffer.specs.Filled.{Output, used, refused}
use Rattle.line_code.specs.declared.Kind.{Kind}
use Rattle.line_code.specs.LineCode.{kind_number, kind_numbered}
use Rattle.line_number.specs.LineNumber.{greatest}
use Rattle.profile.specs.declared.Profile.{Profile}
use Rattle.profile.specs.Profile.{profile_number, profile_numbered, body_length}
use Rattle.stream.specs.Written.{Sent, Writable, most_nulls, written}
use Rattle.writer.specs.Writer.{room_for, bytes_fit, sent, write_of}

-- to a line of a known profile and kind
pub data LineAnswer (p : Profile) (s : Sent) (room : ℕ) : Output → Type 0 where
  number_too_large_lem : greatest < s.number → LineAnswer p s room (refused number_too_large)
  wrong_body_length_lem : s.number ≤ greatest → (length s.body ≡ body_length p → ⊥) → LineAnswer p s room (refused wrong_body_length)
  byte_not_allowed_lem : s.number ≤ greatest → length s.body ≡ body_length p → bytes_fit p s ≡ false
      → LineAnswer p s room (refused byte_not_allowed)
  too_many_nulls_lem : s.number ≤ greatest → length s.body ≡ body_length p → bytes_fit p s ≡ true → most_nulls < s.nulls
      → LineAnswer p s room (refused too_many_nulls)
  no_room_lem : Writable p s → room < room_for p s.nulls → LineAnswer p s room (refused no_room)
  line : Writable p s → room_for p s.nulls ≤ room → LineAnswer p s room (used (length (written s)) (written s))

-- to any call
pub data WriteAnswer (profile kind number : ℕ) (body : List ℕ) (a b nulls room : ℕ) : Output → Type 0 where
  bad_profile : profile_numbered profile ≡ None → WriteAnswer profile kind number body a b nulls room (refused bad_state)
  bad_kind_lem : (p : Profile) → profile_numbered profile ≡ Some p → kind_numbered kind ≡ None
      → WriteAnswer profile kind number body a b nulls room (refused bad_kind)
  of_line : (p : Profile) (k : Kind) {o : Output} → profile_numbered profile ≡ Some p → kind_numbered kind ≡ Some k
      → LineAnswer p (sent k number body a b nulls) room o
      → WriteAnswer profile kind number body a b nulls room o

-- the writer's answer to a line, given by its profile's and its kind's number
abbrev pub write_sent : Profile → Sent → ℕ → Output
write_sent p s room = write_of (profile_number p) (kind_number s.kind) s.number s.body s.gap_one s.gap_two s.nulls room
