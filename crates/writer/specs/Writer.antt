-- The writer (01, the writer's paragraph): one line, its end, its two gap bytes and its null bytes, into a lent buffer of nibbles.
use Rattle.std.specs.Prelude.{Bool, ◌&&◌, List, ℕ, ◌+◌, ◌*◌, eqb, leb, length, None, Option, Some}
use Rattle.refusal.specs.Refusal.{bad_state, no_room, bad_kind, number_too_large, wrong_body_length, byte_not_allowed, too_many_nulls}
use Rattle.lent_buffer.specs.Filled.{Output, used, refused, require}
use Rattle.line_code.specs.declared.Kind.{Kind}
use Rattle.line_code.specs.LineCode.{kind_numbered}
use Rattle.line_number.specs.LineNumber.{greatest}
use Rattle.profile.specs.declared.Profile.{Profile}
use Rattle.profile.specs.Profile.{profile_numbered, body_length}
use Rattle.profile.specs.Layout.{rules, fits, gap_fits}
use Rattle.stream.specs.Written.{Sent, most_nulls, written}

-- the nibbles around a body: two marks of eight, two number bytes and two gap bytes
abbrev pub around : ℕ
around = 24

-- the nibbles that a line needs: 736 + 2k or 360 + 2k
abbrev pub room_for : Profile → ℕ → ℕ
room_for p k = around + 2 * body_length p + 2 * k

-- every byte of the body and of the gap is allowed
abbrev pub bytes_fit : Profile → Sent → Bool
bytes_fit p s = fits (rules p s.kind) s.body && gap_fits p s.kind s.gap_one s.gap_two

-- 14, 15, 16, 17, 12, or the line: of a profile and what it is given
abbrev pub write_line : Profile → Sent → ℕ → Output
write_line p s room =
    require (leb s.number greatest) number_too_large
    (require (eqb (length s.body) (body_length p)) wrong_body_length
    (require (bytes_fit p s) byte_not_allowed
    (require (leb s.nulls most_nulls) too_many_nulls (require (leb (room_for p s.nulls) room) no_room (used (length (written s)) (written s))))))

-- what is given, as one record
abbrev pub sent : Kind → ℕ → List ℕ → ℕ → ℕ → ℕ → Sent
sent k number body a b nulls = record { kind = k; number = number; body = body; gap_one = a; gap_two = b; nulls = nulls }

-- 13, or by the kind
abbrev pub write_kind : Profile → Option Kind → ℕ → List ℕ → ℕ → ℕ → ℕ → ℕ → Output
write_kind p None number body a b nulls room = refused bad_kind
write_kind p (Some k) number body a b nulls room = write_line p (sent k number body a b nulls) room

-- 11, or by the profile
abbrev pub write_profile : Option Profile → ℕ → ℕ → List ℕ → ℕ → ℕ → ℕ → ℕ → Output
write_profile None kind number body a b nulls room = refused bad_state
write_profile (Some p) kind number body a b nulls room = write_kind p (kind_numbered kind) number body a b nulls room

-- what the writer answers: profile and kind by their numbers, number, body, the two gap bytes, how many null bytes, and the room
unfoldable pub write_of : ℕ → ℕ → ℕ → List ℕ → ℕ → ℕ → ℕ → ℕ → Output
write_of profile kind number body a b nulls room = write_profile (profile_numbered profile) kind number body a b nulls room
