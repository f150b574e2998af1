-- What each step of the writing does: some bytes' nibbles stored from a place on.
use Rattle.std.specs.Prelude.{◌≡◌, List, [], ◌∷◌, ◌++◌, ℕ, ◌+◌, ◌*◌, ◌≤◌, length, replicate}
use Rattle.std.proofs.lemmas.List.Edits.{sets}
use Rattle.line_code.specs.declared.Kind.{Kind}
use Rattle.line_code.specs.declared.Meaning.TheVariants.{EndOfLine, Line}
use Rattle.line_code.specs.LineCode.{clean_byte}
use Rattle.profile.specs.Profile.{null_byte}
use Rattle.stream.specs.Written.{nibbles}

-- the buffer has room for the nibbles of the bytes from a place on
abbrev pub Room : List ℕ → List ℕ → ℕ → Type 0
Room bytes before at = at + 2 * length bytes ≤ length before

-- the buffer after: the nibbles of the bytes stored from a place on, and nothing else; and the place after them
pub record PutNibbles (bytes before : List ℕ) (at next : ℕ) (after : List ℕ) : Type 0 where
  pub place : next ≡ at + 2 * length bytes
  pub kept : length after ≡ length before
  pub stored : after ≡ sets before at (nibbles bytes)

-- F F F F 0 0 and a code byte, as bytes
abbrev pub mark_bytes : ℕ → List ℕ
mark_bytes code = 0xFF ∷ 0xFF ∷ 0x00 ∷ code ∷ []

-- a line as bytes: of its kind, its two number bytes, its body, its two gap bytes and how many null bytes
abbrev pub line_bytes : Kind → ℕ → ℕ → List ℕ → ℕ → ℕ → ℕ → List ℕ
line_bytes k high low body a b nulls =
    mark_bytes (clean_byte (Line k)) ++ ((high ∷ low ∷ []) ++ (body ++ (mark_bytes (clean_byte EndOfLine) ++ ((a ∷ b ∷ []) ++ replicate nulls null_byte))))
