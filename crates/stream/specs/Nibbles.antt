-- Nibbles: numbers of 0 to 15, four wires at a time.
use Rattle.std.specs.Prelude.{Bool, true, ◌&&◌, List, [], ◌∷◌, ℕ, ◌<◌, leb}

-- each is a nibble
pub data AllNibbles : List ℕ → Type 0 where
  no_nibble : AllNibbles []
  and_nibble : {n : ℕ} {t : List ℕ} → n < 16 → AllNibbles t → AllNibbles (n ∷ t)

-- the same, as a test
abbrev pub nibbles_only : List ℕ → Bool
nibbles_only [] = true
nibbles_only (n ∷ w) = leb n 15 && nibbles_only w
