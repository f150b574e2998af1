-- Texts that end in a text. Definitions only.
use Rattle.std.specs.Prelude.{◌≡◌, List, ◌++◌, ℕ}

-- a text ends so
abbrev pub EndsIn : List ℕ → List ℕ → Type 0
EndsIn text last = (above : List ℕ) × (text ≡ above ++ last)
