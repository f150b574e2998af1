-- The window of the last eight nibbles, as a number. Definitions only.
use Rattle.std.specs.Prelude.{List, [], ◌∷◌, ℕ, ◌+◌, ◌*◌}

-- nibbles as a number, the newest in its lowest digit
abbrev pub num : List ℕ → ℕ
num [] = 0
num (n ∷ t) = n + 16 * num t
