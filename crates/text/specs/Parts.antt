-- What the contracts of the private functions cite besides.
use Rattle.std.specs.Prelude.{Bool, ◌&&◌, ℕ, ltb, leb}

-- a number has more digits than one, and places left for them
abbrev pub is_more : ℕ → ℕ → Bool
is_more left n = ltb 1 left && leb 10 n
