-- A line without its comment and the blanks before it.
use Rattle.std.specs.Prelude.{Bool, true, false, cond, List, [], ◌∷◌, ℕ, zero, suc, eqb, take}
use Rattle.named_value.specs.Number.{is_blank}

-- the character that starts a comment
abbrev pub hash : ℕ
hash = 0x23

-- a blank counts where something follows that counts
abbrev pub counted : Bool → ℕ → ℕ
counted true zero = 0
counted true (suc n) = suc (suc n)
counted false n = suc n

-- how many characters stand up to the last that is no blank, before a comment
abbrev pub bare_length : List ℕ → ℕ
bare_length [] = 0
bare_length (c ∷ line) = cond (eqb c hash) 0 (counted (is_blank c) (bare_length line))

-- a line without its comment and the blanks before that
abbrev pub bare : List ℕ → List ℕ
bare line = take (bare_length line) line
