-- A line's blanks, its word, and its number in decimal.
use Rattle.std.specs.Prelude.{Bool, true, false, ◌&&◌, cond, List, [], ◌∷◌, ℕ, ◌+◌, ◌-◌, ◌*◌, eqb, ltb}
use Rattle.text.specs.Text.{space}

-- a space, a tab or a carriage return
unfoldable pub is_blank : ℕ → Bool
is_blank c = cond (eqb c space) true (cond (eqb c 0x09) true (eqb c 0x0D))

-- a text without the blanks that it starts with
abbrev pub past_blanks : List ℕ → List ℕ
past_blanks [] = []
past_blanks (c ∷ line) = cond (is_blank c) (past_blanks line) (c ∷ line)

-- where a word ends: the line does too, or a blank stands there
abbrev pub ends_word : List ℕ → Bool
ends_word [] = true
ends_word (c ∷ line) = is_blank c

-- whether a line's first word is this one
unfoldable pub first_word_is : List ℕ → List ℕ → Bool
first_word_is [] line = ends_word line
first_word_is (w ∷ word) [] = false
first_word_is (w ∷ word) (c ∷ line) = eqb c w && first_word_is word line

-- what stands for a number that is missing, or above 65,535
abbrev pub no_number : ℕ
no_number = 65536

-- a number with one decimal digit more
unfoldable pub digit_onto : ℕ → ℕ → ℕ
digit_onto n c =
    cond (ltb c 0x30) no_number
    (cond (ltb 0x39 c) no_number (cond (ltb 6553 n) no_number (cond (ltb 65535 (10 * n + (c - 0x30))) no_number (10 * n + (c - 0x30)))))

-- the number that digits make, after one that is read
abbrev pub digits_onto : ℕ → List ℕ → ℕ
digits_onto n [] = n
digits_onto n (c ∷ line) = digits_onto (digit_onto n c) line

-- the number that a text is, up to 65,535
abbrev pub number_in : List ℕ → ℕ
number_in [] = no_number
number_in (c ∷ line) = digits_onto 0 (c ∷ line)

-- the value after a name: blanks and a number
abbrev pub value_in : List ℕ → ℕ
value_in [] = no_number
value_in (c ∷ line) = cond (is_blank c) (number_in (past_blanks line)) no_number
