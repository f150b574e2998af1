-- The words of a command line.
use Rattle.std.specs.Prelude.{Bool, true, false, ◌&&◌, cond, List, [], ◌∷◌, ℕ, ◌+◌, ◌-◌, ◌*◌, eqb, ltb, take}
use Rattle.text.specs.Text.{ascii, digit}
use Rattle.profile.specs.declared.Profile.TheVariants.{VV5404, VV5300}
use Rattle.command_word.specs.declared.Word.{Word}
use Rattle.command_word.specs.declared.Word.TheVariants.{Sensor, OddPixelsFirst, Output, Unknown, Mark, Name}

-- two texts are the same
abbrev pub same : List ℕ → List ℕ → Bool
same [] [] = true
same [] (d ∷ t) = false
same (c ∷ s) [] = false
same (c ∷ s) (d ∷ t) = eqb c d && same s t

-- a number above this takes no digit more: no capture has so many marks
abbrev pub tenth_of_marks : ℕ
tenth_of_marks = 100000000000000000

-- a number with the digits of a text behind it; 0 where another character is among them, or where they are too many
abbrev pub mark_onto : ℕ → List ℕ → ℕ
mark_onto n [] = n
mark_onto n (c ∷ t) =
    cond (ltb c (digit 0)) 0 (cond (ltb (digit 9) c) 0 (cond (ltb tenth_of_marks n) 0 (mark_onto (10 * n + (c - digit 0)) t)))

-- the number that a word of digits is; 0 for any other word
abbrev pub mark_in : List ℕ → ℕ
mark_in t = mark_onto 0 t

-- what a word asks for that names no sensor and is no option: a word of digits is a mark's number, and any other is a name
unfoldable pub name_word : List ℕ → Word
name_word t = cond (eqb (mark_in t) 0) Name (Mark (mark_in t))

-- what a word asks for that names no sensor: one that begins with - and is no option is unknown
unfoldable pub other_word : List ℕ → Word
other_word t =
    cond (same t (ascii "odd-pixels-first")) OddPixelsFirst
    (cond (same t (ascii "-o")) Output (cond (same (take 1 t) (ascii "-")) Unknown (name_word t)))

-- what a word asks for: the VV6404 is of the VV5404's profile
unfoldable pub word_of : List ℕ → Word
word_of t =
    cond (same t (ascii "vv5404")) (Sensor VV5404)
    (cond (same t (ascii "vv6404")) (Sensor VV5404) (cond (same t (ascii "vv5300")) (Sensor VV5300) (other_word t)))
