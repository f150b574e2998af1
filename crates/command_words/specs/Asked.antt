-- What the words of a command line ask for, all together.
--
--     [MARK] [vv5404|vv6404|vv5300] [odd-pixels-first] [-o OUTPUT] [FIRST] [SECOND]
--
-- in any order, and of these what the program takes. Arguments are counted from 1.
use Rattle.std.specs.Prelude.{Bool, true, false, cond, List, [], ◌∷◌, ℕ, ◌+◌, eqb}
use Rattle.profile.specs.declared.Profile.{Profile}
use Rattle.profile.specs.declared.Profile.TheVariants.{VV5404}
use Rattle.command_word.specs.declared.Word.{Word}
use Rattle.command_word.specs.declared.Word.TheVariants.{Sensor, OddPixelsFirst, Output, Unknown, Mark, Name}
use Rattle.command_words.specs.declared.Usage.{Usage}
use Rattle.command_words.specs.declared.Asked.{Asked}
use Rattle.command_word.specs.Word.{word_of}

-- the sensor, and whether it was named; the mark; odd pixels first; the output, and whether its name is awaited; the files; all understood
abbrev asking : Profile → Bool → ℕ → Bool → ℕ → Bool → ℕ → ℕ → Bool → Asked
asking p n m d o w f s u = record { profile = p; named = n; mark = m; odd = d; output = o; awaited = w; first = f; second = s; understood = u }

-- before any word: a VV5404, every mark, standard input, standard output
abbrev pub none_asked : Asked
none_asked = asking VV5404 false 0 false 0 false 0 0 true

-- a word that is not understood
abbrev pub not_understood : Asked → Asked
not_understood a = asking a.profile a.named a.mark a.odd a.output a.awaited a.first a.second false

-- a sensor: once
unfoldable pub sensor_asked : Asked → Profile → Asked
sensor_asked a p =
    cond a.named (not_understood a)
    (asking p true a.mark a.odd a.output a.awaited a.first a.second a.understood)

-- a second file, where the program takes one: once
unfoldable pub second_asked : Usage → Asked → ℕ → Asked
second_asked u a i =
    cond u.second
    (cond (eqb a.second 0)
    (asking a.profile a.named a.mark a.odd a.output a.awaited a.first i a.understood)
    (not_understood a))
    (not_understood a)

-- a name at this place: the first file's, then the second's
unfoldable pub name_asked : Usage → Asked → ℕ → Asked
name_asked u a i =
    cond (eqb a.first 0)
    (asking a.profile a.named a.mark a.odd a.output a.awaited i a.second a.understood)
    (second_asked u a i)

-- a word of digits at this place: a mark's number, once, where the program takes one; else a name
unfoldable pub mark_asked : Usage → Asked → ℕ → ℕ → Asked
mark_asked u a n i =
    cond u.mark
    (cond (eqb a.mark 0)
    (asking a.profile a.named n a.odd a.output a.awaited a.first a.second a.understood)
    (not_understood a))
    (name_asked u a i)

-- odd pixels first, where the program takes that
unfoldable pub odd_asked : Usage → Asked → Asked
odd_asked u a =
    cond u.odd
    (asking a.profile a.named a.mark true a.output a.awaited a.first a.second a.understood)
    (not_understood a)

-- -o, where the program takes it: once; the next word is the output's name
unfoldable pub output_asked : Usage → Asked → Asked
output_asked u a =
    cond u.output
    (cond (eqb a.output 0)
    (asking a.profile a.named a.mark a.odd a.output true a.first a.second a.understood)
    (not_understood a))
    (not_understood a)

-- the output's name at this place
abbrev pub output_named : Asked → ℕ → Asked
output_named a i = asking a.profile a.named a.mark a.odd i false a.first a.second a.understood

-- the word after -o: a name, whatever it asks for elsewhere, but not -o again
abbrev pub after_dash : Asked → Word → ℕ → Asked
after_dash a (Sensor p) i = output_named a i
after_dash a OddPixelsFirst i = output_named a i
after_dash a Output i = not_understood a
after_dash a Unknown i = output_named a i
after_dash a (Mark n) i = output_named a i
after_dash a Name i = output_named a i

-- a word that no -o stands before
abbrev pub free_word : Usage → Asked → Word → ℕ → Asked
free_word u a (Sensor p) i = sensor_asked a p
free_word u a OddPixelsFirst i = odd_asked u a
free_word u a Output i = output_asked u a
free_word u a Unknown i = not_understood a
free_word u a (Mark n) i = mark_asked u a n i
free_word u a Name i = name_asked u a i

-- one word more, at this place
unfoldable pub with_word : Usage → Asked → Word → ℕ → Asked
with_word u a w i = cond a.awaited (after_dash a w i) (free_word u a w i)

-- at the end no name is awaited any more
unfoldable pub end_asked : Asked → Asked
end_asked a = cond a.awaited (not_understood a) a

-- the words from this place on, one after another
abbrev pub with_texts : Usage → Asked → ℕ → List (List ℕ) → Asked
with_texts u a i [] = a
with_texts u a i (t ∷ ts) = with_texts u (with_word u a (word_of t) i) (i + 1) ts

-- what a list of words asks a program for
unfoldable pub asked_by : Usage → List (List ℕ) → Asked
asked_by u ts = end_asked (with_texts u none_asked 1 ts)
