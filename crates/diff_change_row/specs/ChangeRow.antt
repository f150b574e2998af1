-- A difference as a row of text.
use Rattle.std.specs.Prelude.{cond, List, ◌++◌, ℕ, eqb}
use Rattle.text.specs.Text.{ascii, decimal}
use Rattle.line_code.specs.declared.Kind.TheVariants.{BL, BK, VL, SOF, EOF}
use Rattle.line_code.specs.LineCode.{kind_number}
use Rattle.diff_change.specs.declared.Change.{Change}
use Rattle.diff_change.specs.declared.Change.TheVariants.{First, Second, Kinds, Bytes}

-- a line's number, in words
unfoldable pub line_word : ℕ → List ℕ
line_word n = ascii "line " ++ decimal n

-- the two numbers of a line, in the first capture and in the second
unfoldable pub pair_words : ℕ → ℕ → List ℕ
pair_words x y = ascii ": " ++ (decimal x ++ (ascii ", then " ++ (decimal y ++ ascii "\n")))

-- a kind in words, or any other number as it is
unfoldable pub kind_word : ℕ → List ℕ
kind_word k =
    cond (eqb k (kind_number BL)) (ascii "blank")
    (cond (eqb k (kind_number BK)) (ascii "black")
    (cond (eqb k (kind_number VL)) (ascii "visible")
    (cond (eqb k (kind_number SOF)) (ascii "start of frame") (cond (eqb k (kind_number EOF)) (ascii "end of frame") (decimal k)))))

-- the two kinds of a line, in the first capture and in the second
unfoldable pub kinds_words : ℕ → ℕ → List ℕ
kinds_words x y = ascii ": " ++ (kind_word x ++ (ascii ", then " ++ (kind_word y ++ ascii "\n")))

-- the row of a difference
unfoldable pub change_row : Change → List ℕ
change_row (First n) = line_word n ++ ascii " only in the first capture\n"
change_row (Second n) = line_word n ++ ascii " only in the second capture\n"
change_row (Kinds n k m) = line_word n ++ (ascii " kind" ++ kinds_words k m)
change_row (Bytes n p x y) = line_word n ++ (ascii " pixel " ++ (decimal p ++ pair_words x y))
