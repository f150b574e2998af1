-- Laws of the rows: those of the next number are read from its differences' bytes and are short; number after number they are all rows.
use Rattle.std.specs.Prelude.{◌≡◌, refl, Bool, true, false, cond, List, [], ◌∷◌, ◌++◌, ℕ, zero, suc, ◌+◌, ◌*◌, ◌≤◌, ◌<◌, eqb, leb, ltb, length, drop}
use Rattle.std.proofs.Common.{sym, ap, subst, ◌∙◌, append_assoc, arith, ltb-true, ltb-false, leb-true, leb-false, eqb-true, length-append, length-drop, drop_of_length-le, get_or-drop, drop-drop}
use Rattle.std.proofs.lemmas.Bool.{eqb-false}
use Rattle.text.specs.Text.{ascii, decimal}
use Rattle.text.specs.TextLaws.{decimal_short}
use Rattle.profile.specs.Profile.{width}
use Rattle.line_records.specs.Lines.{FullLine, line_size, no_line, front_line, Next, none, some}
use Rattle.line_records.proofs.LinesLaws.{body_length_lem, lent_from, lent_from_is}
use Rattle.diff_records.specs.Difference.{Difference, only_first, only_second, both_kinds, both_bytes, unless, places_from, between_lines, encoded_all}
use Rattle.diff_records.specs.Next.{next_number, next_differences, unequal, different}
use Rattle.diff_records.proofs.DifferenceLaws.{first_size, second_size, between_size}
use Rattle.diff_records.proofs.NextLaws.{next_line_lem, lesser_line, next_first, next_second, next_both, next_none, Stepped, stepped}
use Rattle.diff_records.specs.ReadBack.{front_of, front_size, differences_in}
use Rattle.diff_lines_laws.specs.Applied.{Each, done, also}
use Rattle.diff_lines_laws.specs.BytesLaws.{SizedIn, bytes_back, sized_between}
use Rattle.diff_lines_laws.proofs.CompareLaws.{AllBytes}
use Rattle.diff_change.specs.Front.{change_of}
use Rattle.diff_change.specs.FrontLaws.{differences_step}
use Rattle.diff_change_row.specs.ChangeRow.{change_row, line_word, kind_word, kinds_words, pair_words}
use Rattle.diff_rows.specs.Rows.{rows_text, all_rows, passed, pieces, rows_end_to_end}

rows_append : (ds es : List Difference) → rows_text (ds ++ es) ≡ rows_text ds ++ rows_text es
rows_append [] es = refl
rows_append (d ∷ ds) es =
    ap (λ (t : List ℕ). change_row (change_of d) ++ t) (rows_append ds es) ∙ sym (append_assoc (change_row (change_of d)) (rows_text ds) (rows_text es))

-- What is known of the next number's differences, by whose number is the least.

by_least : (P : List Difference → Type 0) {x y : List ℕ} {n m : ℕ} (p : Next x n) (q : Next y m)
    → (line_size ≤ length x → P (only_first (front_line x) ∷ [])) → (line_size ≤ length y → P (only_second (front_line y) ∷ []))
    → (line_size ≤ length x → line_size ≤ length y → P (between_lines (front_line x) (front_line y))) → P [] → P (next_differences x y)
by_least P {x} {y} {n} {m} p q f g h e = by (ltb n m) (ltb m n) (ltb n no_line) refl refl refl
  where
    by : (s t u : Bool) → ltb n m ≡ s → ltb m n ≡ t → ltb n no_line ≡ u → P (next_differences x y)
    by true t u a b c =
        let l : n < m = ltb-true n m a in
        subst P (sym (next_first p q l)) (f (lesser_line p q l).0)
    by false true u a b c =
        let l : m < n = ltb-true m n b in
        subst P (sym (next_second p q l)) (g (lesser_line q p l).0)
    by false false true a b c =
        let k : n ≤ m = ltb-false m n b in
        let l : m ≤ n = ltb-false n m a in
        let i : n < no_line = ltb-true n no_line c in
        subst P (sym (next_both p q k l i)) (h (next_line_lem p i).0 (next_line_lem q (omega arith)).0)
    by false false false a b c = subst P (sym (next_none p q (ltb-false m n b) (ltb-false n m a) (ltb-false n no_line c))) e

-- their bytes tell them
pub next_back : {x y : List ℕ} {n m : ℕ} → Next x n → Next y m → differences_in (encoded_all (next_differences x y)) ≡ next_differences x y
next_back {x} {y} p q =
    bytes_back
    (by_least (Each SizedIn) p q (λ h. also {d = only_first (front_line x)} (body_length_lem x h) done) (λ h. also {d = only_second (front_line y)} (body_length_lem y h) done)
    (λ h g. sized_between (front_line x) (front_line y)) done)

-- their bytes are at most those of both kinds and every place
few_different : (xs ys : List ℕ) → different xs ys ≤ length xs
few_different [] ys = omega arith
few_different (x ∷ xs) [] = omega arith
few_different (x ∷ xs) (y ∷ ys) = by (eqb x y) (few_different xs ys)
  where
    by : (t : Bool) → different xs ys ≤ length xs → cond t 0 1 + different xs ys ≤ suc (length xs)
    by true h = omega arith
    by false h = omega arith

one_unequal : (x y : ℕ) → unequal x y ≤ 1
one_unequal x y = by (eqb x y)
  where
    by : (t : Bool) → cond t 0 1 ≤ 1
    by true = omega arith
    by false = omega arith

pub next_few : {x y : List ℕ} {n m : ℕ} → Next x n → Next y m → length (encoded_all (next_differences x y)) ≤ 2497
next_few {x} {y} p q =
    by_least (λ (ds : List Difference). length (encoded_all ds) ≤ 2497) p q
    (λ h. omega (arith, first_size (front_line x) (body_length_lem x h)))
    (λ h. omega (arith, second_size (front_line y) (body_length_lem y h)))
    (λ h g. omega (arith, between_size (front_line x) (front_line y), one_unequal (front_line x).kind (front_line y).kind, few_different (front_line x).body (front_line y).body, body_length_lem x h))
    (omega arith)

-- Rows are short: a number's have room in a buffer of 36,414.

kind_short : (k : ℕ) → length (kind_word k) ≤ 20
unfolding kind_word
kind_short k = by (eqb k 1) (eqb k 2) (eqb k 3) (eqb k 4) (eqb k 5)
  where
    by : (s t u v w : Bool)
        → length (cond s (ascii "blank") (cond t (ascii "black") (cond u (ascii "visible") (cond v (ascii "start of frame") (cond w (ascii "end of frame") (decimal k)))))) ≤ 20
    by true t u v w = omega arith
    by false true u v w = omega arith
    by false false true v w = omega arith
    by false false false true w = omega arith
    by false false false false true = omega arith
    by false false false false false = decimal_short k

row_short : (d : Difference) → length (change_row (change_of d)) ≤ 102
unfolding change_row line_word kinds_words pair_words
row_short (only_first l) = simp length-append (omega (arith, decimal_short l.number))
row_short (only_second l) = simp length-append (omega (arith, decimal_short l.number))
row_short (both_kinds n k m) = simp length-append (omega (arith, decimal_short n, kind_short k, kind_short m))
row_short (both_bytes n p x y) = simp length-append (omega (arith, decimal_short n, decimal_short p, decimal_short x, decimal_short y))

rows_short : (ds : List Difference) → length (rows_text ds) ≤ 102 * length ds
rows_short [] = omega arith
rows_short (d ∷ ds) = simp (length-append (change_row (change_of d)) (rows_text ds)) (omega (arith, row_short d, rows_short ds))

places_few : (n p : ℕ) (xs ys : List ℕ) → length (places_from n p xs ys) ≤ length xs
places_few n p [] ys = omega arith
places_few n p (x ∷ xs) [] = omega arith
places_few n p (x ∷ xs) (y ∷ ys) = by (eqb x y) (places_few n (suc p) xs ys)
  where
    by : (t : Bool) → length (places_from n (suc p) xs ys) ≤ length xs → length (unless t (both_bytes n p x y) (places_from n (suc p) xs ys)) ≤ suc (length xs)
    by true h = omega arith
    by false h = omega arith

between_few : (a b : FullLine) → length a.body ≡ width → length (between_lines a b) ≤ 1 + width
unfolding between_lines
between_few a b e = by (eqb a.kind b.kind) (places_few a.number 0 a.body b.body)
  where
    by : (t : Bool) → length (places_from a.number 0 a.body b.body) ≤ length a.body
        → length (unless t (both_kinds a.number a.kind b.kind) (places_from a.number 0 a.body b.body)) ≤ 1 + width
    by true h = omega (arith, h, e)
    by false h = omega (arith, h, e)

pub next_short : {x y : List ℕ} {n m : ℕ} → Next x n → Next y m → length (rows_text (next_differences x y)) ≤ 36414
next_short {x} {y} p q =
    by_least (λ (ds : List Difference). length (rows_text ds) ≤ 36414) p q
    (λ h. omega (arith, rows_short (only_first (front_line x) ∷ [])))
    (λ h. omega (arith, rows_short (only_second (front_line y) ∷ [])))
    (λ h g. omega (arith, rows_short (between_lines (front_line x) (front_line y)), between_few (front_line x) (front_line y) (body_length_lem x h)))
    (omega arith)

-- The rows of some bytes, one after another.

pub rows_at : (records : List ℕ) (i : ℕ) → i < length records
    → rows_text (differences_in (drop i records))
    ≡ change_row (change_of (front_of (lent_from records i))) ++ rows_text (differences_in (drop (i + front_size (lent_from records i)) records))
rows_at records i h =
    ap rows_text (differences_step (drop i records) (omega (arith, length-drop i records)))
    ∙ ap (λ (l : List ℕ). change_row (change_of (front_of l)) ++ rows_text (differences_in (drop (front_size l) (drop i records)))) (sym (lent_from_is records i))
    ∙ ap (λ (l : List ℕ). change_row (change_of (front_of (lent_from records i))) ++ rows_text (differences_in l)) (drop-drop (front_size (lent_from records i)) i records)

pub rows_over : (records : List ℕ) (i : ℕ) → length records ≤ i → rows_text (differences_in (drop i records)) ≡ []
rows_over records i h = ap (λ (l : List ℕ). rows_text (differences_in l)) (drop_of_length-le records {i = i} h)

-- All rows.

bytes_next : (x : List ℕ) → AllBytes x → Next x (next_number x)
unfolding next_number front_line
bytes_next x b = by (leb line_size (length x)) refl
  where
    by : (t : Bool) → leb line_size (length x) ≡ t → Next x (cond t (front_line x).number no_line)
    by true e = some (leb-true line_size (length x) e) refl (omega (arith, b 1, b 2))
    by false e = none (leb-false line_size (length x) e)

bytes_drop : (x : List ℕ) (k : ℕ) → AllBytes x → AllBytes (drop k x)
bytes_drop x k b i = subst (λ (v : ℕ). v < 256) (sym (get_or-drop k x i 0)) (b (k + i))

-- the law: the rows of one number after another, from as many numbers as the lists may hold, are all rows
pub rows_end_to_end_lem : (turns : ℕ) (x y : List ℕ) → AllBytes x → AllBytes y → length x + length y ≤ turns → rows_end_to_end (pieces turns x y) ≡ all_rows x y
rows_end_to_end_lem zero x y b c h =
    let s = stepped x y (next_number x) (next_number y) (bytes_next x b) (bytes_next y c) in
    sym (ap rows_text (s.ends (omega (arith, s.first_in, s.second_in))))
rows_end_to_end_lem (suc turns) x y b c h =
    by (eqb (passed x y + passed y x) 0) refl
    (λ g. rows_end_to_end_lem turns (drop (passed x y) x) (drop (passed y x) y) (bytes_drop x (passed x y) b) (bytes_drop y (passed y x) c) g)
  where
    s : Stepped x y (next_number x) (next_number y)
    s = stepped x y (next_number x) (next_number y) (bytes_next x b) (bytes_next y c)

    onward : List ℕ
    onward = all_rows (drop (passed x y) x) (drop (passed y x) y)

    by : (t : Bool) → eqb (passed x y + passed y x) 0 ≡ t
        → (length (drop (passed x y) x) + length (drop (passed y x) y) ≤ turns → rows_end_to_end (pieces turns (drop (passed x y) x) (drop (passed y x) y)) ≡ onward)
        → rows_end_to_end (cond t [] (rows_text (next_differences x y) ∷ pieces turns (drop (passed x y) x) (drop (passed y x) y))) ≡ all_rows x y
    by true e rest = sym (ap rows_text (s.ends (eqb-true (passed x y + passed y x) 0 e)))
    by false e rest =
        let fewer = rest (omega (arith, h, eqb-false (passed x y + passed y x) 0 e, s.first_in, s.second_in, length-drop (passed x y) x, length-drop (passed y x) y)) in
        ap (λ (t : List ℕ). rows_text (next_differences x y) ++ t) fewer
        ∙ sym (ap rows_text s.gives ∙ rows_append (next_differences x y) _)
