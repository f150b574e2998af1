-- Laws of differences: one step of the walk of two lists; the bytes of what differs, a part after another, and how many they are.
use Rattle.std.specs.Prelude.{◌≡◌, refl, Bool, true, false, cond, List, [], ◌∷◌, ◌++◌, ℕ, suc, ◌+◌, ◌*◌, ◌/◌, ◌%◌, ◌≤◌, ◌<◌, eqb, length, get_or, take, drop}
use Rattle.std.proofs.Common.{sym, ap, ◌∙◌, append_assoc, append-nil, arith, add-one, ne_eqb, eq-eqb, lt-ltb, le-ltb, drop-cons}
use Rattle.profile.specs.Profile.{width}
use Rattle.line_records.specs.Lines.{FullLine, head_size, front_line}
use Rattle.diff_records.specs.Difference.{Difference, only_first, only_second, both_kinds, both_bytes, unless, places_from, between_lines, differences, encoded, encoded_all}
use Rattle.diff_records.specs.Next.{unequal, different}

-- Two lists that start with a line.

module _ (a b : FullLine) (ls ms : List FullLine) where
  pub step_first : a.number < b.number → differences (a ∷ ls) (b ∷ ms) ≡ only_first a ∷ differences ls (b ∷ ms)
  step_first h = simp (lt-ltb _ _ h)

  pub step_second : b.number < a.number → differences (a ∷ ls) (b ∷ ms) ≡ only_second b ∷ differences (a ∷ ls) ms
  step_second h =
      let g : b.number ≤ a.number = omega arith in
      simp (le-ltb _ _ g, lt-ltb _ _ h)

  pub step_both : a.number ≡ b.number → differences (a ∷ ls) (b ∷ ms) ≡ between_lines a b ++ differences ls ms
  step_both h =
      let f : b.number ≤ a.number = omega arith in
      let g : a.number ≤ b.number = omega arith in
      simp (le-ltb _ _ f, le-ltb _ _ g)

-- The bytes, a part after another.

pub encoded_append : (ds es : List Difference) → encoded_all (ds ++ es) ≡ encoded_all ds ++ encoded_all es
encoded_append [] es = refl
encoded_append (d ∷ ds) es = ap (λ (l : List ℕ). encoded d ++ l) (encoded_append ds es) ∙ sym (append_assoc (encoded d) (encoded_all ds) (encoded_all es))

-- one difference, or none, before others
unless_append : (t : Bool) (d : Difference) (ds : List Difference) → encoded_all (unless t d ds) ≡ encoded_all (unless t d []) ++ encoded_all ds
unless_append true d ds = refl
unless_append false d ds = ap (λ (l : List ℕ). l ++ encoded_all ds) (sym (append-nil (encoded d)))

pub kinds_are : (n x y : ℕ) → (x ≡ y → ⊥) → encoded_all (unless (eqb x y) (both_kinds n x y) []) ≡ 3 ∷ n / 256 ∷ n % 256 ∷ x ∷ y ∷ []
unfolding encoded
kinds_are n x y h = simp (ne_eqb x y h)

pub place_is : (n p x y : ℕ) → (x ≡ y → ⊥) → encoded_all (unless (eqb x y) (both_bytes n p x y) []) ≡ 4 ∷ n / 256 ∷ n % 256 ∷ p / 256 ∷ p % 256 ∷ x ∷ y ∷ []
unfolding encoded
place_is n p x y h = simp (ne_eqb x y h)

pub none_is : (x y : ℕ) (d : Difference) → x ≡ y → encoded_all (unless (eqb x y) d []) ≡ []
none_is x y d h = simp (eq-eqb x y h)

module _ (xs ys : List ℕ) (p : ℕ) (h : p < length xs) (g : p < length ys) where
  -- the places from one on, by the bytes there
  pub places_step : (n : ℕ) → encoded_all (places_from n p (drop p xs) (drop p ys))
      ≡ encoded_all (unless (eqb (get_or xs p 0) (get_or ys p 0)) (both_bytes n p (get_or xs p 0) (get_or ys p 0)) []) ++ encoded_all (places_from n (p + 1) (drop (p + 1) xs) (drop (p + 1) ys))
  places_step n =
      ap (λ (l : List ℕ). encoded_all (places_from n p l (drop p ys))) (drop-cons xs p 0 h)
      ∙ ap (λ (l : List ℕ). encoded_all (places_from n p (get_or xs p 0 ∷ drop (suc p) xs) l)) (drop-cons ys p 0 g)
      ∙ unless_append (eqb (get_or xs p 0) (get_or ys p 0)) (both_bytes n p (get_or xs p 0) (get_or ys p 0)) (places_from n (suc p) (drop (suc p) xs) (drop (suc p) ys))
      ∙ ap (λ (k : ℕ). encoded_all (unless (eqb (get_or xs p 0) (get_or ys p 0)) (both_bytes n p (get_or xs p 0) (get_or ys p 0)) []) ++ encoded_all (places_from n k (drop k xs) (drop k ys))) (sym (add-one p))

  pub different_step : different (drop p xs) (drop p ys) ≡ unequal (get_or xs p 0) (get_or ys p 0) + different (drop (p + 1) xs) (drop (p + 1) ys)
  different_step =
      ap (λ (l : List ℕ). different l (drop p ys)) (drop-cons xs p 0 h)
      ∙ ap (different (get_or xs p 0 ∷ drop (suc p) xs)) (drop-cons ys p 0 g)
      ∙ ap (λ (k : ℕ). unequal (get_or xs p 0) (get_or ys p 0) + different (drop k xs) (drop k ys)) (sym (add-one p))

-- what differs between the lines that two lists start with: the kinds, then the places
pub between_is : (x y : List ℕ) (n : ℕ) → n ≡ (front_line x).number → encoded_all (between_lines (front_line x) (front_line y))
    ≡ encoded_all (unless (eqb (get_or x 0 0) (get_or y 0 0)) (both_kinds n (get_or x 0 0) (get_or y 0 0)) [])
    ++ encoded_all (places_from n 0 (take width (drop head_size x)) (take width (drop head_size y)))
unfolding between_lines front_line
between_is x y n h =
    unless_append (eqb (get_or x 0 0) (get_or y 0 0)) _ _
    ∙ ap (λ (k : ℕ). encoded_all (unless (eqb (get_or x 0 0) (get_or y 0 0)) (both_kinds k (get_or x 0 0) (get_or y 0 0)) []) ++ encoded_all (places_from k 0 (take width (drop head_size x)) (take width (drop head_size y)))) (sym h)

-- How many bytes.

pub first_size : (l : FullLine) → length l.body ≡ width → length (encoded_all (only_first l ∷ [])) ≡ 360
unfolding encoded
first_size l h = ap length (append-nil (encoded (only_first l))) ∙ omega (arith, h)

pub second_size : (l : FullLine) → length l.body ≡ width → length (encoded_all (only_second l ∷ [])) ≡ 360
unfolding encoded
second_size l h = ap length (append-nil (encoded (only_second l))) ∙ omega (arith, h)

places_size : (n p : ℕ) (xs ys : List ℕ) → length (encoded_all (places_from n p xs ys)) ≡ 7 * different xs ys
unfolding encoded
places_size n p [] ys = refl
places_size n p (x ∷ xs) [] = refl
places_size n p (x ∷ xs) (y ∷ ys) = by (eqb x y) (places_size n (suc p) xs ys)
  where
    by : (t : Bool) → length (encoded_all (places_from n (suc p) xs ys)) ≡ 7 * different xs ys
        → length (encoded_all (unless t (both_bytes n p x y) (places_from n (suc p) xs ys))) ≡ 7 * (cond t 0 1 + different xs ys)
    by true r = r ∙ omega arith
    by false r = omega arith

pub between_size : (a b : FullLine) → length (encoded_all (between_lines a b)) ≡ 5 * unequal a.kind b.kind + 7 * different a.body b.body
unfolding between_lines encoded
between_size a b = by (eqb a.kind b.kind)
  where
    by : (t : Bool) → length (encoded_all (unless t (both_kinds a.number a.kind b.kind) (places_from a.number 0 a.body b.body))) ≡ 5 * cond t 0 1 + 7 * different a.body b.body
    by true = omega (arith, places_size a.number 0 a.body b.body)
    by false = omega (arith, places_size a.number 0 a.body b.body)
