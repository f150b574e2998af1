-- One step of the walk of two lists as they are lent: the differences are those of the next number, then those of what is left.
use Rattle.std.specs.Prelude.{◌≡◌, refl, Bool, true, false, ℕ, ◌+◌, ◌-◌, ◌≤◌, ◌<◌, ltb, length, drop}
use Rattle.std.proofs.Common.{sym, ◌∙◌, length-append, length-drop}
use Rattle.std.proofs.Math.Path.{ap}
use mathlib.Core.List.{List, [], ◌∷◌, ◌++◌}
use native.Mathlib.Omega.{arith}
use borrow.Author.Tests.{lt-ltb, le-ltb, le-leb, lt-leb, ltb-true, ltb-false}
use Rattle.std.proofs.Math.Seq.{drop-drop}
use Rattle.line_records.specs.Lines.{FullLine, line_size, no_line, front_line, full_lines, Next, none, some}
use Rattle.line_records.proofs.LinesLaws.{lines_step, lines_none, lent_from, lent_from_is}
use Rattle.diff_records.specs.Difference.{Difference, only_first, only_second, between_lines, differences, encoded_all}
use Rattle.diff_records.proofs.DifferenceLaws.{step_first, step_second, step_both, encoded_append}
use Rattle.diff_records.specs.Next.{next_number, of_least, next_differences, how_far}

-- The next number.

pub next_is : {x : List ℕ} {n : ℕ} → Next x n → next_number x ≡ n
unfolding next_number
next_is {x} (none h) = simp (lt-leb line_size (length x) h)
next_is {x} (some h e l) = simp (le-leb line_size (length x) h, e)

next_most : {x : List ℕ} {n : ℕ} → Next x n → n ≤ no_line
next_most (none h) = omega arith
next_most (some h e l) = omega arith

-- a number that two bytes hold is that of a line
pub next_line_lem : {x : List ℕ} {n : ℕ} → Next x n → n < no_line → (line_size ≤ length x) × (n ≡ (front_line x).number) × (n < no_line)
next_line_lem (none h) l = absurd (omega arith)
next_line_lem (some h e l) k = (h, e, l)

-- and so is one smaller than another
pub lesser_line : {x y : List ℕ} {n m : ℕ} → Next x n → Next y m → n < m → (line_size ≤ length x) × (n ≡ (front_line x).number) × (n < no_line)
lesser_line p q h = next_line_lem p (omega (arith, next_most q))

-- The differences of the least number, by which it is.

module _ {x y : List ℕ} {n m : ℕ} (p : Next x n) (q : Next y m) where
  pub next_first : n < m → next_differences x y ≡ only_first (front_line x) ∷ []
  unfolding of_least
  next_first h = simp (next_is p, next_is q, lt-ltb n m h)

  pub next_second : m < n → next_differences x y ≡ only_second (front_line y) ∷ []
  unfolding of_least
  next_second h =
      let g : m ≤ n = omega arith in
      simp (next_is p, next_is q, le-ltb n m g, lt-ltb m n h)

  pub next_both : n ≤ m → m ≤ n → n < no_line → next_differences x y ≡ between_lines (front_line x) (front_line y)
  unfolding of_least
  next_both f g h = simp (next_is p, next_is q, le-ltb n m g, le-ltb m n f, lt-ltb n no_line h)

  pub next_none : n ≤ m → m ≤ n → no_line ≤ n → next_differences x y ≡ []
  unfolding of_least
  next_none f g h = simp (next_is p, next_is q, le-ltb n m g, le-ltb m n f, le-ltb n no_line h)

pub far : (n m : ℕ) → n ≤ m → n < no_line → how_far n m ≡ line_size
unfolding how_far
far n m h l = simp (le-leb n m h, lt-ltb n no_line l)

pub not_far : (n m : ℕ) → m < n → how_far n m ≡ 0
unfolding how_far
not_far n m h = simp (lt-leb n m h)

pub none_far : (n m : ℕ) → n ≤ m → no_line ≤ n → how_far n m ≡ 0
unfolding how_far
none_far n m g h = simp (le-leb n m g, le-ltb n no_line h)

-- A step.

-- what the differences are, by those of the next number and what is left of each list
abbrev after : List ℕ → List ℕ → ℕ → ℕ → List Difference
after x y i j = differences (full_lines (drop i x)) (full_lines (drop j y))

-- what one step past the least number leaves to do
pub record Stepped (x y : List ℕ) (n m : ℕ) : Type 0 where
  pub gives : differences (full_lines x) (full_lines y) ≡ next_differences x y ++ after x y (how_far n m) (how_far m n)
  pub ends : how_far n m + how_far m n ≡ 0 → differences (full_lines x) (full_lines y) ≡ []
  pub first_in : how_far n m ≤ length x
  pub second_in : how_far m n ≤ length y

lines_both : (x y : List ℕ) {ls ms : List FullLine} → full_lines x ≡ ls → full_lines y ≡ ms → differences (full_lines x) (full_lines y) ≡ differences ls ms
lines_both x y {ls} {ms} p q = ap (λ (l : List FullLine). differences l (full_lines y)) p ∙ ap (differences ls) q

first_rest : (x y : List ℕ) {n m : ℕ} → line_size ≤ length x → n ≡ (front_line x).number → Next y m → n < m
    → differences (full_lines x) (full_lines y) ≡ only_first (front_line x) ∷ after x y line_size 0
first_rest x y p e (none q) h =
    lines_both x y (lines_step x p) (lines_none y q)
    ∙ ap (λ (l : List FullLine). only_first (front_line x) ∷ differences (full_lines (drop line_size x)) l) (sym (lines_none y q))
first_rest x y p e (some q f k) h =
    lines_both x y (lines_step x p) (lines_step y q)
    ∙ step_first (front_line x) (front_line y) (full_lines (drop line_size x)) (full_lines (drop line_size y)) (omega arith)
    ∙ ap (λ (l : List FullLine). only_first (front_line x) ∷ differences (full_lines (drop line_size x)) l) (sym (lines_step y q))

second_rest : (x y : List ℕ) {n m : ℕ} → line_size ≤ length y → m ≡ (front_line y).number → Next x n → m < n
    → differences (full_lines x) (full_lines y) ≡ only_second (front_line y) ∷ after x y 0 line_size
second_rest x y q e (none p) h =
    lines_both x y (lines_none x p) (lines_step y q)
    ∙ ap (λ (l : List FullLine). only_second (front_line y) ∷ differences l (full_lines (drop line_size y))) (sym (lines_none x p))
second_rest x y q e (some p f k) h =
    lines_both x y (lines_step x p) (lines_step y q)
    ∙ step_second (front_line x) (front_line y) (full_lines (drop line_size x)) (full_lines (drop line_size y)) (omega arith)
    ∙ ap (λ (l : List FullLine). only_second (front_line y) ∷ differences l (full_lines (drop line_size y))) (sym (lines_step x p))

none_left : (x y : List ℕ) {n m : ℕ} → Next x n → Next y m → n ≤ m → no_line ≤ n → differences (full_lines x) (full_lines y) ≡ []
none_left x y (none p) (none q) e l = lines_both x y (lines_none x p) (lines_none y q)
none_left x y (none p) (some q f k) e l = absurd (omega arith)
none_left x y (some p f k) q e l = absurd (omega arith)

-- by which number is the least
module _ (x y : List ℕ) (n m : ℕ) (p : Next x n) (q : Next y m) where
  joined : {ds : List Difference} {i j : ℕ} → next_differences x y ≡ ds → how_far n m ≡ i → how_far m n ≡ j
      → next_differences x y ++ after x y (how_far n m) (how_far m n) ≡ ds ++ after x y i j
  joined e f g = simp (e, f, g)

  on_first : n < m → Stepped x y n m
  on_first h =
      let a = lesser_line p q h in
      let f = far n m (omega arith) a.2 in
      let g = not_far m n h in
      record {
        gives = first_rest x y a.0 a.1 q h ∙ sym (joined (next_first p q h) f g);
        ends = λ e. absurd (omega (arith, f, e));
        first_in = omega (arith, f, a.0);
        second_in = omega (arith, g);
      }

  on_second : m < n → Stepped x y n m
  on_second h =
      let b = lesser_line q p h in
      let f = not_far n m h in
      let g = far m n (omega arith) b.2 in
      record {
        gives = second_rest x y b.0 b.1 p h ∙ sym (joined (next_second p q h) f g);
        ends = λ e. absurd (omega (arith, g, e));
        first_in = omega (arith, f);
        second_in = omega (arith, g, b.0);
      }

  on_both : n ≤ m → m ≤ n → n < no_line → Stepped x y n m
  on_both h k l =
      let a = next_line_lem p l in
      let b = next_line_lem q (omega arith) in
      let f = far n m h l in
      let g = far m n k b.2 in
      record {
        gives =
            lines_both x y (lines_step x a.0) (lines_step y b.0)
            ∙ step_both (front_line x) (front_line y) (full_lines (drop line_size x)) (full_lines (drop line_size y)) (omega (arith, a.1, b.1))
            ∙ sym (joined (next_both p q h k l) f g);
        ends = λ e. absurd (omega (arith, f, e));
        first_in = omega (arith, f, a.0);
        second_in = omega (arith, g, b.0);
      }

  on_none : n ≤ m → m ≤ n → no_line ≤ n → Stepped x y n m
  on_none h k l =
      let f = none_far n m h l in
      let g = none_far m n k (omega arith) in
      record {
        gives = sym (joined (next_none p q h k l) f g);
        ends = λ e. none_left x y p q h l;
        first_in = omega (arith, f);
        second_in = omega (arith, g);
      }

  pub stepped : Stepped x y n m
  stepped = by (ltb n m) (ltb m n) (ltb n no_line) refl refl refl
    where
      by : (s t u : Bool) → ltb n m ≡ s → ltb m n ≡ t → ltb n no_line ≡ u → Stepped x y n m
      by true t u d e f = on_first (ltb-true n m d)
      by false true u d e f = on_second (ltb-true m n e)
      by false false true d e f = on_both (ltb-false m n e) (ltb-false n m d) (ltb-true n no_line f)
      by false false false d e f = on_none (ltb-false m n e) (ltb-false n m d) (ltb-false n no_line f)

-- From a place of each list on.

-- the bytes of the differences there
unfoldable pub left_bytes : List ℕ → List ℕ → ℕ → ℕ → List ℕ
left_bytes first second i j = encoded_all (differences (full_lines (drop i first)) (full_lines (drop j second)))

module _ (first second : List ℕ) (i j n m : ℕ) (p : Next (lent_from first i) n) (q : Next (lent_from second j) m) where
  here : Stepped (lent_from first i) (lent_from second j) n m
  here = stepped (lent_from first i) (lent_from second j) n m p q

  pub left_step : left_bytes first second i j ≡ encoded_all (next_differences (lent_from first i) (lent_from second j)) ++ left_bytes first second (i + how_far n m) (j + how_far m n)
  unfolding left_bytes
  left_step =
      ap (λ (l : List ℕ). encoded_all (differences (full_lines l) (full_lines (drop j second)))) (sym (lent_from_is first i))
      ∙ ap (λ (l : List ℕ). encoded_all (differences (full_lines (lent_from first i)) (full_lines l))) (sym (lent_from_is second j))
      ∙ ap encoded_all here.gives
      ∙ encoded_append (next_differences (lent_from first i) (lent_from second j)) _
      ∙ ap (λ (l : List ℕ). encoded_all (next_differences (lent_from first i) (lent_from second j)) ++ encoded_all (differences (full_lines l) (full_lines (drop (how_far m n) (lent_from second j)))))
      (ap (drop (how_far n m)) (lent_from_is first i) ∙ drop-drop (how_far n m) i first)
      ∙ ap (λ (l : List ℕ). encoded_all (next_differences (lent_from first i) (lent_from second j)) ++ encoded_all (differences (full_lines (drop (i + how_far n m) first)) (full_lines l)))
      (ap (drop (how_far m n)) (lent_from_is second j) ∙ drop-drop (how_far m n) j second)

  pub left_length : length (left_bytes first second i j) ≡ length (encoded_all (next_differences (lent_from first i) (lent_from second j))) + length (left_bytes first second (i + how_far n m) (j + how_far m n))
  left_length = ap length left_step ∙ length-append (encoded_all (next_differences (lent_from first i) (lent_from second j))) _

  pub left_end : how_far n m + how_far m n ≡ 0 → left_bytes first second i j ≡ []
  unfolding left_bytes
  left_end e =
      ap (λ (l : List ℕ). encoded_all (differences (full_lines l) (full_lines (drop j second)))) (sym (lent_from_is first i))
      ∙ ap (λ (l : List ℕ). encoded_all (differences (full_lines (lent_from first i)) (full_lines l))) (sym (lent_from_is second j))
      ∙ ap encoded_all (here.ends e)

  pub in_first : how_far n m ≤ length first - i
  in_first = omega (arith, here.first_in, ap length (lent_from_is first i), length-drop i first)

  pub in_second : how_far m n ≤ length second - j
  in_second = omega (arith, here.second_in, ap length (lent_from_is second j), length-drop j second)
