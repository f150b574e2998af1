-- Differences counted, a part after another: those of a line's places, of two lines, and of the walk of two lists.
use Rattle.std.specs.Prelude.{◌≡◌, refl, Bool, true, false, ℕ, suc, ◌+◌, ◌<◌, eqb, length, get_or, take, drop}
use Rattle.std.proofs.Math.Path.{sym, ap}
use Rattle.std.proofs.Common.{◌∙◌, add-one, drop-cons}
use mathlib.Core.List.{List, [], ◌∷◌, ◌++◌}
use Rattle.std.proofs.Math.Seq.{drop-drop}
use Rattle.profile.specs.Profile.{width}
use Rattle.line_records.specs.Lines.{head_size, front_line, full_lines, Next}
use Rattle.line_records.proofs.LinesLaws.{lent_from, lent_from_is}
use Rattle.diff_records.specs.Difference.{Difference, both_kinds, both_bytes, unless, places_from, between_lines, differences}
use Rattle.diff_records.specs.Next.{next_differences, how_far}
use Rattle.diff_records.proofs.NextLaws.{Stepped, stepped}
use Rattle.diff_summary.specs.declared.Summary.{Summary}
use Rattle.diff_change.specs.Front.{change_of}
use Rattle.diff_summary.specs.Summary.{with_change, with_differences}

counted_append : (s : Summary) (ds es : List Difference) → with_differences s (ds ++ es) ≡ with_differences (with_differences s ds) es
counted_append s [] es = refl
counted_append s (d ∷ ds) es = counted_append (with_change s (change_of d)) ds es

-- one difference, or none, before others
counted_unless : (s : Summary) (t : Bool) (d : Difference) (ds : List Difference) → with_differences s (unless t d ds) ≡ with_differences (with_differences s (unless t d [])) ds
counted_unless s true d ds = refl
counted_unless s false d ds = refl

-- the places from one on, by the bytes there
pub places_counted : (xs ys : List ℕ) (p : ℕ) → p < length xs → p < length ys → (s : Summary) (n : ℕ)
    → with_differences (with_differences s (unless (eqb (get_or xs p 0) (get_or ys p 0)) (both_bytes n p (get_or xs p 0) (get_or ys p 0)) [])) (places_from n (p + 1) (drop (p + 1) xs) (drop (p + 1) ys))
    ≡ with_differences s (places_from n p (drop p xs) (drop p ys))
places_counted xs ys p h g s n =
    sym
    (ap (λ (l : List ℕ). with_differences s (places_from n p l (drop p ys))) (drop-cons xs p 0 h)
    ∙ ap (λ (l : List ℕ). with_differences s (places_from n p (get_or xs p 0 ∷ drop (suc p) xs) l)) (drop-cons ys p 0 g)
    ∙ counted_unless s (eqb (get_or xs p 0) (get_or ys p 0)) (both_bytes n p (get_or xs p 0) (get_or ys p 0)) (places_from n (suc p) (drop (suc p) xs) (drop (suc p) ys))
    ∙ ap (λ (k : ℕ). with_differences (with_differences s (unless (eqb (get_or xs p 0) (get_or ys p 0)) (both_bytes n p (get_or xs p 0) (get_or ys p 0)) [])) (places_from n k (drop k xs) (drop k ys))) (sym (add-one p)))

-- the kinds of the lines that two lists start with, then the places
pub between_counted : (x y : List ℕ) (n : ℕ) → n ≡ (front_line x).number → (s : Summary)
    → with_differences (with_differences s (unless (eqb (get_or x 0 0) (get_or y 0 0)) (both_kinds n (get_or x 0 0) (get_or y 0 0)) [])) (places_from n 0 (take width (drop head_size x)) (take width (drop head_size y)))
    ≡ with_differences s (between_lines (front_line x) (front_line y))
unfolding between_lines front_line
between_counted x y n h s =
    sym
    (counted_unless s (eqb (get_or x 0 0) (get_or y 0 0)) _ _
    ∙ ap (λ (k : ℕ). with_differences (with_differences s (unless (eqb (get_or x 0 0) (get_or y 0 0)) (both_kinds k (get_or x 0 0) (get_or y 0 0)) [])) (places_from k 0 (take width (drop head_size x)) (take width (drop head_size y)))) (sym h))

-- From a place of each list on.

-- the differences there
unfoldable pub differences_from : List ℕ → List ℕ → ℕ → ℕ → List Difference
differences_from first second i j = differences (full_lines (drop i first)) (full_lines (drop j second))

module _ (first second : List ℕ) (i j n m : ℕ) (p : Next (lent_from first i) n) (q : Next (lent_from second j) m) where
  here : Stepped (lent_from first i) (lent_from second j) n m
  here = stepped (lent_from first i) (lent_from second j) n m p q

  of_parts : differences_from first second i j ≡ differences (full_lines (lent_from first i)) (full_lines (lent_from second j))
  unfolding differences_from
  of_parts =
      ap (λ (l : List ℕ). differences (full_lines l) (full_lines (drop j second))) (sym (lent_from_is first i))
      ∙ ap (λ (l : List ℕ). differences (full_lines (lent_from first i)) (full_lines l)) (sym (lent_from_is second j))

  pub walk_counted : (s : Summary) → with_differences (with_differences s (next_differences (lent_from first i) (lent_from second j))) (differences_from first second (i + how_far n m) (j + how_far m n)) ≡ with_differences s (differences_from first second i j)
  unfolding differences_from
  walk_counted s =
      sym
      (ap (with_differences s) (of_parts ∙ here.gives)
      ∙ counted_append s (next_differences (lent_from first i) (lent_from second j)) _
      ∙ ap (λ (l : List ℕ). with_differences (with_differences s (next_differences (lent_from first i) (lent_from second j))) (differences (full_lines l) (full_lines (drop (how_far m n) (lent_from second j)))))
      (ap (drop (how_far n m)) (lent_from_is first i) ∙ drop-drop (how_far n m) i first)
      ∙ ap (λ (l : List ℕ). with_differences (with_differences s (next_differences (lent_from first i) (lent_from second j))) (differences (full_lines (drop (i + how_far n m) first)) (full_lines l)))
      (ap (drop (how_far m n)) (lent_from_is second j) ∙ drop-drop (how_far m n) j second))

  pub walk_end : how_far n m + how_far m n ≡ 0 → differences_from first second i j ≡ []
  walk_end e = of_parts ∙ here.ends e
