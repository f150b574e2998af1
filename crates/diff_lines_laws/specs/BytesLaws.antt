-- The bytes of differences tell the differences.
use Rattle.std.specs.Prelude.{◌≡◌, refl, List, [], ◌∷◌, ◌++◌, ℕ, zero, suc, ◌/◌, ◌%◌, ◌≤◌, ◌<◌, eqb, length, take, drop}
use Rattle.std.proofs.Common.{sym, ap, subst, ◌∙◌, arith, length-append, take_at, drop_at}
use Rattle.profile.specs.Profile.{width}
use Rattle.line_records.specs.Lines.{FullLine, from_two}
use Rattle.line_records_laws.specs.LinesBackLaws.{FullBodies, sized_head, sized_tail}
use Rattle.diff_records.specs.Difference.{Difference, only_first, only_second, both_kinds, both_bytes, places_from, between_lines, differences, encoded, encoded_all}
use Rattle.diff_records.specs.ReadBack.{front_of, front_size, first_differences, differences_in}
use Rattle.diff_lines_laws.specs.Applied.{Each, done, also}
use Rattle.diff_lines_laws.specs.EachLaws.{each_append, each_unless}
use Rattle.diff_records.proofs.DifferenceLaws.{step_first, step_second, step_both}
use Rattle.diff_lines_laws.specs.MergeLaws.{MergeSteps, walked}

-- a line that is given whole has 356 bytes
abbrev pub SizedIn : Difference → Type 0
SizedIn (only_first l) = length l.body ≡ width
SizedIn (only_second l) = length l.body ≡ width
SizedIn (both_kinds n k m) = ◌≡◌ {A = ℕ} 0 0
SizedIn (both_bytes n p x y) = ◌≡◌ {A = ℕ} 0 0

two_back : (n : ℕ) → from_two (n / 256) (n % 256) ≡ n
two_back n = omega arith

line_with : ℕ → ℕ → List ℕ → FullLine
line_with k n body = record { kind = k; number = n; body = body }

decoded_step : (n : ℕ) (d : Difference) (rest : List ℕ) → SizedIn d → first_differences (suc n) (encoded d ++ rest) ≡ d ∷ first_differences n rest
unfolding encoded line_with front_of front_size
decoded_step n (only_first l) rest h =
    ap (λ (k : ℕ). only_first (line_with l.kind k (take width (l.body ++ rest))) ∷ first_differences n (drop width (l.body ++ rest))) (two_back l.number)
    ∙ ap (λ (b : List ℕ). only_first (line_with l.kind l.number b) ∷ first_differences n (drop width (l.body ++ rest))) (take_at l.body rest width h)
    ∙ ap (λ (b : List ℕ). only_first l ∷ first_differences n b) (drop_at l.body rest width h)
decoded_step n (only_second l) rest h =
    ap (λ (k : ℕ). only_second (line_with l.kind k (take width (l.body ++ rest))) ∷ first_differences n (drop width (l.body ++ rest))) (two_back l.number)
    ∙ ap (λ (b : List ℕ). only_second (line_with l.kind l.number b) ∷ first_differences n (drop width (l.body ++ rest))) (take_at l.body rest width h)
    ∙ ap (λ (b : List ℕ). only_second l ∷ first_differences n b) (drop_at l.body rest width h)
decoded_step n (both_kinds m k j) rest h = ap (λ (i : ℕ). both_kinds i k j ∷ first_differences n rest) (two_back m)
decoded_step n (both_bytes m p x y) rest h = ap (λ (i : ℕ). both_bytes i (from_two (p / 256) (p % 256)) x y ∷ first_differences n rest) (two_back m) ∙ ap (λ (i : ℕ). both_bytes m i x y ∷ first_differences n rest) (two_back p)

some_bytes : (d : Difference) → 0 < length (encoded d)
unfolding encoded
some_bytes (only_first l) = omega arith
some_bytes (only_second l) = omega arith
some_bytes (both_kinds n k m) = omega arith
some_bytes (both_bytes n p x y) = omega arith

decoded_in : (n : ℕ) {ds : List Difference} → Each SizedIn ds → length (encoded_all ds) ≤ n → first_differences n (encoded_all ds) ≡ ds
decoded_in zero done h = refl
decoded_in (suc n) done h = refl
decoded_in zero (also {d} {ds} s e) h = absurd (omega (arith, some_bytes d, length-append (encoded d) (encoded_all ds)))
decoded_in (suc n) (also {d} {ds} s e) h =
    decoded_step n d (encoded_all ds) s
    ∙ ap (λ (es : List Difference). d ∷ es) (decoded_in n e (omega (arith, some_bytes d, length-append (encoded d) (encoded_all ds))))

-- the bytes read back are the differences
pub bytes_back : {ds : List Difference} → Each SizedIn ds → differences_in (encoded_all ds) ≡ ds
bytes_back {ds} s = decoded_in (length (encoded_all ds)) s (omega arith)

-- The differences of two lists

sized_places : (n p : ℕ) (xs ys : List ℕ) → Each SizedIn (places_from n p xs ys)
sized_places n p [] ys = done
sized_places n p (x ∷ xs) [] = done
sized_places n p (x ∷ xs) (y ∷ ys) = each_unless (eqb x y) (both_bytes n p x y) refl (sized_places n (suc p) xs ys)

pub sized_between : (a b : FullLine) → Each SizedIn (between_lines a b)
unfolding between_lines
sized_between a b = each_unless (eqb a.kind b.kind) (both_kinds a.number a.kind b.kind) refl (sized_places a.number 0 a.body b.body)

abbrev SizedP : List FullLine → List FullLine → Type 0
SizedP ls ms = FullBodies ls → FullBodies ms → Each SizedIn (differences ls ms)

sized_steps : MergeSteps SizedP
sized_steps =
    record {
      none = λ s t. done;
      first_left = λ a ls r s t. also {d = only_first a} (sized_head s) (r (sized_tail s) t);
      second_left = λ b ms r s t. also {d = only_second b} (sized_head t) (r s (sized_tail t));
      first = λ a b ls ms e r s t. subst (Each SizedIn) (sym (step_first a b ls ms e)) (also {d = only_first a} (sized_head s) (r (sized_tail s) t));
      second = λ a b ls ms e r s t. subst (Each SizedIn) (sym (step_second a b ls ms e)) (also {d = only_second b} (sized_head t) (r s (sized_tail t)));
      both = λ a b ls ms e r s t. subst (Each SizedIn) (sym (step_both a b ls ms e)) (each_append (sized_between a b) (r (sized_tail s) (sized_tail t)));
    }

pub differences_back : (ls ms : List FullLine) → FullBodies ls → FullBodies ms → differences_in (encoded_all (differences ls ms)) ≡ differences ls ms
differences_back ls ms s t = bytes_back (walked SizedP sized_steps ls ms s t)
