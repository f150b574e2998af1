-- Laws of a list as it is lent: one line after another, from its front and from a place on.
use Rattle.std.specs.Prelude.{◌≡◌, Bool, true, false, not, List, [], ◌∷◌, ℕ, suc, ◌+◌, ◌-◌, ◌/◌, ◌≤◌, ◌<◌, min, T, leb, length, get_or, take, drop}
use Rattle.std.proofs.Common.{sym, ap, ◌∙◌, arith, leb→le, length-drop, drop_of_length-le, take_all, drop-drop, get_or-drop, length-take-le}
use Rattle.std.proofs.Math.Dec.{nleb→lt}
use Rattle.profile.specs.Profile.{width}
use Rattle.line_records.specs.Lines.{head_size, line_size, front_line, first_lines, full_lines, head_count, headed_lines, line_end}

pub lines_step : (bytes : List ℕ) → line_size ≤ length bytes → full_lines bytes ≡ front_line bytes ∷ full_lines (drop line_size bytes)
unfolding full_lines
lines_step bytes h =
    let n : length bytes / line_size ≡ suc (length (drop line_size bytes) / line_size) = omega (arith, length-drop line_size bytes) in
    ap (λ (k : ℕ). first_lines k bytes) n

pub lines_none : (bytes : List ℕ) → length bytes < line_size → full_lines bytes ≡ []
unfolding full_lines
lines_none bytes h =
    let n : length bytes / line_size ≡ 0 = omega arith in
    ap (λ (k : ℕ). first_lines k bytes) n

pub body_length_lem : (bytes : List ℕ) → line_size ≤ length bytes → length (front_line bytes).body ≡ width
unfolding front_line
body_length_lem bytes h = length-take-le width (drop 3 bytes) (omega (arith, length-drop 3 bytes))

-- From a place on.

-- what is lent from a place on
abbrev pub lent_from : List ℕ → ℕ → List ℕ
lent_from list i = take (length list - i) (drop i list)

pub lent_from_is : (list : List ℕ) (i : ℕ) → lent_from list i ≡ drop i list
lent_from_is list i = take_all (length list - i) (drop i list) (omega (arith, length-drop i list))

-- a line whose head is there, and those after it
pub heads_step : (bytes : List ℕ) → head_size ≤ length bytes → headed_lines bytes ≡ front_line bytes ∷ headed_lines (drop line_size bytes)
unfolding headed_lines
heads_step bytes h =
    let n : head_count (length bytes) ≡ suc (head_count (length (drop line_size bytes))) = omega (arith, length-drop line_size bytes) in
    ap (λ (k : ℕ). first_lines k bytes) n

pub heads_none : (bytes : List ℕ) → length bytes < head_size → headed_lines bytes ≡ []
unfolding headed_lines
heads_none bytes h =
    let n : head_count (length bytes) ≡ 0 = omega arith in
    ap (λ (k : ℕ). first_lines k bytes) n

-- what is left of a list past its end
drop_end : (list : List ℕ) (i : ℕ) → drop (i + line_size) list ≡ drop (line_end i (length list)) list
drop_end list i = go (leb (i + line_size) (length list)) (leb→le (i + line_size) (length list)) (nleb→lt (i + line_size) (length list))
  where
    go : (b : Bool) → (T b → i + line_size ≤ length list) → (T (not b) → length list < i + line_size) → drop (i + line_size) list ≡ drop (min (i + line_size) (length list)) list
    go true h k =
        let l = h tt in
        let e : i + line_size ≡ min (i + line_size) (length list) = omega arith in
        ap (λ (n : ℕ). drop n list) e
    go false h k =
        let l = k tt in
        let e : min (i + line_size) (length list) ≡ length list = omega arith in
        drop_of_length-le list {i = i + line_size} (omega arith) ∙ sym (drop_of_length-le list {i = length list} (omega arith)) ∙ ap (λ (n : ℕ). drop n list) (sym e)

pub heads_at : (list : List ℕ) (i : ℕ) → head_size ≤ length list - i → headed_lines (drop i list) ≡ front_line (lent_from list i) ∷ headed_lines (drop (line_end i (length list)) list)
heads_at list i h =
    heads_step (drop i list) (omega (arith, length-drop i list))
    ∙ ap (λ (l : List ℕ). front_line (drop i list) ∷ headed_lines l) (drop-drop line_size i list ∙ drop_end list i)
    ∙ ap (λ (l : List ℕ). front_line l ∷ headed_lines (drop (line_end i (length list)) list)) (sym (lent_from_is list i))

pub heads_over : (list : List ℕ) (i : ℕ) → length list - i < head_size → headed_lines (drop i list) ≡ []
heads_over list i h = heads_none (drop i list) (omega (arith, length-drop i list))

pub kind_at : (list : List ℕ) (i : ℕ) → (front_line (lent_from list i)).kind ≡ get_or list i 0
unfolding front_line
kind_at list i =
    let z : i + 0 ≡ i = omega arith in
    ap (λ (l : List ℕ). get_or l 0 0) (lent_from_is list i) ∙ get_or-drop i list 0 0 ∙ ap (λ (k : ℕ). get_or list k 0) z
