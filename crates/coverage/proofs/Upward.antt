-- The places of a layout, taken from the first on.
use Rattle.std.specs.Prelude.{◌≡◌, refl, true, ◌&&◌, List, [], ◌∷◌, ◌++◌, ℕ, zero, suc, ◌+◌}
use Rattle.std.specs.List.{list_all, range_with_len}
use Rattle.std.proofs.Common.{ap, ◌∙◌, arith}
use Rattle.std.proofs.Math.Bool.{and_comm, and-true}
use Rattle.std.proofs.lemmas.List.Folds.{list_all-append}
use Rattle.line_code.specs.LineCode.{kind_number}
use Rattle.profile.specs.declared.Profile.{Profile}
use Rattle.frame_layout.specs.declared.Borders.{Borders}
use Rattle.frame_layout.specs.FrameLayout.{kind_at_place}
use Rattle.coverage.specs.Coverage.{has_come, all_came}

range_more : (a n : ℕ) → range_with_len a (suc n) ≡ range_with_len a n ++ (a + n) ∷ []
range_more a zero = ap (λ (k : ℕ). k ∷ []) (omega arith)
range_more a (suc n) =
    let e : a + 1 + n ≡ a + suc n = omega arith in
    ap (λ (l : List ℕ). a ∷ l) (range_more (a + 1) n ∙ ap (λ (k : ℕ). range_with_len (a + 1) n ++ k ∷ []) e)

pub came_upward : (p : Profile) (b : Borders) (came : List ℕ) (n : ℕ)
    → list_all (λ place. has_come came (kind_number (kind_at_place p b place)) place) (range_with_len 0 n) ≡ all_came p b came n
came_upward p b came zero = refl
came_upward p b came (suc n) =
    let here = λ (place : ℕ). has_come came (kind_number (kind_at_place p b place)) place in
    let e : 0 + n ≡ n = omega arith in
    ap (list_all here) (range_more 0 n ∙ ap (λ (k : ℕ). range_with_len 0 n ++ k ∷ []) e)
    ∙ list_all-append here (range_with_len 0 n) (n ∷ [])
    ∙ and_comm (list_all here (range_with_len 0 n)) (here n && true)
    ∙ ap (λ t. (here n && true) && t) (came_upward p b came n)
    ∙ ap (λ t. t && all_came p b came n) (and-true (here n))
