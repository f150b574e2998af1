-- Texts cut at their front: what is left of a mark that has lost a nibble or more is no mark, so the nibbles after it hold none that they don't hold
-- by themselves.
use Rattle.std.specs.Prelude.{◌≡◌, refl, Bool, true, false, cond, List, [], ◌∷◌, ◌++◌, ℕ, suc, ◌/◌, ◌%◌, ◌≤◌, eqb, length, take, drop}
use Rattle.std.proofs.Common.{◌∙◌, ap, sym, subst, not-suc-le-zero, le_of_suc-le-suc, arith, take-append-drop}
use Rattle.std.proofs.Math.Option.{none}
use Rattle.stream.specs.Stream.{group, strip}
use Rattle.stream.specs.Written.{mark_of}
use Rattle.recovery.specs.Marks.{onto}
use Rattle.recovery.specs.MarksLaws.{strip_none}
use Rattle.recovery.specs.MarkFreeLaws.{NoGroup, no_group_empty, no_group_more}

-- what is left of a text, newest first, without its oldest nibbles
onto_below : (t old w : List ℕ) → onto (t ++ old) w ≡ onto t w ++ old
onto_below t old [] = refl
onto_below t old (n ∷ w) = onto_below (n ∷ t) old w

pub onto_append : (t u v : List ℕ) → onto t (u ++ v) ≡ onto (onto t u) v
onto_append t [] v = refl
onto_append t (n ∷ u) v = onto_append (n ∷ t) u v

strip_newer : (ps t old : List ℕ) → strip ps (t ++ old) ≡ none → strip ps t ≡ none
strip_newer [] t old h = cc
strip_newer (q ∷ ps) [] old h = refl
strip_newer (q ∷ ps) (n ∷ t) old h = go (eqb q n) h (strip_newer ps t old)
  where
    go : (b : Bool) → cond b (strip ps (t ++ old)) none ≡ none → (strip ps (t ++ old) ≡ none → strip ps t ≡ none) → cond b (strip ps t) none ≡ none
    go true k f = f k
    go false k f = refl

no_group_newer : (t old : List ℕ) → NoGroup (t ++ old) → NoGroup t
no_group_newer [] old h = no_group_empty
no_group_newer (n ∷ t) old (no_group_more h g) = no_group_more (strip_newer group (n ∷ t) old h) (no_group_newer t old g)

strip_longer : (ps t old : List ℕ) → length ps ≤ length t → strip ps t ≡ none → strip ps (t ++ old) ≡ none
strip_longer [] t old l h = cc
strip_longer (q ∷ ps) [] old l h = absurd (not-suc-le-zero l)
strip_longer (q ∷ ps) (n ∷ t) old l h = go (eqb q n) h (strip_longer ps t old (le_of_suc-le-suc l))
  where
    go : (b : Bool) → cond b (strip ps t) none ≡ none → (strip ps t ≡ none → strip ps (t ++ old) ≡ none) → cond b (strip ps (t ++ old)) none ≡ none
    go true k f = f k
    go false k f = refl

-- F F F 0 0: the group without its first F, newest first
abbrev cut_group : List ℕ
cut_group = 0 ∷ 0 ∷ 15 ∷ 15 ∷ 15 ∷ []

no_group_there : (n : ℕ) (t : List ℕ) → strip group (n ∷ t) ≡ none → strip group ((n ∷ t) ++ cut_group) ≡ none
no_group_there a [] h = strip_none (eqb 0 a) _ refl
no_group_there a (b ∷ []) h = strip_none (eqb 0 a) _ (strip_none (eqb 0 b) _ refl)
no_group_there a (b ∷ c ∷ []) h = strip_none (eqb 0 a) _ (strip_none (eqb 0 b) _ (strip_none (eqb 15 c) _ refl))
no_group_there a (b ∷ c ∷ d ∷ []) h = strip_none (eqb 0 a) _ (strip_none (eqb 0 b) _ (strip_none (eqb 15 c) _ (strip_none (eqb 15 d) _ refl)))
no_group_there a (b ∷ c ∷ d ∷ e ∷ []) h =
    strip_none (eqb 0 a) _ (strip_none (eqb 0 b) _ (strip_none (eqb 15 c) _ (strip_none (eqb 15 d) _ (strip_none (eqb 15 e) _ refl))))
no_group_there a (b ∷ c ∷ d ∷ e ∷ f ∷ t) h = strip_longer group (a ∷ b ∷ c ∷ d ∷ e ∷ f ∷ t) cut_group (omega arith) h

no_group_after_cut : (t : List ℕ) → NoGroup t → NoGroup (t ++ cut_group)
no_group_after_cut [] h = no_group_more refl (no_group_more refl (no_group_more refl (no_group_more refl (no_group_more refl no_group_empty))))
no_group_after_cut (n ∷ t) (no_group_more h g) = no_group_more (no_group_there n t h) (no_group_after_cut t g)

-- a list of nibbles, newest first, in two parts
pub onto_split : (w : List ℕ) (k : ℕ) → onto [] w ≡ onto [] (drop k w) ++ onto [] (take k w)
onto_split w k = ap (onto []) (sym (take-append-drop k w)) ∙ onto_append [] (take k w) (drop k w) ∙ onto_below [] (onto [] (take k w)) (drop k w)

no_group_dropped : (k : ℕ) (w : List ℕ) → NoGroup (onto [] w) → NoGroup (onto [] (drop k w))
no_group_dropped k w h = no_group_newer (onto [] (drop k w)) (onto [] (take k w)) (subst NoGroup (onto_split w k) h)

-- a mark that has lost a nibble or more at its front is none
pub no_group_cut : (c : ℕ) (w : List ℕ) → NoGroup (onto (c % 16 ∷ c / 16 ∷ []) w) → (k : ℕ) → NoGroup (onto [] (drop (suc k) (mark_of c ++ w)))
no_group_cut c w h k =
    no_group_dropped k (15 ∷ 15 ∷ 15 ∷ 0 ∷ 0 ∷ c / 16 ∷ c % 16 ∷ w)
    (subst NoGroup (sym (onto_below (c % 16 ∷ c / 16 ∷ []) cut_group w)) (no_group_after_cut (onto (c % 16 ∷ c / 16 ∷ []) w) h))
