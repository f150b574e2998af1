-- Differences in order are known by their members: the order, what must be there and what may be there leave one list only.
use Rattle.std.specs.Prelude.{◌≡◌, refl}
use Rattle.std.proofs.Common.{sym, ap, subst, ◌∙◌, inl, inr, arith}
use mathlib.Core.List.Memᴰ
use mathlib.Core.List.{List, ◌∷◌, Memᴰ}
use Rattle.diff_records.specs.Difference.{Difference}
use Rattle.diff_lines_laws.specs.Applied.{Precedes, InOrder, empty, then}
use Rattle.diff_lines_laws.specs.EachLaws.{each_in}

not_itself : (d : Difference) → Precedes d d → ⊥
not_itself d (inl h) = omega arith
not_itself d (inr h) = omega (arith, h.1)

not_both : (d e : Difference) → Precedes d e → Precedes e d → ⊥
not_both d e (inl h) (inl g) = omega arith
not_both d e (inl h) (inr g) = omega (arith, g.0)
not_both d e (inr h) (inl g) = omega (arith, h.0)
not_both d e (inr h) (inr g) = omega (arith, h.1, g.1)

-- all of some differences are among others
abbrev pub Among : List Difference → List Difference → Type 0
Among ds es = (d : Difference) → Memᴰ d ds → Memᴰ d es

-- past the first, which is one and the same
among_rest : {d e : Difference} {ds es : List Difference} → d ≡ e → InOrder (d ∷ ds) → Among (d ∷ ds) (e ∷ es) → Among ds es
among_rest {d} {e} {ds} {es} q (then h o) f x i = by (f x (Memᴰ.tail i))
  where
    by : Memᴰ x (e ∷ es) → Memᴰ x es
    by (Memᴰ.head p) = absurd (not_itself d (subst (Precedes d) (p ∙ sym q) (each_in h i)))
    by (Memᴰ.tail j) = j

heads : {d e : Difference} {ds es : List Difference} → InOrder (d ∷ ds) → InOrder (e ∷ es) → Memᴰ d (e ∷ es) → Memᴰ e (d ∷ ds) → d ≡ e
heads o p (Memᴰ.head q) j = q
heads o p (Memᴰ.tail i) (Memᴰ.head q) = sym q
heads {d} {e} (then h o) (then k p) (Memᴰ.tail i) (Memᴰ.tail j) = absurd (not_both d e (each_in h j) (each_in k i))

pub known_by_members : {ds es : List Difference} → InOrder ds → InOrder es → Among ds es → Among es ds → ds ≡ es
known_by_members empty empty f g = refl
known_by_members empty (then {d = e} h o) f g = absurd (Memᴰ.not-nil (g e (Memᴰ.head refl)))
known_by_members (then {d} h o) empty f g = absurd (Memᴰ.not-nil (f d (Memᴰ.head refl)))
known_by_members (then {d} {ds} h o) (then {d = e} {ds = es} k p) f g =
    let q = heads (then h o) (then k p) (f d (Memᴰ.head refl)) (g e (Memᴰ.head refl)) in
    ap (λ (x : Difference). x ∷ ds) q
    ∙ ap (λ (l : List Difference). e ∷ l) (known_by_members o p (among_rest q (then h o) f) (among_rest (sym q) (then k p) g))
