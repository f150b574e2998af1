-- The kind at a place, read off the list of kinds, is the kind that the ranges give; after the EOF line it is BL, and SOF only at place 0.
-- The list of each layout's kinds and the kinds by ranges are computed and compared whole. And the settling place is small.
use Rattle.std.specs.Prelude.{◌≡◌, refl, Bool, true, false, cond, List, [], ◌∷◌, ℕ, zero, suc, ◌+◌, ◌≤◌, ◌<◌, eqb, leb, ltb, get_or}
use Rattle.std.proofs.Common.{sym, ap, ◌∙◌, not-suc-le-zero, le_of_suc-le-suc, arith, ltb-true, ltb-false, le-ltb, ne_eqb, lit≤}
use Rattle.std.proofs.lemmas.Bool.{lt-leb}
use Rattle.std.proofs.Math.ListN.{get_or-eq_default}
use Rattle.line_code.specs.declared.Kind.{Kind}
use Rattle.line_code.specs.declared.Kind.TheVariants.{BL, BK, VL, SOF, EOF}
use Rattle.line_code.specs.LineCode.{kind_number}
use Rattle.profile.specs.declared.Profile.{Profile}
use Rattle.profile.specs.declared.Profile.TheVariants.{VV5404, VV5300}
use Rattle.frame_layout.specs.declared.Borders.{Borders}
use Rattle.frame_layout.specs.declared.Borders.TheVariants.{On, Off}
use Rattle.frame_layout.specs.declared.Layout.{Layout}
use Rattle.frame_layout.specs.FrameLayout.{borders_on, borders_off, layout, kinds_of, last_place, end_place, settling_place, kind_at_place, stands_at}
use Rattle.frame_layout.specs.Places.{kind_within}
use Rattle.frame_layout.specs.FrameLength.{frame_length}

-- the kinds by ranges, so many from a place on
abbrev kinds_from : Layout → ℕ → ℕ → List Kind
kinds_from l place zero = []
kinds_from l place (suc n) = kind_within l place ∷ kinds_from l (suc place) n

from_place : (l : Layout) (place n i : ℕ) → i < n → get_or (kinds_from l place n) i BL ≡ kind_within l (place + i)
from_place l place zero i h = absurd (not-suc-le-zero h)
from_place l place (suc n) zero h = ap (kind_within l) (omega arith)
from_place l place (suc n) (suc i) h = from_place l (suc place) n i (le_of_suc-le-suc h) ∙ ap (kind_within l) (omega arith)

computed_on : (p : Profile) → kinds_of (borders_on p) ≡ kinds_from (borders_on p) 0 (last_place p + 1)
unfolding kind_within
computed_on VV5404 = refl
computed_on VV5300 = refl

computed_off : (p : Profile) → kinds_of (borders_off p) ≡ kinds_from (borders_off p) 0 (last_place p + 1)
unfolding kind_within
computed_off VV5404 = refl
computed_off VV5300 = refl

computed : (p : Profile) (b : Borders) → kinds_of (layout p b) ≡ kinds_from (layout p b) 0 (last_place p + 1)
computed p On = computed_on p
computed p Off = computed_off p

-- the places of a layout in order
ordered : (p : Profile) (b : Borders)
    → (3 ≤ (layout p b).from) × ((layout p b).from ≤ (layout p b).to) × ((layout p b).to ≤ (layout p b).end) × ((layout p b).end ≤ last_place p)
ordered VV5404 On = (lit≤ tt, lit≤ tt, lit≤ tt, lit≤ tt)
ordered VV5404 Off = (lit≤ tt, lit≤ tt, lit≤ tt, lit≤ tt)
ordered VV5300 On = (lit≤ tt, lit≤ tt, lit≤ tt, lit≤ tt)
ordered VV5300 Off = (lit≤ tt, lit≤ tt, lit≤ tt, lit≤ tt)

within_past : (p : Profile) (b : Borders) (i : ℕ) → end_place p b < i → kind_within (layout p b) i ≡ BL
unfolding kind_within
within_past p b i h =
    let o = ordered p b in
    simp (
      le-ltb i 1 (omega (arith, o.0, o.1, o.2)),
      le-ltb i 3 (omega (arith, o.0, o.1, o.2)),
      le-ltb i (layout p b).from (omega (arith, o.1, o.2)),
      lt-leb i (layout p b).to (omega (arith, o.2)),
      ne_eqb i (layout p b).end (λ e. omega (arith, e)),
    )

pub kind_by_range : (p : Profile) (b : Borders) (i : ℕ) → kind_at_place p b i ≡ kind_within (layout p b) i
unfolding kind_at_place
kind_by_range p b i = by (ltb i (last_place p + 1)) refl
  where
    by : (t : Bool) → ltb i (last_place p + 1) ≡ t → get_or (kinds_of (layout p b)) i BL ≡ kind_within (layout p b) i
    by true e =
        ap (λ (ks : List Kind). get_or ks i BL) (computed p b)
        ∙ from_place (layout p b) 0 (last_place p + 1) i (ltb-true i (last_place p + 1) e)
        ∙ ap (kind_within (layout p b)) (omega arith)
    by false e =
        let h : last_place p + 1 ≤ i = ltb-false i (last_place p + 1) e in
        let o = ordered p b in
        get_or-eq_default (kinds_of (layout p b)) BL {n = i} (omega (arith, frame_length p b)) ∙ sym (within_past p b i (omega (arith, o.3)))

-- each line after the EOF line is a BL
pub blank_after_lem : (p : Profile) (b : Borders) (place : ℕ) → end_place p b < place → kind_at_place p b place ≡ BL
blank_after_lem p b place h = kind_by_range p b place ∙ within_past p b place h

-- an SOF stands at no place but the first
abbrev is_sof : Kind → Bool
is_sof k = eqb (kind_number SOF) (kind_number k)

pub sof_only_first : (p : Profile) (b : Borders) (place : ℕ) → stands_at p b (suc place) (kind_number SOF) ≡ false
unfolding kind_within
sof_only_first p b place =
    ap is_sof (kind_by_range p b (suc place))
    ∙ simp (le-ltb (suc place) 1 (omega arith))
    (by (ltb (suc place) 3) (ltb (suc place) (layout p b).from) (leb (suc place) (layout p b).to) (eqb (suc place) (layout p b).end))
  where
    by : (black blank visible end : Bool) → is_sof (cond black BK (cond blank BL (cond visible VL (cond end EOF BL)))) ≡ false
    by true blank visible end = refl
    by false true visible end = refl
    by false false true end = refl
    by false false false true = refl
    by false false false false = refl

pub settling_small : (p : Profile) → settling_place p < 12
settling_small VV5404 = lit≤ tt
settling_small VV5300 = lit≤ tt

-- no frame has more than 304 lines, nor an EOF line behind its last
pub last_small : (p : Profile) → last_place p < 304
last_small VV5404 = lit≤ tt
last_small VV5300 = lit≤ tt

pub end_within : (p : Profile) (b : Borders) → end_place p b ≤ last_place p
end_within p b = (ordered p b).3
