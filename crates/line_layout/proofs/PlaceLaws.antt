-- The rule of a place, read off the list of rules, is the rule that the ranges give.
-- For each profile and kind the list is computed from the ranges, place by place, and compared whole; past its end both give the filler.
use mathlib.Core.Path.{◌≡◌, refl}
use mathlib.Core.Bool.{Bool, true, false, cond}
use Prim.Native.Nat.{ℕ, ◌+◌, ◌-◌, ◌%◌, ◌≤◌, zero-le}
use native.Mathlib.Omega.{arith}
use borrow.Author.Tests.{le-ltb}
use lib.Dec.{eqb, lit≤}
use lib.ListN.{get_or, get_or-eq_default}
use Rattle.bits.specs.Agree.{listed, agree_all}
use Rattle.line_code.specs.declared.Kind.{Kind}
use Rattle.line_code.specs.declared.Kind.TheVariants.{BL, BK, SOF, EOF}
use Rattle.profile.specs.declared.Profile.{Profile}
use Rattle.profile.specs.declared.Profile.TheVariants.{VV5404, VV5300}
use Rattle.profile.specs.declared.Rule.{Rule}
use Rattle.profile.specs.declared.Rule.TheVariants.{Filler, Pixel, Any}
use Rattle.profile.specs.Profile.{body_length, image_start, image_length}
use Rattle.profile.specs.Layout.{rules}
use Rattle.line_layout.specs.Places.{border, averages_reach, rule_within, image_within, evenly}
use Rattle.profile.specs.LayoutLaws.{rules_length, image_centred}

-- The ranges stay within the body.

pub border_outside : (p : Profile) → border p ≤ image_start p
border_outside VV5404 = lit≤ tt
border_outside VV5300 = lit≤ tt

pub averages_inside : (p : Profile) → averages_reach p ≤ image_length p
averages_inside VV5404 = lit≤ tt
averages_inside VV5300 = lit≤ tt

within_past : (from to i : ℕ) (r : Rule) → from ≤ i → to ≤ i → rule_within i from to r ≡ Filler
unfolding rule_within
within_past from to i r g h = simp (le-ltb i from g, le-ltb i to h)

image_past : (p : Profile) (margin : ℕ) (r : Rule) → margin ≤ image_start p → (i : ℕ) → body_length p ≤ i → image_within p margin i r ≡ Filler
image_past p margin r g i h =
    within_past (image_start p - margin) (image_start p + image_length p + margin) i r (omega (arith, image_centred p)) (omega (arith, image_centred p))

averages_past : (p : Profile) (i : ℕ) → body_length p ≤ i → rule_within i (image_start p) (image_start p + averages_reach p) Pixel ≡ Filler
averages_past p i h =
    within_past (image_start p) (image_start p + averages_reach p) i Pixel (omega (arith, image_centred p))
    (omega (arith, image_centred p, averages_inside p))

evenly_filler : (i : ℕ) (r : Rule) → r ≡ Filler → evenly i r ≡ Filler
evenly_filler i r h = either (eqb (i % 2) 1)
  where
    either : (b : Bool) → cond b Filler r ≡ Filler
    either true = refl
    either false = h

-- The list of rules and the rule of each place.

abbrev rule_at : Profile → Kind → ℕ → Rule
rule_at p k i = get_or (rules p k) i Filler

-- f lists the rules of a kind's places, up to the body's end
abbrev Lists : Profile → Kind → (Profile → ℕ → Rule) → Type 0
Lists p k f = listed (rule_at p k) (body_length p) ≡ listed (f p) (body_length p)

-- rules that f lists, with nothing but the filler past the body, are f i at each place
module _ (k : Kind) (f : Profile → ℕ → Rule) (past : (p : Profile) (i : ℕ) → body_length p ≤ i → f p i ≡ Filler) where
  by_list : (p : Profile) → Lists p k f → (i : ℕ) → rule_at p k i ≡ f p i
  by_list p e = agree_all (rule_at p k) (f p) Filler (body_length p) e (λ i h. get_or-eq_default (rules p k) Filler (omega (arith, rules_length p k))) (past p)

  read_off : Lists VV5404 k f → Lists VV5300 k f → (p : Profile) (i : ℕ) → rule_at p k i ≡ f p i
  read_off e g VV5404 = by_list VV5404 e
  read_off e g VV5300 = by_list VV5300 g

pub filler_places : (p : Profile) (i : ℕ) → get_or (rules p BL) i Filler ≡ Filler
filler_places = read_off BL (λ p i. Filler) (λ p i h. refl) refl refl

pub pixel_places : (p : Profile) (i : ℕ) → get_or (rules p BK) i Filler ≡ image_within p (border p) i Pixel
unfolding rule_within
pixel_places = read_off BK (λ p i. image_within p (border p) i Pixel) (λ p. image_past p (border p) Pixel (border_outside p)) refl refl

pub register_places : (p : Profile) (i : ℕ) → get_or (rules p SOF) i Filler ≡ evenly i (image_within p 0 i Any)
unfolding rule_within
register_places = read_off SOF (λ p i. evenly i (image_within p 0 i Any)) (λ p i h. evenly_filler i _ (image_past p 0 Any zero-le i h)) refl refl

pub average_places : (p : Profile) (i : ℕ) → get_or (rules p EOF) i Filler ≡ evenly i (rule_within i (image_start p) (image_start p + averages_reach p) Pixel)
unfolding rule_within
average_places =
    read_off EOF (λ p i. evenly i (rule_within i (image_start p) (image_start p + averages_reach p) Pixel)) (λ p i h. evenly_filler i _ (averages_past p i h)) refl refl
