-- Where a body holds something else than the filler, as ranges of places: what the code's private functions compute.
use Rattle.std.specs.Prelude.{cond, ℕ, ◌+◌, ◌-◌, ◌%◌, eqb, ltb}
use Rattle.profile.specs.declared.Profile.{Profile}
use Rattle.profile.specs.declared.Profile.TheVariants.{VV5404, VV5300}
use Rattle.profile.specs.declared.Rule.{Rule}
use Rattle.profile.specs.declared.Rule.TheVariants.{Filler}
use Rattle.profile.specs.Profile.{image_start, image_length}

-- the border bytes on either side of the image
abbrev pub border : Profile → ℕ
border VV5404 = 0
border VV5300 = 2

-- how far into the image of an EOF line bin averages reach
abbrev pub averages_reach : Profile → ℕ
averages_reach VV5404 = 0
averages_reach VV5300 = 8

-- a rule, from one place up to another; elsewhere the filler
unfoldable pub rule_within : ℕ → ℕ → ℕ → Rule → Rule
rule_within i from to r = cond (ltb i from) Filler (cond (ltb i to) r Filler)

-- a rule, within the image and a margin on either side of it
abbrev pub image_within : Profile → ℕ → ℕ → Rule → Rule
image_within p margin i r = rule_within i (image_start p - margin) (image_start p + image_length p + margin) r

-- a rule at even places; at odd ones the filler
abbrev pub evenly : ℕ → Rule → Rule
evenly i r = cond (eqb (i % 2) 1) Filler r
