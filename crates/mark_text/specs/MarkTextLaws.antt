-- The place from which a gap holds nothing but F is no later than a body's.
use Rattle.std.specs.Prelude.{◌≤◌}
use Rattle.std.proofs.Common.{lit≤}
use Rattle.profile.specs.declared.Profile.{Profile}
use Rattle.profile.specs.declared.Profile.TheVariants.{VV5404, VV5300}
use Rattle.profile.specs.Profile.{gap_start}
use Rattle.mark_text.specs.MarkText.{body_place}

pub gap_start_small : (p : Profile) → gap_start p ≤ body_place
gap_start_small VV5404 = lit≤ tt
gap_start_small VV5300 = lit≤ tt
