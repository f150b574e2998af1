-- The part that is added up is the half, since the image starts where the profile says.
use mathlib.Core.Path.{◌∙◌}
use Rattle.half_means.proofs.Adding.{part_is}
use Rattle.half_means.proofs.half_sum.Goals as goal

pub returns : goal.returns
returns c =
    let a = c.args in
    c.total.ensures ∙ part_is a.body.now a.place _ c.image_start.ensures
