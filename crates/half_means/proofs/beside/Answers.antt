-- The two means are the sums' sixty-fourths, and each difference is read back from its bits.
use mathlib.Core.Path.{◌≡◌}
use lib.Ieee.{Float}
use Rattle.half_means.specs.HalfMeans.{means, beside_of, sixty_fourth}
use Rattle.half_means.proofs.Signs.{kept}
use Rattle.half_means.proofs.beside.Goals as goal

pub returns : goal.returns
unfolding beside_of
returns c =
    let a = c.args in
    let mean : ◌≡◌ {A = Float} _ (sixty_fourth a.s) = c.mean.ensures in
    let mean2 : ◌≡◌ {A = Float} _ (sixty_fourth a.t) = c.mean-2.ensures in
    let difference = kept _ a.first a.s c.ranges.first.fits c.ranges.s.fits c.difference.ensures in
    let difference2 = kept _ a.second a.t c.ranges.second.fits c.ranges.t.fits c.difference-2.ensures in
    λ i. means (mean i) (mean2 i) a.s a.t (difference i) (difference2 i)
