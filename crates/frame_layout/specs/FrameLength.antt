-- How many lines a frame has: those up to its last place.
use Rattle.std.specs.Prelude.{◌≡◌, refl, ◌+◌, length}
use Rattle.profile.specs.declared.Profile.{Profile}
use Rattle.profile.specs.declared.Profile.TheVariants.{VV5404, VV5300}
use Rattle.frame_layout.specs.declared.Borders.{Borders}
use Rattle.frame_layout.specs.declared.Borders.TheVariants.{On, Off}
use Rattle.frame_layout.specs.FrameLayout.{layout, kinds_of, last_place}

pub frame_length : (p : Profile) (b : Borders) → length (kinds_of (layout p b)) ≡ last_place p + 1
frame_length VV5404 On = refl
frame_length VV5404 Off = refl
frame_length VV5300 On = refl
frame_length VV5300 Off = refl
