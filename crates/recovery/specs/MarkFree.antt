-- Nibbles that complete no mark, and rules under which a body holds none. Definitions only.
use Rattle.std.specs.Prelude.{◌≡◌, Bool, true, false, List, [], ◌∷◌, ℕ}
use Rattle.profile.specs.declared.Profile.{Profile}
use Rattle.profile.specs.declared.Rule.{Rule}
use Rattle.profile.specs.declared.Rule.TheVariants.{Filler, Pixel, Any}
use Rattle.stream.specs.declared.Mark.{Mark}
use Rattle.stream.specs.Stream.{run, outcomes}
use Rattle.recovery.specs.Marks.{onto}
use Rattle.recovery.specs.Collected.{nothings}
use Rattle.recovery.specs.Resync.{state_with}

-- the nibbles w only lengthen the text t of the mark m
pub record Lengthens (p : Profile) (m : Mark) (t w : List ℕ) : Type 0 where
  pub state : run p (state_with m t) w ≡ state_with m (onto t w)
  pub told : outcomes p (state_with m t) w ≡ nothings w

-- rules under which every byte of any value is followed by 07
abbrev pub spaced_out : List Rule → Bool
spaced_out [] = true
spaced_out (Filler ∷ rs) = spaced_out rs
spaced_out (Pixel ∷ rs) = spaced_out rs
spaced_out (Any ∷ []) = false
spaced_out (Any ∷ Filler ∷ rs) = spaced_out rs
spaced_out (Any ∷ Pixel ∷ rs) = false
spaced_out (Any ∷ Any ∷ rs) = false
