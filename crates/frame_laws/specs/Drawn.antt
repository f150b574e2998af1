-- A VV5300 frame as 000 draws it, line by line, with each border setting: Complete at its last line.
use Rattle.std.specs.Prelude.{◌≡◌, refl, ◌∷◌, [], ◌++◌, replicate}
use Rattle.line_code.specs.declared.Kind.TheVariants.{BL, BK, VL, SOF, EOF}
use Rattle.profile.specs.declared.Profile.TheVariants.{VV5300}
use Rattle.frame_judge.specs.declared.Judge.TheVariants.{Waiting}
use Rattle.frame_judge.specs.declared.Ruling.TheVariants.{Going, Complete}
use Rattle.frame_layout.specs.FrameLayout.{kind_at_place}
use Rattle.frame_judge.specs.Frame.{judge_of}
use Rattle.frame_judge.specs.Calls.{rulings, numbered_from}

-- a status line, 2 black, 8 blank, 124 visible and 10 blank lines, the end of frame, a blank line
pub drawn_on :
    rulings VV5300 Waiting
    (numbered_from 0 (SOF ∷ BK ∷ BK ∷ (replicate 8 BL ++ (replicate 124 VL ++ (replicate 10 BL ++ (EOF ∷ BL ∷ []))))))
    ≡ replicate 146 Going ++ (Complete ∷ [])
unfolding kind_at_place judge_of
drawn_on = refl

-- 10 blank, 120 visible and 12 blank lines instead
pub drawn_off :
    rulings VV5300 Waiting
    (numbered_from 0 (SOF ∷ BK ∷ BK ∷ (replicate 10 BL ++ (replicate 120 VL ++ (replicate 12 BL ++ (EOF ∷ BL ∷ []))))))
    ≡ replicate 146 Going ++ (Complete ∷ [])
unfolding kind_at_place judge_of
drawn_off = refl
