-- Laws of what came: the places below one, from the last of them down.
use Rattle.std.specs.Prelude.{◌≡◌, ◌&&◌, List, ℕ, zero, suc, ◌-◌, ◌<◌}
use Rattle.std.proofs.Common.{ap, not-suc-le-zero, arith}
use Rattle.line_code.specs.LineCode.{kind_number}
use Rattle.profile.specs.declared.Profile.{Profile}
use Rattle.frame_layout.specs.declared.Borders.{Borders}
use Rattle.frame_layout.specs.FrameLayout.{kind_at_place}
use Rattle.coverage.specs.Coverage.{has_come, all_came}

-- the last of them, and those below it
pub came_step : (p : Profile) (b : Borders) (came : List ℕ) (n : ℕ) → 0 < n
    → all_came p b came n ≡ (has_come came (kind_number (kind_at_place p b (n - 1))) (n - 1) && all_came p b came (n - 1))
came_step p b came zero h = absurd (not-suc-le-zero h)
came_step p b came (suc n) h = ap (λ (k : ℕ). has_come came (kind_number (kind_at_place p b k)) k && all_came p b came k) (omega arith)
