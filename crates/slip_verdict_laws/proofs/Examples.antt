-- The law at work: a frame, and one in whose second line the clip slips over three nibbles. No hypothesis is empty.
use Rattle.std.specs.Prelude.{◌≡◌, List, [], ◌∷◌, ◌++◌, drop}
use Rattle.line_code.specs.declared.Kind.TheVariants.{BK, SOF}
use Rattle.profile.specs.declared.Profile.TheVariants.{VV5404}
use Rattle.recovery.proofs.Examples.{sample}
use Rattle.stream.specs.Written.{Sent}
use Rattle.frame_layout.specs.declared.Borders.TheVariants.{On, Off}
use Rattle.frame_layout.specs.FrameLayout.{layout, kinds_of}
use Rattle.frame_laws.specs.SentFrames.{all_lines}
use Rattle.slip_laws.specs.Slip.{slipped}
use Rattle.slip_laws.proofs.Examples.{samples_from, sample_frame, frames_slip}
use Rattle.verdict.specs.declared.Verdict.TheVariants.{CheckTheClip}
use Rattle.verdict_laws.specs.CleanCapture.{verdict_on}
use Rattle.slip_verdict_laws.proofs.SlipVerdictLaws.{slip_found}

abbrev front : List Sent
front = sample VV5404 SOF 0 ∷ []

abbrev back : List Sent
back = samples_from 2 (drop 2 (kinds_of (layout VV5404 Off)))

pub two_frames_checked : verdict_on VV5404 (slipped (all_lines (sample_frame On ∷ []) ++ front) (sample VV5404 BK 1) (back ++ []) 10 3) ≡ CheckTheClip
two_frames_checked = (slip_found (sample_frame On ∷ []) front (sample VV5404 BK 1) back [] frames_slip.0 frames_slip.1 10 3 frames_slip.2).verdict_is
