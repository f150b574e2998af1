-- Two frames' worth of a clean stream of frames are GOOD, as they hold a whole frame (LongEnough).
use Rattle.std.specs.Prelude.{◌≡◌, List, ℕ, ◌+◌, ◌*◌, ◌≤◌, ◌<◌, length}
use Rattle.profile.specs.declared.Profile.{Profile}
use Rattle.stream.specs.Written.{Sent, AllWritable, stream}
use Rattle.recovery.specs.CutStream.{cut_out}
use Rattle.verdict.specs.declared.Verdict.TheVariants.{Good}
use Rattle.frame_laws.specs.SentFrames.{all_lines, AllFrames}
use Rattle.verdict_laws.specs.CleanCapture.{FramesWithin, verdict_on}
use Rattle.verdict_laws.proofs.CleanCaptureLaws.{clean_good}
use Rattle.verdict_laws.proofs.LongEnough.{two_frames_hold}

-- and so it is GOOD
pub two_frames_good : (p : Profile) {fs : List (List Sent)} → AllFrames p fs → AllWritable p (all_lines fs) → (most : ℕ) → FramesWithin most fs → (i n : ℕ) → 0 < n → 2 * most ≤ n
    → i + n ≤ length (stream (all_lines fs)) → verdict_on p (cut_out (all_lines fs) i n) ≡ Good
two_frames_good p h g most w i n z l e = clean_good p h g i n (two_frames_hold p h most w i n z l e)
