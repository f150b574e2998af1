-- The verdict on a capture of whole frames with a slip (02, A14), as a statement: CHECK THE CLIP where another frame is whole. Definitions only;
-- SlipVerdictLaws.antt proves it.
use Rattle.std.specs.Prelude.{◌≡◌, List, [], ◌∷◌, ◌++◌, ℕ}
use Rattle.profile.specs.declared.Profile.TheVariants.{VV5404}
use Rattle.stream.specs.Written.{Sent}
use Rattle.slip_laws.specs.SlipFrames.{OneFrameUncounted}
use Rattle.verdict.specs.declared.Verdict.{Verdict}
use Rattle.verdict.specs.declared.Verdict.TheVariants.{CheckTheClip, NotGood}
use Rattle.verdict_report.specs.Report.{verdict_line}
use Rattle.list_frames.specs.FrameLister.{fresh_lister, list_after, end_text}
use Rattle.verdict_laws.specs.CleanCapture.{findings_on, verdict_on}
use Rattle.verdict_laws.specs.ListedVerdict.{EndsIn}

-- the verdict, by the frames besides the one that the slip fell in: without them no frame is complete
abbrev pub slip_verdict : List (List Sent) → Verdict
slip_verdict [] = NotGood
slip_verdict (f ∷ others) = CheckTheClip

-- what is found of the nibbles w of a capture: the frames fs, one with a slip after its lines front, and the frames gs
pub record FoundWithSlip (fs : List (List Sent)) (front : List Sent) (gs : List (List Sent)) (w : List ℕ) : Type 0 where
  -- the others are counted complete, and this one broken, if it was opened
  pub one_uncounted : OneFrameUncounted fs front gs (findings_on VV5404 w).tally
  pub verdict_is : verdict_on VV5404 w ≡ slip_verdict (fs ++ gs)
  -- and `frames` writes that last
  pub verdict_told : EndsIn (end_text (list_after (fresh_lister VV5404) w)) (verdict_line (slip_verdict (fs ++ gs)))
