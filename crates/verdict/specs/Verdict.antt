-- The verdict on a capture: a test of its counts.
use Rattle.std.specs.Prelude.{Bool, false, ◌&&◌, not, cond, ℕ, eqb, leb, ltb}
use Rattle.counts.specs.Counts.{all_zero}
use Rattle.profile.specs.declared.Profile.{Profile}
use Rattle.stream.specs.declared.Mark.{Mark}
use Rattle.stream.specs.declared.Mark.TheVariants.{NoMark, Open}
use Rattle.stream.specs.Written.{most_text}
use Rattle.frame_layout.specs.FrameLayout.{last_place}
use Rattle.signal_tally.specs.declared.First.{First}
use Rattle.signal_tally.specs.declared.First.TheVariants.{Unseen, InsideLine, Other}
use Rattle.findings.specs.declared.Findings.{Findings}
use Rattle.verdict.specs.declared.Verdict.{Verdict}
use Rattle.verdict.specs.declared.Verdict.TheVariants.{Good, CheckTheClip, NotGood, NoSignal}

-- The signal is lost.

-- more nibbles came after the last mark than a clean stream has before the next one: of the mark that is open, with so many nibbles of text
unfoldable pub is_lost : Profile → Mark → ℕ → Bool
is_lost p NoMark n = false
is_lost p (Open before code) n = ltb (most_text p) n

-- The verdict.

-- nothing is out of order: no frame is broken, no line is outside a frame but less than a frame's worth before the first, no refused mark
-- counts, and the signal is not lost
unfoldable pub in_order : Findings → Bool → Bool
in_order f lost =
    not lost
    && (eqb f.tally.broken 0
    && (eqb f.outside.later 0 && (leb f.outside.early (last_place f.tally.profile) && all_zero f.signal.refused)))

-- by the frames of a capture with marks
unfoldable pub by_frames : Findings → Bool → Verdict
by_frames f lost = cond (eqb f.tally.complete 0) NotGood (cond (in_order f lost) Good CheckTheClip)

-- no mark, no signal
abbrev pub by_first : Verdict → First → Verdict
by_first v Unseen = NoSignal
by_first v InsideLine = v
by_first v Other = v

-- the verdict on what was found
unfoldable pub verdict_of : Findings → Bool → Verdict
verdict_of f lost = by_first (by_frames f lost) f.signal.first
