-- A slipped clip in a stream of whole frames (02, A14), as a statement: the frame that it fell in isn't Complete, and every other frame is.
-- Definitions only; SlipFramesLaws.antt proves it of the reader that runs.
use Rattle.std.specs.Prelude.{◌≡◌, true, false, List, [], ◌∷◌, ◌++◌, ℕ, ◌+◌, length, replicate}
use Rattle.refusal.specs.Refusal.{broken_line}
use Rattle.counts.specs.Counts.{counting}
use Rattle.counts.specs.CountsLaws.{some}
use Rattle.profile.specs.declared.Profile.TheVariants.{VV5404}
use Rattle.stream.specs.declared.Answer.{Answer}
use Rattle.stream.specs.Written.{Sent, AllWritable}
use Rattle.reader.specs.declared.Reader.{Reader}
use Rattle.refinement.specs.Runs.{RunCall, run_result, FinishLastRun, runs_taken}
use Rattle.frame_judge.specs.declared.Judge.TheVariants as judge
use Rattle.frame_judge.specs.declared.Ruling.{Ruling}
use Rattle.frame_judge.specs.declared.Ruling.TheVariants.{Waiting, Going, Refused}
use Rattle.frame_layout.specs.FrameLayout.{last_place}
use Rattle.frame_judge.specs.Calls.{rulings, is_complete}
use Rattle.frame_handing.specs.Handing.{all_handed}
use Rattle.frame_laws.specs.CompleteFrames.{to_complete}
use Rattle.frame_laws.specs.SentFrames.{all_lines, AllFrames}
use Rattle.frame_tally.specs.declared.Tally.{Tally}
use Rattle.slip_laws.specs.Slip.{slipped, Inside}

-- each of these frames is Complete: the judge answers Going to each of its lines but the last, and Complete to that
abbrev pub all_complete : List (List Sent) → List Ruling
all_complete [] = []
all_complete (f ∷ fs) = to_complete (last_place VV5404) ++ all_complete fs

-- what the judge answers to the first broken line, after these lines of the frame: 19, or Waiting where no line has opened the frame
abbrev pub at_slip : List Sent → Ruling
at_slip [] = Waiting
at_slip (s ∷ ss) = Refused (record { 0 = broken_line })

-- what it answers in the frame that the slip fell in: Going to the lines before it, then this to the first broken line, and Waiting to so many more
-- broken lines and to the lines after it. Where line 0 slipped, all of it is Waiting (LostRulings.antt)
abbrev pub lost : List Sent → List Sent → ℕ → List Ruling
lost front back more = replicate (length front) Going ++ (at_slip front ∷ replicate (more + length back) Waiting)

-- the answers of calls, in order
abbrev pub runs_answers : Reader → List RunCall → List Answer
runs_answers r [] = []
runs_answers r (c ∷ cs) = (run_result r c).answer ∷ runs_answers (run_result r c).reader cs

-- the frames fs and gs are Complete, and between them is the lost one, with the lines front before its slip and back after it
pub record OneFrameLost (fs : List (List Sent)) (front back : List Sent) (gs : List (List Sent)) (told : List Ruling) : Type 0 where
  -- how many broken lines are handed over besides the first, for marks that the join makes
  pub more : ℕ
  pub rulings_are : told ≡ all_complete fs ++ (lost front back more ++ all_complete gs)
  -- none of those in the lost frame is Complete
  pub none_complete : some is_complete (lost front back more) ≡ false

-- of the fresh reader r: for every clean profile 0 stream of whole frames, every slip inside the body of one of its lines, and every list of calls
-- that take what is left, the judge, handed every answer as 01 says, finish's too, finds every frame Complete but the one that the slip fell in
abbrev pub CostsOneFrame : Reader → Type 0
CostsOneFrame r =
    (fs : List (List Sent)) (front : List Sent) (s : Sent) (back : List Sent) (gs : List (List Sent))
    → AllFrames VV5404 (fs ++ ((front ++ (s ∷ back)) ∷ gs))
    → AllWritable VV5404 (all_lines (fs ++ ((front ++ (s ∷ back)) ∷ gs)))
    → (i k : ℕ)
    → Inside s i k
    → (cs : List RunCall)
    → FinishLastRun cs
    → runs_taken r cs ≡ slipped (all_lines fs ++ front) s (back ++ all_lines gs) i k
    → OneFrameLost fs front back gs (rulings VV5404 judge.Waiting (all_handed (runs_answers r cs)))

-- What the tally counts.

-- how many frames the slip breaks, where these lines stand before it in its frame: one, or none where no line has opened the frame
abbrev pub broken_after : List Sent → ℕ
broken_after [] = 0
broken_after (s ∷ ss) = 1

-- the frames fs and gs are counted complete, and the one between them broken, if it was opened
pub record OneFrameUncounted (fs : List (List Sent)) (front : List Sent) (gs : List (List Sent)) (t : Tally) : Type 0 where
  pub others_complete : t.complete ≡ counting (λ (f : List Sent). true) 0 (fs ++ gs)
  pub one_broken : t.broken ≡ broken_after front
