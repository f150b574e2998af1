-- A capture of a clean stream of whole frames that holds one of them whole, and the verdict on it. Definitions only.
use Rattle.std.specs.Prelude.{◌≡◌, List, [], ◌∷◌, ◌++◌, map, ℕ, ◌+◌, ◌≤◌, length}
use Rattle.profile.specs.declared.Profile.{Profile}
use Rattle.stream.specs.Answers.{answer_for}
use Rattle.stream.specs.Stream.{State, fresh, finish, run, outcomes}
use Rattle.stream.specs.Written.{Sent, stream}
use Rattle.recovery.specs.Calls.{up_to_end}
use Rattle.frame_laws.specs.SentFrames.{all_lines}
use Rattle.findings.specs.declared.Findings.{Findings}
use Rattle.verdict.specs.declared.Verdict.{Verdict}
use Rattle.verdict.specs.Verdict.{is_lost, verdict_of}
use Rattle.verdict_laws.specs.CaptureVerdict.{capture_findings}

-- the n nibbles from the place i on hold one of the frames, from the start mark of its first line through the end code of its last
pub record HoldsFrame (fs : List (List Sent)) (i n : ℕ) : Type 0 where
  pub earlier : List (List Sent)
  pub front : List Sent
  pub last_line : Sent
  pub later : List (List Sent)
  pub one_of : fs ≡ earlier ++ ((front ++ (last_line ∷ [])) ∷ later)
  pub starts_after : i ≤ length (stream (all_lines earlier))
  pub ends_before : length (stream (all_lines earlier)) + (length (stream front) + length (up_to_end last_line)) ≤ i + n

-- each frame takes so many nibbles at most
pub data FramesWithin (most : ℕ) : List (List Sent) → Type 0 where
  none_within : FramesWithin most []
  one_within : {ss : List Sent} {fs : List (List Sent)} → length (stream ss) ≤ most → FramesWithin most fs → FramesWithin most (ss ∷ fs)

-- what is found of a capture of these nibbles: from what each of them and finish are answered; and the verdict on it: from that, and how much
-- text the last mark has
abbrev pub findings_on : Profile → List ℕ → Findings
findings_on p w = capture_findings p (map answer_for (outcomes p fresh w)) (answer_for (finish p (run p fresh w)).outcome)

-- the verdict on a capture's nibbles
abbrev pub verdict_on : Profile → List ℕ → Verdict
verdict_on p w =
    let x : State = run p fresh w in
    verdict_of (findings_on p w) (is_lost p x.at (length x.text))
