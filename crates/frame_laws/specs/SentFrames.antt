-- Whole frames as sent, one straight after another. Definitions only.
use Rattle.std.specs.Prelude.{List, [], ◌∷◌, ◌++◌, map}
use Rattle.line_code.specs.LineCode.{kind_number}
use Rattle.profile.specs.declared.Profile.{Profile}
use Rattle.stream.specs.Written.{Sent}
use Rattle.frame_layout.specs.declared.Borders.{Borders}
use Rattle.frame_judge.specs.Calls.{Line, line, IsFrame}

-- lines that are sent, as they are handed to the judge
abbrev pub judged_line : Sent → Line
judged_line s = line (kind_number s.kind) s.number

-- what the judge is handed of lines as sent
abbrev pub judged_lines : List Sent → List Line
judged_lines ss = map judged_line ss

-- the lines of frames, one frame straight after another
abbrev pub all_lines : List (List Sent) → List Sent
all_lines [] = []
all_lines (ss ∷ fs) = ss ++ all_lines fs

-- each is a whole frame, with borders on or off
pub data AllFrames (p : Profile) : List (List Sent) → Type 0 where
  no_frames : AllFrames p []
  and_frame : (b : Borders) {ss : List Sent} {fs : List (List Sent)} → IsFrame p b (judged_lines ss) → AllFrames p fs → AllFrames p (ss ∷ fs)
