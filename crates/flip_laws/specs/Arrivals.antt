-- Lines that arrive with bits of their codes flipped: their nibbles, the state that they leave, and what comes out. Definitions only.
use Rattle.std.specs.Prelude.{◌≡◌, List, [], ◌∷◌, ◌++◌, map, ℕ}
use Rattle.std.proofs.Math.Option.{Option, none, some}
use Rattle.line_code.specs.declared.Repair.{Repair}
use Rattle.profile.specs.declared.Profile.{Profile}
use Rattle.stream.specs.declared.Before.{Before}
use Rattle.stream.specs.declared.Before.TheVariants.{NoLine, RefusedLine, HandedOut}
use Rattle.stream.specs.declared.Mark.{Mark}
use Rattle.stream.specs.declared.Mark.TheVariants.{Open}
use Rattle.stream.specs.Stream.{State, run, outcomes}
use Rattle.stream.specs.Written.{Sent, mark_of, content, tail}
use Rattle.recovery.specs.Collected.{nothings}
use Rattle.recovery.specs.Resync.{state_with}
use Rattle.recovery.specs.ReadBack.{seven_then, written_with, gap_text}
use Rattle.flip_laws.specs.Flips.{Arrived, repair_by, start_answer}
use Rattle.flip_laws.specs.FlippedCodes.{start_code, ending_code}

-- what the start mark is to the end mark
abbrev pub left_by : Sent → Option Repair → Option Repair → Before
left_by s none end = NoLine
left_by s (some r) none = RefusedLine s.kind
left_by s (some r) (some q) = HandedOut s.kind

-- its nibbles
abbrev pub arrival : Arrived → List ℕ
arrival a = written_with (start_code a) (ending_code a) a.sent

-- the end mark, when the start mark has been answered
abbrev pub end_of : Arrived → Mark
end_of a = Open (left_by a.sent (repair_by a.start) (repair_by a.end)) (ending_code a)

-- the state that they lead to: the end mark open, the gap and the nulls its text
abbrev pub leaves : Arrived → State
leaves a = state_with (end_of a) (gap_text (ending_code a) a.sent)

-- what the nibbles of a line bring in any state, and where they lead
pub record LineArrives (p : Profile) (a : Arrived) (x : State) : Type 0 where
  -- after the start mark they bring nothing, but that the end code's last nibble brings the start mark's answer
  pub told : outcomes p x (arrival a)
      ≡ outcomes p x (mark_of (start_code a)) ++ (nothings (content a.sent) ++ (seven_then (start_answer a) ++ nothings (tail a.sent)))
  -- and they lead there
  pub leads : run p x (arrival a) ≡ leaves a

-- what was sent
abbrev pub all_sent : List Arrived → List Sent
all_sent all = map (λ a. a.sent) all

-- their nibbles
abbrev pub arriving : List Arrived → List ℕ
arriving [] = []
arriving (a ∷ later) = arrival a ++ arriving later
