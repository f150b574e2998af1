-- At each turn what is left brings what the whole does; a run takes some nibbles, until something is said, or none is left.
use mathlib.Core.Path.{◌≡◌, refl, sym, ◌∙◌}
use Prim.Native.Nat.{◌-◌, ◌*◌}
use native.Mathlib.Omega.{arith}
use lib.ListN.{length}
use borrow.Author.Rules.{rules}
use Rattle.profile.specs.Profile.{longest}
use Rattle.reader_laws.proofs.Passes.{passed}
use Rattle.frame_grabber.specs.FrameGrabber.{blank}
use Rattle.frame_grabber.proofs.Runs.{reader, Along, along_start, taken_fits, left_less, along_next, along_end, refused_state}
use Rattle.frame_grabber.proofs.Grabber.grab.Given as goal

abbrev pub invariant-loop-progress : goal.invariant-loop-progress
invariant-loop-progress l = Along (reader l.initial.head l.initial.body) l.initial.gatherer l.input l.initial.rows l.from l.at l.head l.body l.gatherer l.progress l.rows × (length l.body ≡ longest) × (length l.rows ≡ length l.initial.rows)

abbrev pub decreases-loop-progress : goal.decreases-loop-progress
decreases-loop-progress l = 2 * length l.input - l.at
