-- At each turn as many null bytes are stored as are done, two places each, so there is room for the rest; those left fall.
use mathlib.Core.Path.{◌≡◌}
use Prim.Native.Nat.{◌+◌, ◌*◌}
use lib.ListN.{replicate}
use Rattle.profile.specs.Profile.{null_byte}
use Rattle.writer.specs.Parts.{PutNibbles}
use Rattle.writer.proofs.put_nulls.Given as goal

abbrev pub invariant-loop-done : goal.invariant-loop-done
invariant-loop-done l = (l.place ≡ l.at + 2 * l._done) × PutNibbles (replicate l._done null_byte) l.initial.buffer l.at l.place l.buffer
