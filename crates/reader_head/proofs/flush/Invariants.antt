-- After i turns the window has been pushed by i zeros, so 8 - i are left; eight turns empty it.
use mathlib.Core.Path.{◌≡◌}
use Prim.Native.Nat.{◌-◌}
use Rattle.reader_head.specs.Head.{flushed}
use Rattle.reader_head.proofs.flush.Given as goal

abbrev pub invariant-loop-i : goal.invariant-loop-i
invariant-loop-i l = flushed (8 - l._i) l.g ≡ flushed 8 l.initial.g
