-- Two digits a turn: what is still to be stored of the line's bytes, stored after those that are, gives them all.
use mathlib.Core.Path.{◌≡◌}
use Prim.Native.Nat.{◌+◌, ◌*◌}
use lib.ListN.{length, drop}
use lib.Seq.{sets}
use Rattle.two_wire_text.specs.Hex.{bytes_of}
use Rattle.two_wire_text.proofs.decode.Given as goal

abbrev pub invariant-loop-i : goal.invariant-loop-i
invariant-loop-i l =
    (l.i + length (bytes_of (drop (3 * l.i) l.line)) ≡ length (bytes_of l.line))
    × (sets l.bytes l.i (bytes_of (drop (3 * l.i) l.line)) ≡ sets l.initial.bytes 0 (bytes_of l.line))
