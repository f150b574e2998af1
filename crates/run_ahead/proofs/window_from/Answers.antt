-- Four bytes slid into an empty window.
use Prim.Native.Nat.{◌+◌}
use native.Mathlib.Omega.{arith}
use Rattle.run_ahead.proofs.Blocks.{window_slid}
use Rattle.run_ahead.proofs.window_from.Goals as goal

pub slide_byte-w-requires : goal.slide_byte-w-requires
slide_byte-w-requires c =
    let i = c.args.i in
    let h = c.requires.1 in (omega (arith, c.requires.0), h i (omega arith) (omega arith), h (i + 1) (omega arith) (omega arith))

pub slide_byte-w-requires-2 : goal.slide_byte-w-requires-2
slide_byte-w-requires-2 c =
    let i = c.args.i in
    let h = c.requires.1 in (omega (arith, c.requires.0), h (i + 2) (omega arith) (omega arith), h (i + 2 + 1) (omega arith) (omega arith))

pub slide_byte-w-requires-3 : goal.slide_byte-w-requires-3
slide_byte-w-requires-3 c =
    let i = c.args.i in
    let h = c.requires.1 in (omega (arith, c.requires.0), h (i + 4) (omega arith) (omega arith), h (i + 4 + 1) (omega arith) (omega arith))

pub slide_byte-requires : goal.slide_byte-requires
slide_byte-requires c =
    let i = c.args.i in
    let h = c.requires.1 in (omega (arith, c.requires.0), h (i + 6) (omega arith) (omega arith), h (i + 6 + 1) (omega arith) (omega arith))

pub returns : goal.returns
returns c =
    simp (c.slide_byte.ensures, c.slide_byte-w-3.ensures, c.slide_byte-w-2.ensures, c.slide_byte-w.ensures) (window_slid c.args.s.now c.args.i c.requires.1)
