-- Beyond the end nothing is put; with room for it the text is put whole, and else as far as there is room.
use Prim.Native.Nat.{◌-◌}
use native.Mathlib.Omega.{arith}
use lib.ListN.{length}
use Rattle.text.specs.PutLaws.{puts_full, puts_whole, puts_cut}
use Rattle.text.proofs.put.Goals as goal

pub returns-then-out-at : goal.returns-then-out-at
returns-then-out-at c = puts_full _ _ _ c.if-out-at.true

pub returns-then-n-room : goal.returns-then-n-room
returns-then-n-room c =
    let text = c.args.text.now in
    puts_whole text (length text) (omega arith) c.copy.ensures

pub returns : goal.returns
returns c =
    let a = c.args in
    puts_cut a.text.now (length a.out.now - a.at) (omega (arith, c.if-out-at.false)) c.copy-2.ensures
