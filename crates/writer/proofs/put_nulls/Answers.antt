-- At each turn as many null bytes are stored as are done, two places each, so there is room for the rest; those left fall.
use native.Mathlib.Omega.{arith}
use mathlib.Core.Path.{◌≡◌}
use borrow.Author.Rules.{rules}
use lib.ListN.{length-replicate}
use Rattle.profile.specs.Profile.{null_byte}
use Rattle.writer.proofs.Putting.{put_none, put_again}
use Rattle.writer.proofs.put_nulls.Goals as goal

pub loop-done-init : goal.loop-done-init
loop-done-init c = (search rules, put_none _ _)

pub put_byte-place-requires : goal.put_byte-place-requires
put_byte-place-requires c = omega (arith, length-replicate c.args.count null_byte)

pub loop-done-preserved : goal.loop-done-preserved
loop-done-preserved c =
    (search rules, put_again null_byte c.loop-done._done c.loop-done.invariant.1 c.put_byte-place.ensures)

pub returns : goal.returns
returns c =
    let l = c.loop-done in
    let e : l._done ≡ c.args.count = omega arith in
    rw e at l.invariant.1
