-- Each byte is read from inside the line, and put where the order has it.
use native.Mathlib.Omega.{arith}
use borrow.Author.Rules.{rules}
use Rattle.pixel_order.proofs.PixelOrderLaws.{source_inside}
use Rattle.pixel_order.proofs.Putting.{put_next, put_all}
use Rattle.pixel_order.proofs.put.Goals as goal

pub bounds-from-source : goal.bounds-from-source
bounds-from-source c = omega (arith, source_inside c.args.way c.loop-i.i c.loop-i-test.true, c.source.ensures)

pub loop-i-preserved : goal.loop-i-preserved
loop-i-preserved c = put_next _ _ _ _ _ _ c.loop-i-test.true (search rules) c.loop-i.invariant c.source.ensures

pub returns : goal.returns
returns c = put_all _ _ _ _ c.loop-i.i (omega arith) c.loop-i.invariant
