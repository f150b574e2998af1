-- After i turns the window has been pushed by i zeros, so 8 - i are left; eight turns empty it.
use mathlib.Core.Path.{refl, sym, ◌∙◌}
use native.Mathlib.Omega.{arith}
use Rattle.reader_head.proofs.Window.{flushed_next, flushed_all}
use Rattle.reader_head.proofs.flush.Goals as goal

pub loop-i-init : goal.loop-i-init
loop-i-init c = refl

pub loop-i-preserved : goal.loop-i-preserved
loop-i-preserved c =
    let l = c.loop-i in
    simp c.shift-g.ensures (sym (flushed_next l._i l.g (omega arith)) ∙ l.invariant)

pub returns : goal.returns
returns c =
    let l = c.loop-i in
    sym (flushed_all l._i l.g (omega arith)) ∙ l.invariant
