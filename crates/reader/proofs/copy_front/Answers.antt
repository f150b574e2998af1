-- At each turn the first i bytes are those of the source and the rest is as it was.
use mathlib.Core.Path.{refl, ap, ◌∙◌}
use native.Mathlib.Omega.{arith}
use lib.ListN.{length-set}
use Rattle.reader.specs.Parts.{copied}
use Rattle.reader.proofs.Copy.{copied_next}
use Rattle.reader.proofs.copy_front.Goals as goal

pub loop-i-init : goal.loop-i-init
loop-i-init c = (refl, refl)

pub loop-i-preserved : goal.loop-i-preserved
loop-i-preserved c =
    let a = c.args in
    let l = c.loop-i in
    (simp l.invariant.0 (copied_next a.to.now a.from.now l.i (omega arith) (omega arith)), simp length-set l.invariant.1)

pub returns : goal.returns
returns c =
    let a = c.args in
    let l = c.loop-i in
    l.invariant.0 ∙ ap (copied a.to.now a.from.now) (omega arith)
