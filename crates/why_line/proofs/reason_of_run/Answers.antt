-- The bytes looked at are taken apart, and the run begins at the mark.
use mathlib.Core.Path.{◌≡◌, sym, ap₂, ap, ◌∙◌}
use mathlib.Core.List.{List}
use Prim.Native.Nat.{ℕ, ◌*◌, min}
use native.Mathlib.Omega.{arith}
use lib.ListN.{length}
use lib.Seq.{length-take-le}
use Rattle.reason.specs.Explanation.{explanation}
use Rattle.reason.specs.ValuedLaws.{explanation_told}
use Rattle.why_line.specs.ReasonText.{most_bytes}
use Rattle.why_line.specs.ReasonTextLaws.{run_is}
use Rattle.why_line.proofs.reason_of_run.Goals as goal

pub slice_bounds-all-end : goal.slice_bounds-all-end
slice_bounds-all-end c = sym (length-take-le _ _ (omega (arith, c.unpack-n.ensures.0, c.unpack-n.auto.to)))

pub returns : goal.returns
returns c =
    let a = c.args in
    let u = c.unpack-n.ensures in
    let n : c.unpack-n.result ≡ min (length a.bytes.now) most_bytes = omega (arith, u.0) in
    let i : c.lesser-from.result ≡ min c.nibbles_before.result (2 * c.unpack-n.result) = c.lesser-from.ensures in
    let run = run_is a.bytes.now _ _ c.unpack-n.result c.lesser-from.result a.mark.low n u.1 (i ∙ ap (λ (k : ℕ). min k (2 * c.unpack-n.result)) c.nibbles_before.ensures.0) in
    explanation_told _ _ _ _ c.explain.ensures ∙ ap₂ (λ (p : ℕ) (w : List ℕ). explanation p a.mark.before w) c.number_of.ensures run
