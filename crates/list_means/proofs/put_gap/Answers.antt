-- What is said of the halves is that of the body, which is the line buffer's front.
use Rattle.std.specs.Prelude.{Result}
use mathlib.Core.Path.{◌≡◌, sym, ap₂, subst, ◌∙◌}
use Prim.Native.Nat.{ℕ}
use native.Mathlib.Omega.{arith}
use lib.ListN.{take}
use lib.Seq.{length-take-le}
use Rattle.text.specs.Put.{Put}
use Rattle.refusal.specs.declared.Refusal.{Refusal}
use Rattle.half_means.specs.declared.Halves.{Halves}
use Rattle.half_means.specs.HalfMeans.{halves_of}
use Rattle.half_means.specs.HalfMeansLaws.{values_tell}
use Rattle.mean_rows.specs.MeanRows.{means_row}
use Rattle.list_means.specs.MeanLister.{gap_row}
use borrow.Author.Rules.{rules}
use Rattle.list_means.proofs.put_gap.Goals as goal

pub slice_bounds-body-end : goal.slice_bounds-body-end
slice_bounds-body-end c = sym (length-take-le _ _ (omega (arith, c.body_length.ensures, c.before.before.before.before.requires.0)))

pub returns : goal.returns
unfolding gap_row halves_of
returns c =
    let a = c.before.before.before.args in
    let g = a.gap in
    let same : c.of_line-halves.result ≡ halves_of 1 3 (take 168 a.line.now) g.first g.second =
    values_tell _ _ c.of_line-halves.ensures
    ∙ ap₂ (λ (k n : ℕ). halves_of 1 k (take n a.line.now) g.first g.second) c.number.ensures c.body_length.ensures in
    subst (λ (h : Result Halves Refusal). Put a.out.now a.at (means_row a.number g.first g.second h) c.put_row.result c.put_row.new.out) same c.put_row.ensures
