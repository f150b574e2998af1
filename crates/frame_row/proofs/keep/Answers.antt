-- A row fits where the line buffer holds a whole body and there is room after the bytes kept; then it is put there.
use mathlib.Core.Path.{refl, sym, subst, ◌∙◌}
use Prim.Native.Nat.{ℕ, ◌+◌, ◌≤◌}
use native.Mathlib.Omega.{arith}
use borrow.Author.Tests.{leb-true, eq-eqb, ne_eqb}
use lib.Seq.{length-take-le}
use lib.ListN.{length, take, length-take}
use Rattle.profile.specs.Profile.{width}
use Rattle.frame_row.specs.FrameRow.{row_fits}
use Rattle.frame_row.proofs.keep.Goals as goal

pub returns-then-line-lt-WIDTH : goal.returns-then-line-lt-WIDTH
unfolding row_fits
returns-then-line-lt-WIDTH c =
    let l = c.args.line.now in
    let short = ne_eqb (length (take width l)) width (λ e. omega (arith, e, length-take width l)) in
    record { ending = simp short; leaves = simp short }

pub slice_bounds-put_row-end : goal.slice_bounds-put_row-end
slice_bounds-put_row-end c =
    sym (length-take-le width c.args.line.now c.if-line-lt-WIDTH.false)

pub put_row-requires : goal.put_row-requires
put_row-requires c =
    let args = c.args in
    (length-take-le width args.line.now c.if-line-lt-WIDTH.false, subst (λ (n : ℕ). args.kept + n ≤ length args.rows.now) c.row_size-size.ensures (leb-true (args.kept + c.row_size-size.result) (length args.rows.now) (sym c.has_room.ensures ∙ c.if-has_room.true)))

pub overflow_add-result : goal.overflow_add-result
overflow_add-result c =
    let args = c.args in
    omega (arith, leb-true (args.kept + c.row_size-size.result) (length args.rows.now) (sym c.has_room.ensures ∙ c.if-has_room.true))

pub returns-then-has_room : goal.returns-then-has_room
unfolding row_fits
returns-then-has_room c =
    let l = c.args.line.now in
    let whole = eq-eqb (length (take width l)) width (length-take-le width l c.if-line-lt-WIDTH.false) in
    record {
      ending = simp (whole, ← c.row_size-size.ensures, ← c.has_room.ensures, c.if-has_room.true);
      leaves = simp (whole, ← c.row_size-size.ensures, ← c.has_room.ensures, c.if-has_room.true) c.put_row.ensures;
    }

pub returns : goal.returns
unfolding row_fits
returns c =
    let l = c.args.line.now in
    let whole = eq-eqb (length (take width l)) width (length-take-le width l c.if-line-lt-WIDTH.false) in
    record {
      ending = simp (whole, ← c.row_size-size.ensures, ← c.has_room.ensures, c.if-has_room.false);
      leaves = simp (whole, ← c.row_size-size.ensures, ← c.has_room.ensures, c.if-has_room.false);
    }
