-- Past the body, or within it; at an odd count one nibble goes before, that completes no mark.
use mathlib.Core.Path.{sym, ap, ◌∙◌}
use Prim.Native.Nat.{ℕ, ◌<◌}
use native.Mathlib.Omega.{arith}
use lib.ListN.{length, get_or}
use borrow.Author.Rules.{rules}
use Rattle.reader_head.specs.declared.Head.{Head}
use Rattle.reader_laws.proofs.Passes.{passed}
use Rattle.capture_bytes.proofs.Blocks.{bump_one, leave_length, leads_on, nibble_first}
use Rattle.capture_bytes.proofs.skip_sound.Goals as goal

pub skip_past-requires : goal.skip_past-requires
skip_past-requires c = (search rules, (passed c.args.h c.requires.2).count_small)

pub returns-then-h-ge-PAST : goal.returns-then-h-ge-PAST
returns-then-h-ge-PAST c = c.skip_past.ensures _

pub overflow_add-at : goal.overflow_add-at
overflow_add-at c =
    omega (arith, c.if-bytes-at.false, c.well_formed.1.1.0.1)

pub skip_within-requires-2 : goal.skip_within-requires-2
skip_within-requires-2 c =
    let past = c.if-h-ge-PAST.false in
    let a = c.args in
    let pre = c.requires in
    let n = ap (λ (h : Head). h.count) c.shift.ensures ∙ bump_one a.h.count (omega (arith, past)) in (
      omega (arith, n, pre.0),
      omega (arith, n, c.if-h-eq0.false),
      omega (arith, n, past),
      ap length c.leave_body.ensures ∙ leave_length a.h a.body.now ∙ pre.1,
    )

pub returns : goal.returns
returns c =
    let a = c.args in
    let known : (i : ℕ) → get_or a.bytes.now i 0 < 256 = λ i. (c.shared_slice_known-1.given i).fits in
    leads_on
    (nibble_first a.bytes.now known a.h a.body.now a.at _ _ (omega (arith, c.if-bytes-at.false)) c.nibble_at-nibble.ensures
    c.slide.ensures (sym c.is_mark.ensures ∙ c.if-is_mark.false) c.shift.ensures
    c.leave_body.ensures)
    c.skip_within-2.ensures
