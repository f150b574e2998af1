-- Bytes that are quiet within a body change the window and the count, and go into the body.
use Prim.Native.Nat.{ℕ, ◌-◌, ◌/◌, ◌<◌}
use native.Mathlib.Omega.{arith}
use lib.ListN.{get_or}
use Rattle.stream.specs.Written.{nibbles}
use Rattle.stream.specs.NibblesLaws.{nibbles_length}
use Rattle.capture_bytes.specs.Packed.{Quiet}
use Rattle.capture_bytes.proofs.Blocks.{body_quiet}
use Rattle.capture_bytes.proofs.skip_within.Goals as goal

pub overflow_sub-first : goal.overflow_sub-first
overflow_sub-first c =
    let there : let a = c.args in
    Quiet a.h (nibbles a.bytes.now) a.at c.quiet_bytes-n.result = (c.quiet_bytes-n.ensures.1 (omega (arith, c.if-n-eq0.false))) in
    omega (arith, (there).behind)

pub copy-requires : goal.copy-requires
copy-requires c =
    let there : let a = c.args in
    Quiet a.h (nibbles a.bytes.now) a.at c.quiet_bytes-n.result = (c.quiet_bytes-n.ensures.1 (omega (arith, c.if-n-eq0.false))) in
    let q = there in (
      omega (arith, q.behind, q.up_to, nibbles_length c.args.bytes.now),
      omega arith,
      omega (arith, c.quiet_bytes-n.ensures.0, c.requires.2, c.requires.3),
    )

pub word-window-requires : goal.word-window-requires
word-window-requires c =
    let there : let a = c.args in
    Quiet a.h (nibbles a.bytes.now) a.at c.quiet_bytes-n.result = (c.quiet_bytes-n.ensures.1 (omega (arith, c.if-n-eq0.false))) in
    let q = there in
    (omega (arith, q.behind, q.up_to, nibbles_length c.args.bytes.now), omega arith)

pub overflow_add-next : goal.overflow_add-next
overflow_add-next c =
    let there : let a = c.args in
    Quiet a.h (nibbles a.bytes.now) a.at c.quiet_bytes-n.result = (c.quiet_bytes-n.ensures.1 (omega (arith, c.if-n-eq0.false))) in
    omega (arith, (there).up_to, nibbles_length c.args.bytes.now, c.well_formed.1.1.0.1)

pub returns : goal.returns
returns c =
    let there : let a = c.args in
    Quiet a.h (nibbles a.bytes.now) a.at c.quiet_bytes-n.result = (c.quiet_bytes-n.ensures.1 (omega (arith, c.if-n-eq0.false))) in
    let a = c.args in
    let known : (i : ℕ) → get_or a.bytes.now i 0 < 256 = λ i. (c.shared_slice_known-1.given i).fits in
    let pre = c.requires in
    let few = c.quiet_bytes-n.ensures.0 in
    body_quiet a.bytes.now known (there) a.body.now ((a.h.count - 14) / 2) _ _ (omega (arith, pre.0, pre.1)) (omega (arith, few, pre.2))
    (omega (arith, pre.3)) (omega (arith, few, pre.2)) c.word-window.ensures c.copy.ensures
