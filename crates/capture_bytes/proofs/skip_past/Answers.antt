-- Bytes that are quiet past a body change the window and the count.
use Prim.Native.Nat.{ℕ, ◌<◌}
use native.Mathlib.Omega.{arith}
use lib.ListN.{get_or}
use Rattle.stream.specs.Written.{nibbles}
use Rattle.stream.specs.NibblesLaws.{nibbles_length}
use Rattle.capture_bytes.specs.Packed.{Quiet}
use Rattle.capture_bytes.proofs.Blocks.{leads_here, past_quiet}
use Rattle.capture_bytes.proofs.skip_past.Goals as goal

pub returns-then-n-eq0 : goal.returns-then-n-eq0
returns-then-n-eq0 c = let a = c.args in λ body. leads_here (nibbles a.bytes.now) a.h body a.at

pub overflow_sub-at : goal.overflow_sub-at
overflow_sub-at c =
    let there : let a = c.args in Quiet a.h (nibbles a.bytes.now) a.at c.quiet_bytes-n.result = (c.quiet_bytes-n.ensures.1 (omega (arith, c.if-n-eq0.false))) in
    omega (arith, (there).behind)

pub word-window-requires : goal.word-window-requires
word-window-requires c =
    let there : let a = c.args in Quiet a.h (nibbles a.bytes.now) a.at c.quiet_bytes-n.result = (c.quiet_bytes-n.ensures.1 (omega (arith, c.if-n-eq0.false))) in
    let q = there in
    (omega (arith, q.behind, q.up_to, nibbles_length c.args.bytes.now), omega arith)

pub overflow_add-next : goal.overflow_add-next
overflow_add-next c =
    let there : let a = c.args in Quiet a.h (nibbles a.bytes.now) a.at c.quiet_bytes-n.result = (c.quiet_bytes-n.ensures.1 (omega (arith, c.if-n-eq0.false))) in
    omega (arith, (there).up_to, nibbles_length c.args.bytes.now, c.well_formed.1.0.1)

pub returns : goal.returns
returns c =
    let there : let a = c.args in Quiet a.h (nibbles a.bytes.now) a.at c.quiet_bytes-n.result = (c.quiet_bytes-n.ensures.1 (omega (arith, c.if-n-eq0.false))) in
    let a = c.args in
    let known : (i : ℕ) → get_or a.bytes.now i 0 < 256 = λ i. (c.shared_slice_known-1.given i).fits in
    let pre = c.requires in
    λ body. past_quiet a.bytes.now known (there) body _ _ pre.0 pre.1 c.lesser-count.ensures c.word-window.ensures
