-- Each test that fails gives 0; past them all the bytes are quiet, by what is told of them.
use mathlib.Core.Path.{◌∙◌}
use Prim.Native.Nat.{ℕ, ◌<◌}
use native.Mathlib.Omega.{arith}
use lib.ListN.{get_or}
use borrow.Author.Rules.{rules}
use Rattle.capture_bytes.proofs.Blocks.{quiet_far, quiet_null}
use Rattle.capture_bytes.proofs.quiet_bytes.Goals as goal

none : 0 < 0 → ⊥
none l = omega arith

pub returns-then-at-lt8 : goal.returns-then-at-lt8
returns-then-at-lt8 c = (search rules, λ l. absurd (none l))

pub returns-then-bytes-i : goal.returns-then-bytes-i
returns-then-bytes-i c = (search rules, λ l. absurd (none l))

pub returns-then-h-word : goal.returns-then-h-word
returns-then-h-word c = (search rules, λ l. absurd (none l))

pub returns-then-may_begin-gt0 : goal.returns-then-may_begin-gt0
returns-then-may_begin-gt0 c = (search rules, λ l. absurd (none l))

pub returns-then-kept : goal.returns-then-kept
returns-then-kept c =
    let a = c.args in
    let known : (i : ℕ) → get_or a.bytes.now i 0 < 256 = λ i. (c.shared_slice_known-1.given i).fits in
    let e = c.far_bytes.ensures in
    let m = c.lesser-most.ensures in (
      omega (arith, e.0, m),
      λ l. quiet_far a.bytes.now known a.h a.at c.far_bytes.result c.if-at-lt8.false (omega (arith, e.0, m, c.if-bytes-i.false))
          (c.if-h-word.false ∙ c.word.ensures) c.if-kept.true
          (c.may_begin.ensures.1 (omega (arith, c.if-may_begin-gt0.false))) e.1,
    )

pub returns-then-is_null : goal.returns-then-is_null
returns-then-is_null c =
    let a = c.args in
    let known : (i : ℕ) → get_or a.bytes.now i 0 < 256 = λ i. (c.shared_slice_known-1.given i).fits in
    let e = c.null_bytes.ensures in
    let m = c.lesser-most.ensures in (
      omega (arith, e.0, m),
      λ l. quiet_null a.bytes.now known a.h a.at c.null_bytes.result c.if-at-lt8.false (omega (arith, e.0, m, c.if-bytes-i.false))
          (c.if-h-word.false ∙ c.word.ensures) (c.is_null.ensures c.if-is_null.true).1 e.1,
    )

pub returns : goal.returns
returns c = (search rules, λ l. absurd (none l))
