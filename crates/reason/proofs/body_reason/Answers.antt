-- Byte after byte: the reason of the whole body is the reason from the place reached on; a byte that its rule refuses ends it.
use mathlib.Core.Path.{refl, sym, ◌∙◌}
use Prim.Native.Nat.{◌<◌}
use native.Mathlib.Omega.{arith}
use lib.ListN.{drop}
use Rattle.profile.specs.Profile.{body_length}
use Rattle.profile.specs.Layout.{rules}
use Rattle.profile.specs.LayoutLaws.{rules_length, body_small}
use Rattle.reason.specs.Explanation.{bytes_in, next_reason}
use Rattle.reason.proofs.Steps.{body_goes_on, body_stops, body_end}
use Rattle.reason.proofs.body_reason.Goals as goal

pub loop-i-init : goal.loop-i-init
loop-i-init c = refl

pub overflow_mul-i : goal.overflow_mul-i
overflow_mul-i c = omega (arith, c.body_length-i-end.ensures, body_small c.args.profile)

pub overflow_add-i : goal.overflow_add-i
overflow_add-i c = omega (arith, c.body_length-i-end.ensures, body_small c.args.profile)

pub pair_at-byte-requires : goal.pair_at-byte-requires
pair_at-byte-requires c = (c.requires.0, omega (arith, c.body_length-i-end.ensures, c.requires.1))

pub loop-i-preserved : goal.loop-i-preserved
loop-i-preserved c =
    let l = c.loop-i in
    let a = c.args in
    let in_body : l.i < body_length a.profile = omega (arith, c.body_length-i-end.ensures, c.loop-i-test.true) in
    l.invariant
    ∙ body_goes_on a.profile a.kind a.text.now (next_reason a.next) l.i c.requires.1 in_body
    c.pair_at-byte.result c.pair_at-byte.ensures c.rule_at-rule.result c.rule_at-rule.ensures (sym c.allows.ensures ∙ c.if-not-allows.false)

pub returns-then-not-allows : goal.returns-then-not-allows
returns-then-not-allows c =
    let l = c.loop-i in
    let a = c.args in
    let in_body : l.i < body_length a.profile = omega (arith, c.body_length-i-end.ensures, c.loop-i-test.true) in
    sym (l.invariant
    ∙ body_stops a.profile a.kind a.text.now (next_reason a.next) l.i c.requires.1 in_body
    c.pair_at-byte.result c.pair_at-byte.ensures c.rule_at-rule.result c.rule_at-rule.ensures (sym c.allows.ensures ∙ c.if-not-allows.true))

pub returns : goal.returns
returns c =
    let l = c.loop-i in
    let a = c.args in
    c.next_reason.ensures
    ∙ sym (l.invariant
    ∙ body_end (rules a.profile a.kind) (bytes_in (drop 6 a.text.now)) l.i (next_reason a.next)
    (omega (arith, c.body_length-i-end.ensures, rules_length a.profile a.kind, c.loop-i-test.false)))
