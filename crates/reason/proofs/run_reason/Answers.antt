-- 13, 10 and 36 in this order, and else by the first mark.
use mathlib.Core.Path.{sym, ap, ap₂, ◌∙◌}
use native.Mathlib.Omega.{arith}
use lib.ListN.{length, length-drop}
use Rattle.reason.specs.Explanation.{first_reason}
use Rattle.reason.proofs.Steps.{nibbles_rest, part_rest, run_13, run_10, run_36, run_first}
use Rattle.reason.proofs.run_reason.Goals as goal

pub returns-then-before-gt-LAST_KIND : goal.returns-then-before-gt-LAST_KIND
returns-then-before-gt-LAST_KIND c = sym (run_13 c.args.profile c.args.before c.args.run.now c.if-before-gt-LAST_KIND.true)

pub slice_bounds-first_reason-count : goal.slice_bounds-first_reason-count
slice_bounds-first_reason-count c =
    let h = c.begins_mark.ensures.1 c.if-begins_mark.true in
    omega arith

pub slice_bounds-first_reason-start : goal.slice_bounds-first_reason-start
slice_bounds-first_reason-start c =
    let h = c.begins_mark.ensures.1 c.if-begins_mark.true in
    omega arith

pub first_reason-requires : goal.first_reason-requires
first_reason-requires c =
    let w = c.args.run.now in
    let h = c.begins_mark.ensures.1 c.if-begins_mark.true in
    (nibbles_rest w 6 (sym c.nibbles_only.ensures ∙ c.if-nibbles_only.true), omega (arith, ap length (part_rest w 6), length-drop 6 w))

pub returns-then-begins_mark : goal.returns-then-begins_mark
returns-then-begins_mark c =
    let a = c.args in
    let w = a.run.now in
    c.first_reason.ensures
    ∙ ap₂ (first_reason a.profile) c.numbered-kind.ensures (part_rest w 6)
    ∙ sym (run_first a.profile a.before w c.if-before-gt-LAST_KIND.false (sym c.nibbles_only.ensures ∙ c.if-nibbles_only.true)
    (sym c.begins_mark.ensures.0 ∙ c.if-begins_mark.true))

pub returns-then-nibbles_only : goal.returns-then-nibbles_only
returns-then-nibbles_only c =
    let a = c.args in
    sym (run_36 a.profile a.before a.run.now c.if-before-gt-LAST_KIND.false (sym c.nibbles_only.ensures ∙ c.if-nibbles_only.true)
    (sym c.begins_mark.ensures.0 ∙ c.if-begins_mark.false))

pub returns : goal.returns
returns c =
    let a = c.args in
    sym (run_10 a.profile a.before a.run.now c.if-before-gt-LAST_KIND.false (sym c.nibbles_only.ensures ∙ c.if-nibbles_only.false))
