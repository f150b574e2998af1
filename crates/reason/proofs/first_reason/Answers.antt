-- The text is all before the next mark, and the code is the pair that it begins with.
use mathlib.Core.Path.{sym, ap, ◌∙◌}
use lib.Seq.{length-take-le}
use Rattle.reason.specs.Explanation.{code_at}
use Rattle.reason.proofs.Steps.{nibbles_take, nibbles_rest, part_rest, first_of}
use Rattle.reason.proofs.first_reason.Goals as goal

pub code_at-next-requires : goal.code_at-next-requires
code_at-next-requires c = nibbles_rest c.args.run.now c.next_mark-end.result c.requires.0

pub slice_bounds-mark_reason-end : goal.slice_bounds-mark_reason-end
slice_bounds-mark_reason-end c = sym (length-take-le c.next_mark-end.result c.before.before.before.before.before.before.args.run.now c.next_mark-end.ensures.1)

pub mark_reason-requires : goal.mark_reason-requires
mark_reason-requires c = nibbles_take c.next_mark-end.result c.before.before.before.before.before.before.args.run.now c.before.before.before.before.before.before.requires.0

pub returns : goal.returns
returns c =
    let a = c.before.before.before.before.before.before.before.args in
    let n = c.next_mark-end.result in
    c.mark_reason.ensures ∙ first_of a.profile a.before a.run.now c.pair_at-code.result n c.code_at-next.result c.pair_at-code.ensures c.next_mark-end.ensures.0 (c.code_at-next.ensures ∙ ap code_at (part_rest a.run.now n))
