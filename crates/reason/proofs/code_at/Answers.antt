-- Where a mark begins, its code is the pair after the first six nibbles; elsewhere there is none.
use Rattle.std.specs.Prelude.{Some}
use mathlib.Core.Path.{ap, sym, ◌∙◌}
use native.Mathlib.Omega.{arith}
use Rattle.reason.proofs.Steps.{code_there, code_absent}
use Rattle.reason.proofs.code_at.Goals as goal

pub pair_at-requires : goal.pair_at-requires
pair_at-requires c = (c.requires, (let h = c.begins_mark.ensures.1 c.if-begins_mark.true in omega arith))

pub returns-then-begins_mark : goal.returns-then-begins_mark
returns-then-begins_mark c = sym (code_there c.args.run.now (sym c.begins_mark.ensures.0 ∙ c.if-begins_mark.true) ∙ ap Some (sym c.pair_at.ensures))

pub returns : goal.returns
returns c = sym (code_absent c.args.run.now (sym c.begins_mark.ensures.0 ∙ c.if-begins_mark.false))
