-- At the place reached the search ends there, or goes on behind it.
use Rattle.std.proofs.Common.{◌≡◌, sym, ◌∙◌, arith, eq-eqb, ne_eqb}
use Rattle.fluturenc_table.specs.TableBytes.{place_start}
use Rattle.fluturenc_table.proofs.LowestFrom.{here, further, none_left}
use Rattle.fluturenc_table.proofs.lowest_free.Goals as goal

pub returns-then-table-i-eq-NOBODY : goal.returns-then-table-i-eq-NOBODY
unfolding place_start
returns-then-table-i-eq-NOBODY c =
    sym (c.loop-i.invariant ∙ here c.args.table.now c.loop-i.i c.loop-i-test.true (eq-eqb _ _ c.if-table-i-eq-NOBODY.true))

pub loop-i-preserved : goal.loop-i-preserved
unfolding place_start
loop-i-preserved c =
    c.loop-i.invariant ∙ further c.args.table.now c.loop-i.i c.loop-i-test.true (ne_eqb _ _ c.if-table-i-eq-NOBODY.false)

pub returns : goal.returns
returns c =
    let e : c.loop-i.i ≡ 8 = omega arith in
    sym (c.loop-i.invariant ∙ none_left c.args.table.now c.loop-i.i (omega arith) ∙ e)
