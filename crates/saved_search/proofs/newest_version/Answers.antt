-- A place that is used has a later version than those before it; behind the last place no later one stands.
use Rattle.std.proofs.Common.{sym, ◌∙◌, arith}
use Rattle.saved_search.proofs.Looking.{absent, later_none, newest_used, newest_unused, newest_out}
use Rattle.saved_search.proofs.newest_version.Goals as goal
use Rattle.saved_search.proofs.newest_version.Goals.{then-place-ne0, else-place-ne0}

pub loop-place-init : goal.loop-place-init
loop-place-init c = sym (later_none _)

pub loop-place-preserved : goal.loop-place-preserved
loop-place-preserved c =
    elim c.if-place-ne0.branch [
      | then-place-ne0 w ↦ rw w.newest-is (c.loop-place.invariant ∙ newest_used c.args.places _ c.loop-place.place-index absent (omega arith) w.if-place-ne0.true)
      | else-place-ne0 w ↦ rw w.newest-is (c.loop-place.invariant ∙ newest_unused c.args.places _ c.loop-place.place-index absent (omega arith) w.if-place-ne0.false)
    ]

pub returns : goal.returns
returns c = sym (c.loop-place.invariant ∙ newest_out c.args.places _ c.loop-place.place-index (omega arith))
