-- A place has the version, or what is looked up stands behind it; behind the last place nothing does.
use Rattle.std.proofs.Common.{sym, ◌∙◌, arith}
use Rattle.saved_search.proofs.Looking.{absent, looked_here, looked_past, looked_out}
use Rattle.saved_search.proofs.look_up.Goals as goal

pub returns-then-setting-version : goal.returns-then-setting-version
returns-then-setting-version c =
    sym (c.loop-setting.invariant ∙ looked_here c.args.places _ c.loop-setting.setting-index absent (omega arith) c.if-setting-version.true)

pub loop-setting-preserved : goal.loop-setting-preserved
loop-setting-preserved c =
    c.loop-setting.invariant ∙ looked_past c.args.places _ c.loop-setting.setting-index absent (omega arith) c.if-setting-version.false

pub returns : goal.returns
returns c = sym (c.loop-setting.invariant ∙ looked_out c.args.places _ c.loop-setting.setting-index (omega arith))
