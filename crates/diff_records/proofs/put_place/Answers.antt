-- Equal bytes put nothing; others are one difference.
use mathlib.Core.Path.{sym}
use Rattle.text.specs.PutLaws.{puts_none}
use Rattle.diff_records.proofs.DifferenceLaws.{place_is, none_is}
use Rattle.diff_records.specs.RestLaws.{puts_is}
use Rattle.diff_records.proofs.put_place.Goals as goal

pub returns-then-x-y : goal.returns-then-x-y
returns-then-x-y c = puts_is (sym (none_is _ _ _ c.if-x-y.true)) (puts_none _ _)

pub returns : goal.returns
returns c = puts_is (sym (place_is _ _ _ _ c.if-x-y.false)) c.put.ensures
