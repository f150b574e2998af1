-- Beyond the end the definition has 0 as well.
use mathlib.Core.Path.{sym}
use lib.ListN.{get_or-eq_default}
use Rattle.why_line.proofs.byte_in.Goals as goal

pub returns : goal.returns
returns c = sym (get_or-eq_default c.args.bytes.now 0 c.if-i-bytes.false)
