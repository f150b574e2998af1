-- Both profiles, computed.
use borrow.Author.Rules.{rules}
use Rattle.period_faults.proofs.most_period.Goals as goal

pub returns-in-VV5404 : goal.returns-in-VV5404
returns-in-VV5404 c = simp c.in-VV5404.is

pub returns-in-VV5300 : goal.returns-in-VV5300
returns-in-VV5300 c = simp c.in-VV5300.is
