-- By the profile.
use borrow.Author.Rules.{rules}
use Rattle.verdict_report.proofs.put_other_sensor.Goals as goal

pub returns-in-VV5404 : goal.returns-in-VV5404
returns-in-VV5404 c =
    simp c.in-VV5404.is c.put.ensures

pub returns-in-VV5300 : goal.returns-in-VV5300
returns-in-VV5300 c =
    simp c.in-VV5300.is c.put-in-VV5300.ensures
