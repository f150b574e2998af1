-- The name of each kind.
use borrow.Author.Rules.{rules}
use Rattle.why_words.proofs.put_kind_in_words.Goals as goal

pub returns-in-BL : goal.returns-in-BL
returns-in-BL c =
    simp c.in-BL.is c.put.ensures

pub returns-in-BK : goal.returns-in-BK
returns-in-BK c =
    simp c.in-BK.is c.put-in-BK.ensures

pub returns-in-VL : goal.returns-in-VL
returns-in-VL c =
    simp c.in-VL.is c.put-in-VL.ensures

pub returns-in-SOF : goal.returns-in-SOF
returns-in-SOF c =
    simp c.in-SOF.is c.put-in-SOF.ensures

pub returns-in-EOF : goal.returns-in-EOF
returns-in-EOF c =
    simp c.in-EOF.is c.put-in-EOF.ensures
