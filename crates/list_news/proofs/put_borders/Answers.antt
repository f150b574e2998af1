-- The word of each setting, or that of none yet, by the two matches.
use borrow.Author.Rules.{rules}
use Rattle.list_news.proofs.put_borders.Goals as goal

pub returns-in-None : goal.returns-in-None
returns-in-None c = simp c.in-None.is c.put.ensures

pub returns-in-On : goal.returns-in-On
returns-in-On c =
    simp (c.in-Some.is, c.in-On.is) c.put-in-On.ensures

pub returns-in-Off : goal.returns-in-Off
returns-in-Off c =
    simp (c.in-Some.is, c.in-Off.is) c.put-in-Off.ensures
