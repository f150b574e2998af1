-- The kind's name, or a line.
use borrow.Author.Rules.{rules}
use Rattle.why_words.proofs.put_line_name.Goals as goal

pub returns-in-None : goal.returns-in-None
returns-in-None c =
    simp c.in-None.is c.put.ensures

pub returns-in-Some : goal.returns-in-Some
returns-in-Some c =
    simp c.in-Some.is c.put_kind_in_words.ensures
