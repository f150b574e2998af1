-- A blank is kept as one, any other character as it is.
use borrow.Author.Rules.{rules}
use Rattle.register_script.specs.Script.{kept_after}
use Rattle.register_script.proofs.keep.Goals as goal

pub returns-then-is_blank : goal.returns-then-is_blank
unfolding kept_after
returns-then-is_blank c =
    simp (← c.is_blank.ensures, c.if-is_blank.true) c.keep_blank.ensures

pub returns : goal.returns
unfolding kept_after
returns c =
    simp (← c.is_blank.ensures, c.if-is_blank.false) c.append.ensures
