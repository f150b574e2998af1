-- A space, and the two digits.
use Rattle.text.specs.PagesLaws.{next}
use borrow.Author.Rules.{rules}
use Rattle.why_line.proofs.put_spaced.Goals as goal

pub returns : goal.returns
returns c =
    next c.put.ensures c.put_hex.ensures
