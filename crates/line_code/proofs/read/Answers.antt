-- A byte is its row's first byte and a place in the row: the entry there is the number of its reading.
use mathlib.Core.Path.{◌∙◌, ap}
use native.Mathlib.Omega.{arith}
use borrow.Author.Rules.{rules}
use Rattle.line_code.specs.LineCode.{reading_of, reading_numbered}
use Rattle.line_code.proofs.Bytes.{entry}
use Rattle.line_code.proofs.read.Goals as goal

pub returns : goal.returns
returns c =
    c.reading_numbered.ensures
    ∙ ap reading_numbered c.entry.ensures
    ∙ entry _ _ _ c.row-entries.ensures (omega arith)
    ∙ ap reading_of (omega arith)
