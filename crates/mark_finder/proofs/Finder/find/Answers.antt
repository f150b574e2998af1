-- What the run gives decides; a mark that is answered has its bytes kept, and the next one opens.
use mathlib.Core.Path.{refl, sym, ◌∙◌}
use native.Mathlib.Omega.{arith}
use Rattle.mark_finder.specs.MarkFinder.{find_of}
use Rattle.mark_finder.specs.MarkFinderLaws.{taken_within, finds_answered, finds_on}
use borrow.Author.Rules.{rules}
use Rattle.mark_finder.proofs.Finder.find.Goals as goal

pub overflow_add-next : goal.overflow_add-next
overflow_add-next c =
    let a = c.args in
    omega (arith, taken_within a.self.reader.head a.self.reader.body a.piece.now a.from _ c.run-t.ensures, c.well_formed.1.0.1, c.ranges.from)

pub returns-then-is_answer : goal.returns-then-is_answer
unfolding find_of
returns-then-is_answer c =
    let a = c.args in
    finds_answered a.self a.piece.now a.from a.held.now c.run-t.ensures (sym c.is_answer.ensures ∙ c.if-is_answer.true) refl c.locate-mark.ensures c.keep_bytes-length.ensures c.open_next-finder.ensures

pub returns : goal.returns
unfolding find_of
returns c =
    let a = c.args in
    finds_on a.self a.piece.now a.from a.held.now c.run-t.ensures (sym c.is_answer.ensures ∙ c.if-is_answer.false) c.locate-mark.ensures
