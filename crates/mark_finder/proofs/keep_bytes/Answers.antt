-- What is put is the part of the piece, cut to its length.
use Rattle.mark_finder.specs.MarkFinderLaws.{span_put}
use borrow.Author.Rules.{rules}
use Rattle.mark_finder.proofs.keep_bytes.Goals as goal

pub returns : goal.returns
returns c =
    let a = c.args in
    span_put a.piece.now a.begin a.to c.lesser-end.ensures c.lesser-first.ensures c.put.ensures
