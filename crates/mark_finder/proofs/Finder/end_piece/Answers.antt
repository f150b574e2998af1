-- All bytes from the mark's on are kept; the piece is left.
use Rattle.mark_finder.specs.MarkFinder.{end_piece_of}
use borrow.Author.Rules.{rules}
use Rattle.mark_finder.proofs.Finder.end_piece.Goals as goal

pub returns : goal.returns
unfolding end_piece_of
returns c =
    record { gives = simp (c.keep_bytes-length.ensures.place, c.further-offset.ensures, c.less.ensures); leaves = c.keep_bytes-length.ensures.stored }
