-- The header tells the border setting; a file that begins with neither is refused with 20.
use borrow.Author.Rules.{part_to_end}
use Rattle.lent_buffer.specs.FilledLaws.{refuses}
use Rattle.picture_file.specs.PictureFile.{header_length, either, read_of}
use Rattle.picture_file.proofs.PictureFileLaws.{cut_header}
use Rattle.pgm.proofs.read.Goals as goal

pub returns-then-file-lt-HEADER : goal.returns-then-file-lt-HEADER
returns-then-file-lt-HEADER c = refuses _ _ _ (cut_header c.args.file.now _ c.if-file-lt-HEADER.true)

pub returns-then-heads : goal.returns-then-heads
unfolding read_of either
returns-then-heads c =
    let args = c.args in
    simp (← c.heads.ensures, c.if-heads.true) (rw (part_to_end args.file.now header_length) at c.read_as.ensures)

pub returns-then-heads-2 : goal.returns-then-heads-2
unfolding read_of either
returns-then-heads-2 c =
    let args = c.args in
    let heads = c.heads in
    simp (← heads.ensures, c.if-heads.false, ← c.heads-2.ensures, c.if-heads-2.true)
    (rw (part_to_end args.file.now header_length) at c.read_as-then-heads-2.ensures)

pub returns : goal.returns
unfolding read_of either
returns c = refuses _ _ _ (simp (← c.heads.ensures, c.if-heads.false, ← c.heads-2.ensures, c.if-heads-2.false))
