-- The tests in the order of the definition; past them the header and the rows, end to end, are the buffer's front.
use mathlib.Core.Path.{◌∙◌}
use mathlib.Core.List.{◌++◌}
use Prim.Native.Nat.{ℕ, ◌+◌, ◌-◌}
use native.Mathlib.Omega.{arith}
use lib.ListN.{length, drop}
use borrow.Rule.Slice.PartMut.{put_mid}
use borrow.Author.Tests.{lt-leb, le-leb}
use Rattle.lent_buffer.specs.Filled.{require}
use Rattle.lent_buffer.specs.FilledLaws.{refuses, fills}
use Rattle.picture_file.specs.PictureFile.{header, header_length, image_of}
use Rattle.picture_file.proofs.PictureFileLaws.{header_length_lem, image_length_lem}
use Rattle.pgm.proofs.Copying.{copied}
use Rattle.pgm.proofs.write_as.Goals as goal

pub returns-then-file-length : goal.returns-then-file-length
unfolding require
returns-then-file-length c =
    let a = c.args in
    refuses _ _ _ (simp (← c.all_pixels.ensures, c.if-all_pixels.true, image_length_lem a.format a.rows.now, lt-leb _ _ c.if-file-length.true))

pub returns-then-all_pixels : goal.returns-then-all_pixels
unfolding require
returns-then-all_pixels c =
    let a = c.args in
    let n : ℕ = header_length + length a.rows.now - header_length in
    let head = c.copy_from_slice.ensures.after ∙ c.header.ensures in
    let rows = c.copy_from_slice-then-all_pixels.ensures.after in
    fills _ _ (image_of a.format a.rows.now) _ _
    (simp (← c.all_pixels.ensures, c.if-all_pixels.true, image_length_lem a.format a.rows.now, le-leb _ _ c.if-file-length.false))
    (image_length_lem a.format a.rows.now)
    ((λ i. put_mid header_length n (head i ++ drop header_length a.file.now) (rows i))
    ∙ copied header_length n (header a.format) a.rows.now a.file.now (header_length_lem a.format) (omega arith))

pub returns : goal.returns
unfolding require
returns c = refuses _ _ _ (simp (← c.all_pixels.ensures, c.if-all_pixels.false))
