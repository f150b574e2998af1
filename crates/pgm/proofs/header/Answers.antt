-- The header, digit by digit: each is its number's, and each number has three.
use Rattle.picture_file.proofs.PictureFileLaws.{header_digits}
use Rattle.pgm.proofs.header.Goals as goal

pub returns : goal.returns
returns c =
    simp (
      header_digits c.args.format,
      c.digit-9.ensures,
      c.digit-8.ensures,
      c.digit-7.ensures,
      c.digit-6.ensures,
      c.digit-5.ensures,
      c.digit-4.ensures,
      c.digit-3.ensures,
      c.digit-2.ensures,
      c.digit.ensures,
      c.height-height.ensures,
    )
