-- Height times width, both small, so that the product is exact.
use native.Mathlib.Omega.{arith}
use Rattle.picture_file.proofs.PictureFileLaws.{height_most}
use Rattle.pgm.proofs.size.Goals as goal

pub overflow_mul-result : goal.overflow_mul-result
overflow_mul-result c = omega (arith, height_most c.args.format, c.height.ensures)
