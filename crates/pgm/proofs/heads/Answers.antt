-- `starts_with` answers as the definition does, byte by byte.
use Rattle.std.proofs.Common.{ap, ◌∙◌}
use Rattle.picture_file.specs.PictureFile.{starts}
use Rattle.pgm.proofs.Scanning.{starts_with_is}
use Rattle.pgm.proofs.heads.Goals as goal

pub returns : goal.returns
returns c = c.starts_with.ensures.value ∙ starts_with_is c.header.result c.args.file.now ∙ ap (λ text. starts text c.args.file.now) c.header.ensures
