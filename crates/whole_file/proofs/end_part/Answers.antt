-- The part's name is within its buffer.
use mathlib.Core.Path.{sym}
use lib.Seq.{length-take-le}
use borrow.Author.Rules.{rules}
use Rattle.whole_file.proofs.end_part.Goals as goal
