-- The answer is the reader's own test; a mark's code is a byte because its type is u8, and without a mark nothing is asked.
use mathlib.Core.Path.{sym, subst}
use Rattle.reader_laws.specs.Passing.{Byte}
use borrow.Author.Rules.{rules}
use Rattle.capture_bytes.proofs.is_sound.Goals as goal

pub returns-in-NoMark : goal.returns-in-NoMark
returns-in-NoMark c = (c.passes-passed.ensures, subst Byte (sym c.in-NoMark.is) tt)

pub returns-in-Open : goal.returns-in-Open
returns-in-Open c = (c.passes-passed.ensures, subst Byte (sym c.in-Open.is) (search rules))
