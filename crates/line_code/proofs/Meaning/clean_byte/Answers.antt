-- A line's byte is what its kind's own function promises; those of the end and of the reserved codes are computed from their parity.
use Rattle.line_code.specs.LineCode.{clean_byte}
use borrow.Author.Rules.{rules}
use Rattle.line_code.proofs.Meaning.clean_byte.Goals as goal

pub returns-in-EndOfLine : goal.returns-in-EndOfLine
unfolding clean_byte
returns-in-EndOfLine c = simp c.in-EndOfLine.is

pub returns-in-Line : goal.returns-in-Line
returns-in-Line c = simp (c.clean_byte.ensures, c.in-Line.is)

pub returns-in-ReservedEC : goal.returns-in-ReservedEC
unfolding clean_byte
returns-in-ReservedEC c = simp c.in-ReservedEC.is

pub returns-in-ReservedF1 : goal.returns-in-ReservedF1
unfolding clean_byte
returns-in-ReservedF1 c = simp c.in-ReservedF1.is
