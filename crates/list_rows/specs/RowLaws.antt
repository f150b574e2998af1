-- How long the parts of a row can be.
use Rattle.std.specs.Prelude.{Bool, true, false, ℕ, ◌≤◌, length}
use Rattle.std.proofs.Common.{arith, length-append}
use Rattle.text.specs.TextLaws.{decimal_short}
use Rattle.line_code.specs.declared.Kind.{Kind}
use Rattle.line_code.specs.declared.Kind.TheVariants.{BL, BK, VL, SOF, EOF}
use Rattle.stream.specs.declared.LineFacts.{LineFacts}
use Rattle.stream.specs.declared.Answer.{Answer}
use Rattle.stream.specs.declared.Answer.TheVariants.{Nothing, Line, Gap, Refused}
use Rattle.stream.specs.Answers.{either_repaired}
use Rattle.list_rows.specs.Rows.{kind_word, note_word, line_words, refused_words, row_of, row_room}

kind_short : (k : Kind) → length (kind_word k) ≤ 3
kind_short BL = omega arith
kind_short BK = omega arith
kind_short VL = omega arith
kind_short SOF = omega arith
kind_short EOF = omega arith

note_short : (r : Bool) → length (note_word r) ≤ 8
note_short true = omega arith
note_short false = omega arith

line_short : (f : LineFacts) → length (line_words f) ≤ 33
unfolding line_words
line_short f = simp length-append (omega (arith, kind_short f.kind, decimal_short f.number, note_short (either_repaired f)))

-- no row is longer than the room that is asked for it
pub row_short : (mark : ℕ) (a : Answer) → length (row_of mark a) ≤ row_room
unfolding row_of refused_words
row_short mark Nothing = omega arith
row_short mark (Line f) = simp length-append (omega (arith, decimal_short mark, line_short f))
row_short mark (Gap g) = simp length-append (omega (arith, decimal_short mark))
row_short mark (Refused r) = simp length-append (omega (arith, decimal_short mark, decimal_short r.0))
