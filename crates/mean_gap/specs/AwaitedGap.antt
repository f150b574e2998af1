-- What is awaited of a reader's answers for a row of half-line means (02, A10): a visible line, then its gap.
use Rattle.std.specs.Prelude.{ℕ, Option, None, Some}
use Rattle.line_code.specs.declared.Kind.{Kind}
use Rattle.line_code.specs.declared.Kind.TheVariants.{BL, BK, VL, SOF, EOF}
use Rattle.stream.specs.declared.LineFacts.{LineFacts}
use Rattle.stream.specs.declared.Answer.{Answer}
use Rattle.stream.specs.declared.Answer.TheVariants as answer

-- the gap of a visible line is awaited after it
abbrev pub after_kind : Kind → ℕ → Option ℕ
after_kind BL n = None
after_kind BK n = None
after_kind VL n = Some n
after_kind SOF n = None
after_kind EOF n = None

-- what is awaited after a line that is handed out
abbrev pub after_line : LineFacts → Option ℕ
after_line f = after_kind f.kind f.number

-- by the answer: after a gap or a refused mark a line is awaited again
unfoldable pub awaits_after : Option ℕ → Answer → Option ℕ
awaits_after w answer.Nothing = w
awaits_after w (answer.Line f) = after_line f
awaits_after w (answer.Gap g) = None
awaits_after w (answer.Refused n) = None
