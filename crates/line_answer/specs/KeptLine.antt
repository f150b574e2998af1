-- The answer of a line's mark, from its text's length, what is kept of it, the body, and the next mark's code (01, 'One answer for each mark').
use Rattle.std.specs.Prelude.{◌&&◌, List, ℕ, ◌+◌, ◌*◌, eqb, take}
use Rattle.refusal.specs.Refusal.{wrong_length, bad_number, bad_body, no_end_of_line}
use Rattle.line_code.specs.declared.Kind.{Kind}
use Rattle.line_code.specs.declared.Reading.{Reading}
use Rattle.line_code.specs.declared.Repair.{Repair}
use Rattle.line_code.specs.LineCode.{is_end, repair_of}
use Rattle.line_number.specs.LineNumber.{number_good, number_from}
use Rattle.profile.specs.declared.Profile.{Profile}
use Rattle.profile.specs.Profile.{body_length}
use Rattle.profile.specs.Layout.{rules, fits}
use Rattle.stream.specs.Answers.{facts, Outcome, line, require}
use Rattle.mark_text.specs.declared.Kept.{Kept}
use Rattle.mark_text.specs.MarkText.{body_place}

-- 6, 7 or the line
abbrev pub kept_body : Profile → Kind → Repair → ℕ → List ℕ → Reading → Outcome
kept_body p k r n body next =
    require (fits (rules p k) (take (body_length p) body)) bad_body
    (require (is_end next) no_end_of_line (line (facts k n r (repair_of next)) (take (body_length p) body)))

-- 4, 5, or by the body
abbrev pub kept_line : Profile → Kind → Repair → ℕ → Kept → List ℕ → Reading → Outcome
kept_line p k r len t body next =
    require (eqb len (2 * body_length p + body_place)) wrong_length
    (require (number_good t.first && number_good t.second) bad_number (kept_body p k r (number_from t.first t.second) body next))
