-- The answer of an end mark, from its text's length and what is kept of it (01, 'One answer for each mark').
use Rattle.std.specs.Prelude.{◌&&◌, not, ℕ, leb}
use Rattle.refusal.specs.Refusal.{end_without_line, bad_gap}
use Rattle.line_code.specs.declared.Kind.{Kind}
use Rattle.profile.specs.declared.Profile.{Profile}
use Rattle.profile.specs.declared.Profile.TheVariants.{VV5404, VV5300}
use Rattle.profile.specs.Profile.{null_byte}
use Rattle.profile.specs.Layout.{gap_fits}
use Rattle.stream.specs.declared.Before.{Before}
use Rattle.stream.specs.declared.Before.TheVariants.{NoLine, RefusedLine, HandedOut}
use Rattle.stream.specs.Answers.{Outcome, refused, require, good_gap}
use Rattle.mark_text.specs.declared.Kept.{Kept}
use Rattle.mark_text.specs.MarkText.{body_place}

-- 9, or the good gap with its line's period
abbrev pub kept_gap : Profile → Kind → ℕ → ℕ → Kept → Outcome
kept_gap VV5404 k n len t = require (not t.stray) bad_gap (good_gap n null_byte null_byte)
kept_gap VV5300 k n len t =
    require (not t.stray && (leb body_place len && gap_fits VV5300 k t.first t.second)) bad_gap (good_gap n t.first t.second)

-- 8, or the gap's answer
abbrev pub kept_end : Profile → Before → ℕ → ℕ → Kept → Outcome
kept_end p NoLine n len t = refused end_without_line
kept_end p (RefusedLine k) n len t = kept_gap p k n len t
kept_end p (HandedOut k) n len t = kept_gap p k n len t
