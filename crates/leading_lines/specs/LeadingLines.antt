-- The lines before the first frame of a capture, line by line: the place due next in each layout, and closing blank lines. LeadingRun.antt of
-- leading_lines_laws says the same of all lines at once.
use Rattle.std.specs.Prelude.{Bool, true, false, ◌&&◌, ◌||◌, not, cond, ℕ, ◌+◌, ◌-◌, eqb, leb, ltb}
use Rattle.line_code.specs.declared.Kind.TheVariants.{BL}
use Rattle.line_code.specs.LineCode.{kind_number}
use Rattle.profile.specs.declared.Profile.{Profile}
use Rattle.frame_layout.specs.declared.Borders.{Borders}
use Rattle.frame_layout.specs.declared.Borders.TheVariants.{On, Off}
use Rattle.frame_layout.specs.FrameLayout.{last_place, end_place, due_at}
use Rattle.leading_lines.specs.declared.LeadingLines.{LeadingLines}

-- The place due next in a layout, 0 for none.

-- after a first line: its number tells its place, up to the EOF line's
unfoldable pub first_place : Profile → Borders → ℕ → ℕ → ℕ
first_place p b k n = cond (ltb (end_place p b) n) 0 (cond (due_at p b n k n) (n + 1) 0)

-- after a line more: one further where the line is due
unfoldable pub next_place : Profile → Borders → ℕ → ℕ → ℕ → ℕ
next_place p b place k n = cond (eqb place 0) 0 (cond (ltb (last_place p) place) 0 (cond (due_at p b place k n) (place + 1) 0))

-- Closing blank lines, whose numbers are free: how many, 0 for none.

-- the most after an EOF line: without borders
abbrev pub most_closing : Profile → ℕ
most_closing p = last_place p - end_place p Off

-- a first line
unfoldable pub first_blanks : ℕ → ℕ
first_blanks k = cond (eqb k (kind_number BL)) 1 0

-- a line more
unfoldable pub next_blanks : Profile → ℕ → ℕ → ℕ
next_blanks p n k = cond (eqb n 0) 0 (cond (ltb n (most_closing p)) (cond (eqb k (kind_number BL)) (n + 1) 0) 0)

-- All together.

-- no line yet
abbrev pub no_lines : LeadingLines
no_lines = record { seen = false; on = 0; off = 0; blanks = 0 }

-- a line, of a kind number and number
unfoldable pub with_line : Profile → LeadingLines → ℕ → ℕ → LeadingLines
with_line p l k n =
    cond l.seen
    (record { seen = true; on = next_place p On l.on k n; off = next_place p Off l.off k n; blanks = next_blanks p l.blanks k })
    (record { seen = true; on = first_place p On k n; off = first_place p Off k n; blanks = first_blanks k })

-- the lines lie at places of a layout; where a frame opened after them, up to the last
unfoldable pub place_stands : Profile → Bool → ℕ → Bool
place_stands p opened place = cond opened (ltb (last_place p) place) (ltb 0 place)

-- no line, closing lines, or lines at places of a layout
unfoldable pub is_run : Profile → Bool → LeadingLines → Bool
is_run p opened l = cond l.seen (ltb 0 l.blanks || (place_stands p opened l.on || place_stands p opened l.off)) true
