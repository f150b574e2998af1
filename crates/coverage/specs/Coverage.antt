-- Which lines of a frame came through, anywhere in a capture: a table with a cell for each number and kind, and whether a layout's lines are all there.
use Rattle.std.specs.Prelude.{Bool, true, ◌&&◌, ◌||◌, cond, List, ℕ, zero, suc, ◌+◌, ◌*◌, eqb, ltb, length, get_or, set, replicate}
use Rattle.line_code.specs.LineCode.{kind_number}
use Rattle.profile.specs.declared.Profile.{Profile}
use Rattle.stream.specs.declared.Answer.{Answer}
use Rattle.stream.specs.declared.Answer.TheVariants.{Nothing, Line, Gap, Refused}
use Rattle.frame_layout.specs.declared.Borders.{Borders}
use Rattle.frame_layout.specs.declared.Borders.TheVariants.{On, Off}
use Rattle.frame_layout.specs.FrameLayout.{end_place, kind_at_place}

-- the cell of a kind and number: kind numbers are below 6
abbrev pub cell_of : ℕ → ℕ → ℕ
cell_of k n = 6 * n + k

-- no line yet: a cell for each kind of a longest frame's 304 lines
abbrev pub none_came : List ℕ
none_came = replicate (6 * 304) 0

-- with a line: a number that no frame has lies behind the table
unfoldable pub with_line : List ℕ → ℕ → ℕ → List ℕ
with_line came k n = cond (ltb (cell_of k n) (length came)) (set came (cell_of k n) 1) came

-- with an answer: only a line is noted
abbrev pub with_answer : List ℕ → Answer → List ℕ
with_answer came Nothing = came
with_answer came (Line f) = with_line came (kind_number f.kind) f.number
with_answer came (Gap g) = came
with_answer came (Refused n) = came

-- a line of this kind came with this number
abbrev pub has_come : List ℕ → ℕ → ℕ → Bool
has_come came k n = eqb (get_or came (cell_of k n) 0) 1

-- at each place below this one the layout's line came
abbrev pub all_came : Profile → Borders → List ℕ → ℕ → Bool
all_came p b came zero = true
all_came p b came (suc place) = has_come came (kind_number (kind_at_place p b place)) place && all_came p b came place

-- of one layout every line up to the EOF line came
unfoldable pub is_covered : Profile → List ℕ → Bool
is_covered p came = all_came p On came (end_place p On + 1) || all_came p Off came (end_place p Off + 1)
