-- All of a reader's state but the body: the window, what a nibble does to it, and the reader's own test.
use Rattle.std.specs.Prelude.{Bool, true, ◌&&◌, ◌||◌, not, cond, List, ℕ, zero, suc, ◌+◌, ◌-◌, ◌*◌, ◌/◌, ◌%◌, eqb, leb, ltb}
use Rattle.line_code.specs.LineCode.{reading_of, is_end}
use Rattle.period.specs.Period.{most_nibbles}
use Rattle.profile.specs.Profile.{gap_start}
use Rattle.stream.specs.declared.Before.{Before}
use Rattle.stream.specs.declared.Before.TheVariants.{NoLine, RefusedLine, HandedOut}
use Rattle.stream.specs.declared.Mark.{Mark}
use Rattle.stream.specs.declared.Mark.TheVariants.{NoMark, Open}
use Rattle.stream.specs.Stream.{kind_at, before_by}
use Rattle.mark_text.specs.declared.Kept.{Kept}
use Rattle.mark_text.specs.MarkText.{nothing_kept, kept_at, body_at}
use Rattle.reader_head.specs.declared.Head.{Head}

-- The window.

-- the weight of the oldest nibble in a window of eight: 16 ^ 7
abbrev pub top_place : ℕ
top_place = 268435456

-- F F F F 0 0 as a number, newest nibble lowest
abbrev pub group_number : ℕ
group_number = 0xFFFF00

-- a window's newest two nibbles are the code of a mark
unfoldable pub shows_mark : ℕ → Bool
shows_mark w = eqb (w / 256) group_number

-- a window with one nibble more, and its oldest gone
unfoldable pub slide : ℕ → ℕ → ℕ
slide w n = w % top_place * 16 + n

-- where the count of a text's nibbles stops: a longer text is wrong as a line's in any case, and without the next mark's eight nibbles it gives a
-- period past 65,535
abbrev pub count_stop : ℕ
count_stop = most_nibbles + 8

-- the count of a text's nibbles with one more, which stops
unfoldable pub bump : ℕ → ℕ
bump n = cond (ltb n count_stop) (n + 1) n

-- a full window's oldest nibble leaves it: number count - 8 of the text
unfoldable pub leave_kept : Head → Kept
leave_kept h = cond (leb 8 h.count) (kept_at h.profile (h.count - 8) (h.window / top_place) h.kept) h.kept

-- the body with the nibble that leaves the window
unfoldable pub leave_body : Head → List ℕ → List ℕ
leave_body h body = cond (leb 8 h.count) (body_at (h.count - 8) (h.window / top_place) body) body

-- one nibble, where no mark is complete
abbrev pub shifted : Head → ℕ → Head
shifted h n =
    record { profile = h.profile; at = h.at; count = bump h.count; window = slide h.window n; kept = leave_kept h }

-- a mark with this code, just complete: what the mark before was to it, and its code, which is all of its text
abbrev pub opened_after : Head → Before → ℕ → Head
opened_after h before code = record { profile = h.profile; at = Open before code; count = 2; window = code; kept = nothing_kept }

-- by the kind of the mark before, and whether that was handed out as a line
abbrev pub opened_by : Head → ℕ → Bool → Head
opened_by h code handed = opened_after h (before_by (kind_at h.at) handed) code

-- the window's nibbles leave it, the oldest first: k zeros push them out
abbrev pub flushed : ℕ → Head → Head
flushed zero h = h
flushed (suc k) h = flushed k (shifted h 0)

-- The reader's own test (11): constant time, and it looks at no byte of the body.

-- a window without its k newest nibbles: w / 16 ^ k
abbrev pub aged : ℕ → ℕ → ℕ
aged zero w = w
aged (suc k) w = aged k (w / 16)

-- while the code is still in the window it stands where the count says, and nothing before it
abbrev pub window_fits : Mark → ℕ → ℕ → Bool
window_fits NoMark c w = cond (leb c 8) (eqb (aged c w) 0) true
window_fits (Open before code) c w =
    leb 2 c && cond (leb c 8) (eqb (aged (c - 2) w) code) (cond (eqb c 9) (eqb (aged 7 w) (code % 16)) true)

-- only an end of line follows a line handed out
abbrev pub handed_fits : Mark → Bool
handed_fits NoMark = true
handed_fits (Open NoLine code) = true
handed_fits (Open (RefusedLine k) code) = true
handed_fits (Open (HandedOut k) code) = is_end (reading_of code)

-- the count has not passed its stop; no mark is complete and not yet taken; the mark is an end of line if it follows a line handed out;
-- the window fits; and a stray nibble is noted only where one can have left the window
unfoldable pub passes : Head → Bool
passes h =
    leb h.count count_stop
    && (not (shows_mark h.window)
    && (handed_fits h.at
    && (window_fits h.at h.count h.window && (not h.kept.stray || ltb (gap_start h.profile + 8) h.count))))
