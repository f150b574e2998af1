-- What is told of frames: the line on the news of one frame.
use Rattle.std.specs.Prelude.{cond, List, [], ◌∷◌, ◌++◌, ℕ, eqb, ltb, None, Option, Some}
use Rattle.refusal.specs.declared.Refusal.{Refusal}
use Rattle.refusal.specs.Refusal.{not_the_line_due, broken_line}
use Rattle.text.specs.Text.{ascii, newline, decimal}
use Rattle.frame_layout.specs.declared.Borders.TheVariants.{On, Off}
use Rattle.frame_tally.specs.declared.News.{News}
use Rattle.frame_tally.specs.declared.News.TheVariants.{Nothing, Complete, Broken, Cut}
use Rattle.frame_layout.specs.declared.Borders.{Borders}

-- Words.

-- on, off, or unsettled, which no complete frame is
abbrev pub borders_word : Option Borders → List ℕ
borders_word None = ascii "unsettled"
borders_word (Some On) = ascii "on"
borders_word (Some Off) = ascii "off"

-- a frame by its number
abbrev pub frame_words : ℕ → List ℕ
frame_words frame = ascii "frame " ++ decimal frame

-- Lines.

-- the line on a complete frame
unfoldable pub complete_line : ℕ → Option Borders → ℕ → List ℕ
complete_line frame b mark = frame_words frame ++ (ascii " complete, borders " ++ (borders_word b ++ (ascii ", last line at mark " ++ decimal mark)))

-- a mark's own answer by its number; 0 where it was not refused
abbrev pub own_number : Option Refusal → ℕ
own_number None = 0
own_number (Some r) = r.0

-- a broken line, with the mark's own answer
abbrev pub broken_line_words : ℕ → List ℕ
broken_line_words own = ascii ", a broken line (its answer: " ++ (decimal own ++ ascii ")")

-- why a frame broke: 18, or 19
unfoldable pub reason_words : ℕ → ℕ → List ℕ
reason_words refusal own = cond (eqb refusal not_the_line_due) (ascii ", not the line due") (cond (eqb refusal broken_line) (broken_line_words own) [])

-- the line on a broken frame, with its reason
unfoldable pub broken_line_of : ℕ → ℕ → ℕ → ℕ → List ℕ
broken_line_of frame mark refusal own =
    frame_words frame ++ (ascii " broken at mark " ++ (decimal mark ++ (ascii ": " ++ (decimal refusal ++ reason_words refusal own))))

-- the line of a frame that is complete, broken or cut off; none where there is no news
unfoldable pub news_line : News → List ℕ
news_line Nothing = []
news_line (Complete frame b mark) = complete_line frame b mark ++ (newline ∷ [])
news_line (Broken frame mark refusal own) = broken_line_of frame mark refusal.0 (own_number own) ++ (newline ∷ [])
news_line (Cut frame) = frame_words frame ++ ascii " cut off by the end of the capture\n"

-- Lines in a buffer.

-- the bytes that no line on a frame exceeds
abbrev pub news_room : ℕ
news_room = 144

-- a line where a buffer of so many bytes has room for any; else nothing
unfoldable pub news_if_room : ℕ → List ℕ → List ℕ
news_if_room room line = cond (ltb room news_room) [] line
