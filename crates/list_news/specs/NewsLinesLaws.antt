-- How long the lines on frames can be.
use Rattle.std.specs.Prelude.{Bool, true, false, cond, [], ℕ, ◌≤◌, eqb, length, None, Option, Some}
use Rattle.std.proofs.Common.{arith, length-append}
use Rattle.refusal.specs.Refusal.{not_the_line_due, broken_line}
use Rattle.text.specs.Text.{ascii}
use Rattle.text.specs.TextLaws.{decimal_short}
use Rattle.frame_layout.specs.declared.Borders.TheVariants.{On, Off}
use Rattle.frame_tally.specs.declared.News.{News}
use Rattle.frame_tally.specs.declared.News.TheVariants.{Nothing, Complete, Broken, Cut}
use Rattle.list_news.specs.NewsLines.{borders_word, own_number, broken_line_words, reason_words, complete_line, broken_line_of, news_line, news_room}
use Rattle.frame_layout.specs.declared.Borders.{Borders}

borders_short : (b : Option Borders) → length (borders_word b) ≤ 9
borders_short None = omega arith
borders_short (Some On) = omega arith
borders_short (Some Off) = omega arith

reason_short : (refusal own : ℕ) → length (reason_words refusal own) ≤ 50
unfolding reason_words
reason_short refusal own = either (eqb refusal not_the_line_due) (eqb refusal broken_line)
  where
    either : (a b : Bool) → length (cond a (ascii ", not the line due") (cond b (broken_line_words own) [])) ≤ 50
    either true b = omega arith
    either false true = simp length-append (omega (arith, decimal_short own))
    either false false = omega arith

complete_short : (frame : ℕ) (b : Option Borders) (mark : ℕ) → length (complete_line frame b mark) ≤ 94
unfolding complete_line
complete_short frame b mark = simp length-append (omega (arith, decimal_short frame, borders_short b, decimal_short mark))

broken_short : (frame mark refusal own : ℕ) → length (broken_line_of frame mark refusal own) ≤ 134
unfolding broken_line_of
broken_short frame mark refusal own =
    simp length-append (omega (arith, decimal_short frame, decimal_short mark, decimal_short refusal, reason_short refusal own))

-- no line on a frame is longer than the room that is asked for it
pub news_short : (n : News) → length (news_line n) ≤ news_room
unfolding news_line
news_short Nothing = omega arith
news_short (Complete frame b mark) = simp length-append (omega (arith, complete_short frame b mark))
news_short (Broken frame mark refusal own) = simp length-append (omega (arith, broken_short frame mark refusal.0 (own_number own)))
news_short (Cut frame) = simp length-append (omega (arith, decimal_short frame))
