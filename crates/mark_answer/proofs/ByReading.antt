-- An open mark is judged by the reading of its code, and so is what it is to the next one.
use Rattle.std.specs.Prelude.{Option as Optional}
use mathlib.Core.Path.{◌≡◌, refl, sym, ap, ap₂, ◌∙◌}
use mathlib.Core.Bool.{Bool}
use mathlib.Core.List.{List}
use mathlib.Core.Option.{Option, none}
use Prim.Native.Nat.{ℕ}
use Rattle.line_code.specs.declared.Reading.{Reading}
use Rattle.line_code.specs.LineCode.{reading_of, kind_of}
use Rattle.profile.specs.declared.Profile.{Profile}
use Rattle.stream.specs.declared.Before.{Before}
use Rattle.stream.specs.declared.Before.TheVariants.{NoLine, RefusedLine, HandedOut}
use Rattle.stream.specs.declared.Mark.{Mark}
use Rattle.stream.specs.declared.Mark.TheVariants.{Open}
use Rattle.stream.specs.declared.Answer.{Answer}
use Rattle.stream.specs.Answers.{Outcome, answer_for, is_line, is_line_answer, period_of}
use Rattle.stream.specs.AnswersLaws.{line_said}
use Rattle.stream.specs.Stream.{kind_at, before_by}
use Rattle.mark_text.specs.declared.Kept.{Kept}
use Rattle.mark_answer.specs.KeptAnswer.{kept_answer, kept_by_reading}
use Rattle.line_code.specs.declared.Kind.{Kind}

pub by_reading_lem : (p : Profile) (len : ℕ) (t : Kept) (body : List ℕ) (next : Option ℕ) {m : Mark} {before : Before} {code : ℕ} {r : Reading}
    → m ≡ Open before code → r ≡ reading_of code → kept_answer p m len t body next ≡ kept_by_reading p before r len t body next
unfolding kept_answer
by_reading_lem p len t body next e f = rw (e, f)

-- what the mark is to the next one, by that reading and the answer
pub left_by_lem : (o : Outcome) {m : Mark} {before : Before} {code : ℕ} {r : Reading} {k : Optional Kind} {a : Answer} {handed : Bool}
    → m ≡ Open before code → r ≡ reading_of code → k ≡ kind_of r → a ≡ answer_for o → handed ≡ is_line_answer a
    → before_by k handed ≡ before_by (kind_at m) (is_line o)
left_by_lem o e f g h i = ap₂ before_by (g ∙ ap kind_of f ∙ sym (ap kind_at e)) (i ∙ ap is_line_answer h ∙ line_said o)

-- finish closes no gap with a period
pub no_period : (p : Profile) (before : Before) (len : ℕ) → period_of p before len none ≡ 0
unfolding period_of
no_period p NoLine len = refl
no_period p (RefusedLine k) len = refl
no_period p (HandedOut k) len = refl
