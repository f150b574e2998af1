-- What an answer of a mark can be: a refusal 1 to 9, nothing, a gap, or a line whose body fits its kind's layout, and so is as long as the
-- profile's. So the answer and the lent buffer say all of it.
use Rattle.std.specs.Prelude.{◌≡◌, refl, true, List, ℕ, ◌≤◌, length, drop}
use Rattle.std.proofs.Common.{◌∙◌, ap, sym, true≢false, arith, take_at}
use Rattle.std.proofs.Math.Option.{Option, some}
use Rattle.line_code.specs.LineCode.{reading_of, is_end}
use Rattle.profile.specs.declared.Profile.{Profile}
use Rattle.profile.specs.Profile.{body_length}
use Rattle.profile.specs.Layout.{rules}
use Rattle.profile.specs.LayoutLaws.{rules_length, fits_length}
use Rattle.stream.specs.declared.Mark.{Mark}
use Rattle.stream.specs.Answers.{Outcome, line, is_line, outcome_of, answer_for}
use Rattle.mark_text.specs.declared.Kept.{Kept}
use Rattle.mark_answer.specs.KeptAnswer.{kept_answer}
use Rattle.mark_answer.specs.KeptAnswerLaws.{kept_answers}
use Rattle.mark_answer.specs.Sound.{Sound, sound_nothing, sound_line, sound_gap, sound_refused, refusal_of, Legible}

-- whatever is kept
pub kept_sound : (p : Profile) (m : Mark) (len : ℕ) (t : Kept) (body : List ℕ) (next : Option ℕ) → Sound p (kept_answer p m len t body next)
kept_sound p m len t body next =
    kept_answers (Sound p) p body next sound_nothing sound_refused (λ g. sound_gap {g = g}) (λ f h e. sound_line {f = f} h) m len t

-- a line is handed out only where the next mark's code is end of line
pub line_ends : (p : Profile) (m : Mark) (len : ℕ) (t : Kept) (body : List ℕ) (next : ℕ)
    → is_line (kept_answer p m len t body (some next)) ≡ true → is_end (reading_of next) ≡ true
line_ends p m len t body next =
    kept_answers (λ o. is_line o ≡ true → is_end (reading_of next) ≡ true) p body (some next)
    (λ h. absurd (true≢false (sym h))) (λ n a b h. absurd (true≢false (sym h))) (λ g h. absurd (true≢false (sym h))) (λ f h e i. e)
    m len t

pub at_most_nine : {p : Profile} {o : Outcome} → Sound p o → refusal_of o ≤ 9
at_most_nine sound_nothing = omega arith
at_most_nine (sound_line h) = omega arith
at_most_nine sound_gap = omega arith
at_most_nine (sound_refused n g h) = h

pub legible : {p : Profile} {o : Outcome} → Sound p o → (buffer : List ℕ) → Legible p buffer o
legible sound_nothing buffer = refl
legible {p} (sound_line {f} {body} h) buffer =
    ap (line f) (take_at body (drop (length body) buffer) (body_length p) (fits_length (rules p f.kind) body h ∙ rules_length p f.kind))
legible sound_gap buffer = refl
legible (sound_refused n g h) buffer = refl

-- before a line is handed out the body itself has what the buffer has afterwards
pub legible_body : (p : Profile) (m : Mark) (len : ℕ) (t : Kept) (body : List ℕ) (next : Option ℕ)
    → outcome_of p (answer_for (kept_answer p m len t body next)) body ≡ kept_answer p m len t body next
legible_body p m len t body next =
    kept_answers (λ o. outcome_of p (answer_for o) body ≡ o) p body next refl (λ n a b. refl) (λ g. refl) (λ f h e. refl) m len t
