-- Whatever marks stand in a stretch shorter than a line, none of them comes out as a line: a mark's text there is shorter than a line's. And
-- nibbles that are all F bring out no line: the code of a mark that one of them completes ends in F, and is no end of line.
use Rattle.std.specs.Prelude.{◌≡◌, refl, Bool, true, false, List, [], ◌∷◌, ◌++◌, ℕ, zero, suc, ◌+◌, ◌*◌, ◌<◌, length, replicate}
use Rattle.std.proofs.Common.{◌∙◌, ap, true≢false, arith}
use Rattle.std.proofs.Math.Option.{some}
use Rattle.line_code.specs.LineCodeLaws.{no_end_f}
use Rattle.profile.specs.declared.Profile.{Profile}
use Rattle.stream.specs.declared.Mark.{Mark}
use Rattle.stream.specs.declared.Mark.TheVariants.{NoMark, Open}
use Rattle.stream.specs.Answers.{Outcome, nothing, line, gap, refused, is_line, line_nibbles}
use Rattle.stream.proofs.TextLengthLaws.{line_length}
use Rattle.stream.specs.Stream.{State, Completed, not_yet, mark, detect, answer_at, advance}
use Rattle.recovery.specs.Calls.{LineOut, line_in, mark_nibbles}
use Rattle.recovery.specs.Resync.{state_with}
use Rattle.recovery.specs.Collected.{lines}
use Rattle.recovery.specs.ResyncLaws.{BringsNoLine, no_line_lem}
use Rattle.recovery.specs.MarksLaws.{detected}

-- a mark whose text is not as long as a line's is no line
pub other_length : (p : Profile) (m : Mark) (t : List ℕ) (next : ℕ) → (length t ≡ line_nibbles p → ⊥) → is_line (answer_at p m t (some next)) ≡ false
other_length p NoMark t next h = refl
other_length p (Open before c) t next h = go (is_line (answer_at p (Open before c) t (some next))) refl
  where
    go : (b : Bool) → is_line (answer_at p (Open before c) t (some next)) ≡ b → b ≡ false
    go true e = absurd (h (line_length p before c t next e))
    go false e = refl

none_brought : (o : Outcome) → is_line o ≡ false → BringsNoLine o
none_brought nothing h = refl
none_brought (line f body) h = absurd (true≢false h)
none_brought (gap g) h = refl
none_brought (refused n) h = refl

-- the text before a mark is a mark shorter than the text with it
pub text_before : (n : ℕ) (t : List ℕ) (x y : ℕ) (before : List ℕ) → detect (n ∷ t) ≡ mark x y before → suc (length t) ≡ mark_nibbles + length before
text_before n t x y before e = omega (arith, ap length (detected (n ∷ t) x y before e))

-- nibbles that leave no room for a line's text and a mark after it bring out no line
pub short_lines : (p : Profile) (s : State) (w : List ℕ) → length s.text + length w < line_nibbles p + mark_nibbles → lines p s w ≡ []
short_lines p s [] h = refl
short_lines p s (n ∷ w) h = go (detect (n ∷ s.text)) refl (λ x. short_lines p x w)
  where
    go : (d : Completed) → detect (n ∷ s.text) ≡ d → ((x : State) → length x.text + length w < line_nibbles p + mark_nibbles → lines p x w ≡ [])
        → line_in (advance p s.at (n ∷ s.text) d).outcome ++ lines p (advance p s.at (n ∷ s.text) d).state w ≡ []
    go not_yet e more = more (state_with s.at (n ∷ s.text)) (omega arith)
    go (mark x y before) e more =
        let l = text_before n s.text x y before e in
        let z : State = (advance p s.at (n ∷ s.text) (mark x y before)).state in
        let o : Outcome = answer_at p s.at before (some (16 * x + y)) in
        ap (λ (ls : List LineOut). ls ++ lines p z w) (none_brought o (other_length p s.at before (16 * x + y) (λ q. omega arith))) ∙ more z (omega arith)

-- nibbles that are all F bring out no line
pub f_lines : (p : Profile) (s : State) (n : ℕ) → lines p s (replicate n 15) ≡ []
f_lines p s zero = refl
f_lines p s (suc n) = go (detect (15 ∷ s.text)) refl (λ x. f_lines p x n)
  where
    go : (d : Completed) → detect (15 ∷ s.text) ≡ d → ((x : State) → lines p x (replicate n 15) ≡ [])
        → line_in (advance p s.at (15 ∷ s.text) d).outcome ++ lines p (advance p s.at (15 ∷ s.text) d).state (replicate n 15) ≡ []
    go not_yet e more = more (state_with s.at (15 ∷ s.text))
    go (mark x y before) e more =
        let f = detected (15 ∷ s.text) x y before e in
        let l : 15 ≡ y = cc in
        let z : State = (advance p s.at (15 ∷ s.text) (mark x y before)).state in
        ap (λ (ls : List LineOut). ls ++ lines p z (replicate n 15)) (no_line_lem p s.at before (some (16 * x + y)) (no_end_f (16 * x + y) (omega arith))) ∙ more z
