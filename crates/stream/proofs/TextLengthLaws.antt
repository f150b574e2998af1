-- A line that is handed out has a text of fixed length: code, number and body.
use Rattle.std.specs.Prelude.{◌≡◌, refl, Bool, true, false, List, [], ◌∷◌, ℕ, ◌+◌, ◌*◌, eqb, length}
use Rattle.std.proofs.Common.{ap, sym, true≢false, arith, eqb-true}
use Rattle.std.proofs.Math.Option.{Option, none, some}
use Rattle.refusal.specs.Refusal.{wrong_length, bad_gap}
use Rattle.line_code.specs.declared.Kind.{Kind}
use Rattle.line_code.specs.declared.Meaning.{Meaning}
use Rattle.line_code.specs.declared.Meaning.TheVariants.{EndOfLine, Line, ReservedEC, ReservedF1}
use Rattle.line_code.specs.declared.Reading.{Reading}
use Rattle.line_code.specs.declared.Reading.TheVariants.{Says, Damaged}
use Rattle.line_code.specs.declared.Repair.{Repair}
use Rattle.line_code.specs.LineCode.{reading_of}
use Rattle.profile.specs.declared.Profile.{Profile}
use Rattle.profile.specs.declared.Profile.TheVariants.{VV5404, VV5300}
use Rattle.profile.specs.Profile.{body_length}
use Rattle.stream.specs.declared.Before.{Before}
use Rattle.stream.specs.declared.Before.TheVariants.{NoLine, RefusedLine, HandedOut}
use Rattle.stream.specs.Answers.{Outcome, is_line, require, bytes_onto, line_from, good_gap, line_nibbles, turned, after_code, gap_from, by_meaning, by_reading, answer_of}

pub bytes_length : (t bs cs : List ℕ) → bytes_onto t bs ≡ some cs → length t + 2 * length bs ≡ 2 * length cs
bytes_length [] bs cs h = let e : bs ≡ cs = cc in omega (arith, ap length e)
bytes_length (l ∷ []) bs cs h = cc
bytes_length (l ∷ u ∷ t) bs cs h = omega (arith, bytes_length t ((16 * u + l) ∷ bs) cs h)

require_line : (t : Bool) (n : ℕ) (o : Outcome) → is_line (require t n o) ≡ true → (t ≡ true) × (is_line o ≡ true)
unfolding require
require_line true n o h = (refl, h)
require_line false n o h = absurd (true≢false (sym h))

line_from_lem : (p : Profile) (k : Kind) (r : Repair) (t : List ℕ) (next : Reading) (bytes : Option (List ℕ)) → bytes_onto t [] ≡ bytes
    → is_line (line_from p k r bytes next) ≡ true → length t ≡ line_nibbles p
line_from_lem p k r t next none e h = absurd (true≢false (sym h))
line_from_lem p k r t next (some []) e h = absurd (true≢false (sym h))
line_from_lem p k r t next (some (c ∷ [])) e h = absurd (true≢false (sym h))
line_from_lem p k r t next (some (c ∷ a ∷ [])) e h = absurd (true≢false (sym h))
line_from_lem p k r t next (some (c ∷ a ∷ b ∷ body)) e h =
    let l = eqb-true (length body) (body_length p) (require_line (eqb (length body) (body_length p)) wrong_length _ h).0 in
    omega (arith, l, bytes_length t [] (c ∷ a ∷ b ∷ body) e)

not_gap : (t : Bool) (n m a b : ℕ) → is_line (require t n (good_gap m a b)) ≡ true → ⊥
unfolding require good_gap
not_gap true n m a b h = true≢false (sym h)
not_gap false n m a b h = true≢false (sym h)

pub no_line_gap : (p : Profile) (k : Kind) (n : ℕ) (w : List ℕ) → is_line (gap_from p k n w) ≡ true → ⊥
no_line_gap VV5404 k n w h = not_gap _ bad_gap n _ _ h
no_line_gap VV5300 k n [] h = true≢false (sym h)
no_line_gap VV5300 k n (x ∷ []) h = true≢false (sym h)
no_line_gap VV5300 k n (x ∷ y ∷ []) h = true≢false (sym h)
no_line_gap VV5300 k n (x ∷ y ∷ z ∷ []) h = true≢false (sym h)
no_line_gap VV5300 k n (x ∷ y ∷ z ∷ u ∷ w) h = not_gap _ bad_gap n _ _ h

line_meaning : (p : Profile) (before : Before) (m : Meaning) (r : Repair) (t : List ℕ) (next : ℕ)
    → is_line (by_meaning p before m r t (some next)) ≡ true → length t ≡ line_nibbles p
line_meaning p NoLine EndOfLine r t next h = absurd (true≢false (sym h))
line_meaning p (RefusedLine k) EndOfLine r t next h = absurd (no_line_gap p k _ (after_code (turned t [])) h)
line_meaning p (HandedOut k) EndOfLine r t next h = absurd (no_line_gap p k _ (after_code (turned t [])) h)
line_meaning p before (Line k) r t next h = line_from_lem p k r t (reading_of next) (bytes_onto t []) refl h
line_meaning p before ReservedEC r t next h = absurd (true≢false (sym h))
line_meaning p before ReservedF1 r t next h = absurd (true≢false (sym h))

line_reading : (p : Profile) (before : Before) (c : Reading) (t : List ℕ) (next : ℕ)
    → is_line (by_reading p before c t (some next)) ≡ true → length t ≡ line_nibbles p
line_reading p before (Says m r) t next h = line_meaning p before m r t next h
line_reading p before Damaged t next h = absurd (true≢false (sym h))

-- the law
pub line_length : (p : Profile) (before : Before) (code : ℕ) (t : List ℕ) (next : ℕ)
    → is_line (answer_of p before code t (some next)) ≡ true → length t ≡ line_nibbles p
unfolding answer_of
line_length p before code t next h = line_reading p before (reading_of code) t next h
