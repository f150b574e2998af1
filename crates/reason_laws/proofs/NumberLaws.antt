-- The reason has the number of the mark's answer, of the same text (01's answer on texts kept newest first, 02's reason on texts oldest first).
use Rattle.std.specs.Prelude.{◌≡◌, Bool, true, false, ◌&&◌, cond, eqb, length, drop, None, Option as Optional, Some}
use Rattle.std.proofs.Math.Path.{refl, sym}
use Rattle.std.proofs.Common.{◌∙◌, ap, arith, eqb-true, eq-eqb, ne_eqb, le-leb}
use mathlib.Core.List.{List, [], ◌∷◌, ◌++◌, append-nil}
use Rattle.std.proofs.Math.Option.{Option, none, some}
use Prim.Native.Nat.{ℕ, zero, suc, ◌+◌, ◌*◌, ◌≤◌, ◌<◌}
use Rattle.std.proofs.lemmas.Bool.{eqb-false, lt-leb}
use Rattle.line_code.specs.declared.Kind.{Kind}
use Rattle.line_code.specs.declared.Kind.TheVariants.{BL, BK, VL, SOF, EOF}
use Rattle.line_code.specs.declared.Meaning.{Meaning}
use Rattle.line_code.specs.declared.Meaning.TheVariants.{EndOfLine, Line, ReservedEC, ReservedF1}
use Rattle.line_code.specs.declared.Reading.{Reading}
use Rattle.line_code.specs.declared.Reading.TheVariants.{Says, Damaged}
use Rattle.line_code.specs.declared.Repair.{Repair}
use Rattle.line_code.specs.LineCode.{reading_of, is_end}
use Rattle.line_number.specs.LineNumber.{number_good}
use Rattle.profile.specs.declared.Profile.{Profile}
use Rattle.profile.specs.declared.Profile.TheVariants.{VV5404, VV5300}
use Rattle.profile.specs.declared.Rule.{Rule}
use Rattle.profile.specs.Profile.{body_length}
use Rattle.profile.specs.Layout.{allows, fits, rules, gap_fits}
use Rattle.profile.specs.LayoutLaws.{rules_length}
use Rattle.refusal.specs.Refusal.{wrong_length, bad_number, bad_body, no_end_of_line, bad_gap}
use Rattle.stream.specs.declared.Before.{Before}
use Rattle.stream.specs.declared.Before.TheVariants.{NoLine, RefusedLine, HandedOut}
use Rattle.stream.specs.declared.LineFacts.{LineFacts}
use Rattle.stream.specs.Answers.{Outcome, line, require, bytes_onto, line_from, line_answer, good_gap, line_nibbles, turned, all_f, after_code, two_bytes_then_f, gap_from, gap_answer, by_meaning, by_reading, answer_of}
use Rattle.stream.specs.TextLaws.{turned_back, after_code_lem}
use Rattle.reason.specs.declared.Reason.{Reason}
use Rattle.reason.specs.declared.Reason.TheVariants as reason
use Rattle.reason.specs.Explanation.{bytes_in, number_reason, body_reason, next_reason, line_reason, gap_rule, stray_reason, two_bytes_reason, gap_reason, end_mark_reason, meaning_reason, reading_reason, reason_of}
use Rattle.reason_laws.specs.Short.{refusal, in_short, short_of, before_kind, code_or}

-- Texts.

-- texts of an even and of an odd length
pub data Evenly : List ℕ → Type 0 where
  even_none : Evenly []
  even_more : (h l : ℕ) {t : List ℕ} → Evenly t → Evenly (h ∷ l ∷ t)

-- a list of an odd length
pub data Oddly : List ℕ → Type 0 where
  odd_one : (n : ℕ) → Oddly (n ∷ [])
  odd_more : (h l : ℕ) {t : List ℕ} → Oddly t → Oddly (h ∷ l ∷ t)

-- every list has one of the two
pub data EvenOrOdd (t : List ℕ) : Type 0 where
  is_even : Evenly t → EvenOrOdd t
  is_odd_lem : Oddly t → EvenOrOdd t

pub even_or_odd : (t : List ℕ) → EvenOrOdd t
even_or_odd [] = is_even even_none
even_or_odd (n ∷ []) = is_odd_lem (odd_one n)
even_or_odd (h ∷ l ∷ t) = go (even_or_odd t)
  where
    go : EvenOrOdd t → EvenOrOdd (h ∷ l ∷ t)
    go (is_even e) = is_even (even_more h l e)
    go (is_odd_lem e) = is_odd_lem (odd_more h l e)

even_length : {t : List ℕ} → Evenly t → length t ≡ 2 * length (bytes_in t)
even_length even_none = refl
even_length (even_more h l e) = let q = even_length e in omega arith

odd_length : {t : List ℕ} → Oddly t → (n : ℕ) → length t ≡ 2 * n → ⊥
odd_length (odd_one n) zero h = omega arith
odd_length (odd_one n) (suc m) h = omega arith
odd_length (odd_more h l e) zero q = omega arith
odd_length (odd_more h l e) (suc m) q = odd_length e m (omega arith)

bytes_even : {u : List ℕ} → Evenly u → (t bs : List ℕ) → bytes_onto (turned u t) bs ≡ bytes_onto t (bytes_in u ++ bs)
bytes_even even_none t bs = refl
bytes_even (even_more h l e) t bs = bytes_even e (l ∷ h ∷ t) bs

bytes_odd : {u : List ℕ} → Oddly u → {t : List ℕ} → Evenly t → (bs : List ℕ) → bytes_onto (turned u t) bs ≡ none
bytes_odd (odd_one n) e bs = odd_end n e bs
  where
    odd_end : (n : ℕ) {t : List ℕ} → Evenly t → (bs : List ℕ) → bytes_onto (n ∷ t) bs ≡ none
    odd_end n even_none bs = refl
    odd_end n (even_more h l e) bs = odd_end l e ((16 * h + n) ∷ bs)
bytes_odd (odd_more h l d) e bs = bytes_odd d (even_more l h e) bs

-- Lines.

-- a body that fits its rules has no bad byte; one that doesn't, and has a byte for each rule, has one
fits_said : (qs : List Rule) (bs : List ℕ) → length bs ≡ length qs → (i : ℕ) (o : Outcome) (r : Reason) → in_short o ≡ short_of r
    → in_short (require (fits qs bs) bad_body o) ≡ short_of (body_reason qs bs i r)
unfolding require
fits_said [] [] h i o r e = e
fits_said [] (b ∷ bs) h i o r e = absurd (omega arith)
fits_said (q ∷ qs) [] h i o r e = absurd (omega arith)
fits_said (q ∷ qs) (b ∷ bs) h i o r e = go (allows q b) (fits_said qs bs (omega arith) (suc i) o r e)
  where
    go : (a : Bool) → in_short (require (fits qs bs) bad_body o) ≡ short_of (body_reason qs bs (suc i) r)
        → in_short (require (a && fits qs bs) bad_body o) ≡ short_of (cond a (body_reason qs bs (suc i) r) (reason.BadBody i b))
    go true g = g
    go false g = refl

number_said : (a b : ℕ) (o : Outcome) (r : Reason) → in_short o ≡ short_of r
    → in_short (require (number_good a && number_good b) bad_number o) ≡ short_of (number_reason a b r)
unfolding require number_reason
number_said a b o r e = go (number_good a) (number_good b)
  where
    go : (x y : Bool) → in_short (require (x && y) bad_number o) ≡ short_of (cond x (cond y r (reason.BadNumber 1 b)) (reason.BadNumber 0 a))
    go true true = e
    go true false = refl
    go false y = refl

end_said : (c : ℕ) (f : LineFacts) (body : List ℕ) → in_short (require (is_end (reading_of c)) no_end_of_line (line f body)) ≡ short_of (next_reason c)
unfolding require next_reason
end_said c f body = go (is_end (reading_of c))
  where
    go : (x : Bool) → in_short (require x no_end_of_line (line f body)) ≡ short_of (cond x reason.GoodLine (reason.NoEndOfLine c))
    go true = refl
    go false = refl

module _ (p : Profile) (k : Kind) (r : Repair) (c : ℕ) where
  -- a text of the wrong length
  too_short : (t : List ℕ) → (length t ≡ line_nibbles p → ⊥) → short_of (line_reason p k t (Some c)) ≡ refusal wrong_length
  unfolding line_reason
  too_short t h = simp (ne_eqb _ _ h)

  even_said : {t : List ℕ} → Evenly t → in_short (line_from p k r (some (bytes_in t)) (reading_of c)) ≡ short_of (line_reason p k t (Some c))
  unfolding line_reason require
  even_said even_none = sym (too_short [] (λ e. omega arith))
  even_said (even_more x y even_none) = sym (too_short (x ∷ y ∷ []) (λ e. omega arith))
  even_said (even_more x y (even_more h l even_none)) = sym (too_short (x ∷ y ∷ h ∷ l ∷ []) (λ e. omega arith))
  even_said (even_more x y (even_more h l (even_more h₂ l₂ {t} e))) = go (eqb (length (bytes_in t)) (body_length p)) refl
    where
      text : List ℕ
      text = x ∷ y ∷ h ∷ l ∷ h₂ ∷ l₂ ∷ t

      go : (b : Bool) → eqb (length (bytes_in t)) (body_length p) ≡ b → in_short (line_from p k r (some (bytes_in text)) (reading_of c)) ≡ short_of (line_reason p k text (Some c))
      go true q =
          let n = eqb-true (length (bytes_in t)) (body_length p) q in
          let w : length text ≡ line_nibbles p = omega (arith, even_length e) in
          simp (q, eq-eqb _ _ w)
          (number_said (16 * h + l) (16 * h₂ + l₂) _ _
          (fits_said (rules p k) (bytes_in t) (n ∙ sym (rules_length p k)) 0 _ _
          (end_said c _ _)))
      go false q =
          let n = eqb-false (length (bytes_in t)) (body_length p) q in
          let w : length text ≡ line_nibbles p → ⊥ = λ z. n (omega (arith, even_length e)) in
          simp (q, ne_eqb _ _ w)

  line_said : (t : List ℕ) → in_short (line_from p k r (bytes_onto (turned t []) []) (reading_of c)) ≡ short_of (line_reason p k t (Some c))
  line_said t = go (even_or_odd t)
    where
      go : EvenOrOdd t → in_short (line_from p k r (bytes_onto (turned t []) []) (reading_of c)) ≡ short_of (line_reason p k t (Some c))
      go (is_even e) =
          ap (λ o. in_short (line_from p k r o (reading_of c))) (bytes_even e [] [] ∙ ap {B = Option (List ℕ)} (λ l. some l) (append-nil (bytes_in t)))
          ∙ even_said e
      go (is_odd_lem e) =
          ap (λ o. in_short (line_from p k r o (reading_of c))) (bytes_odd e even_none [])
          ∙ sym (too_short t (λ q. odd_length e (body_length p + 3) (omega arith)))

-- Gaps.

stray_said : (w : List ℕ) (i n a b : ℕ) → in_short (require (all_f w) bad_gap (good_gap n a b)) ≡ short_of (stray_reason w i)
unfolding require good_gap
stray_said [] i n a b = refl
stray_said (v ∷ w) i n a b = go (eqb v 15) (stray_said w (suc i) n a b)
  where
    go : (x : Bool) → in_short (require (all_f w) bad_gap (good_gap n a b)) ≡ short_of (stray_reason w (suc i))
        → in_short (require (x && all_f w) bad_gap (good_gap n a b)) ≡ short_of (cond x (stray_reason w (suc i)) (reason.BadGap i v))
    go true e = e
    go false e = refl

pub gap_rule_lem : (k : Kind) (a b : ℕ) → gap_fits VV5300 k a b ≡ (allows (gap_rule k) a && allows (gap_rule k) b)
gap_rule_lem BL a b = refl
gap_rule_lem BK a b = refl
gap_rule_lem VL a b = refl
gap_rule_lem SOF a b = refl
gap_rule_lem EOF a b = refl

short_gap : (k : Kind) (g : List ℕ) → length g < 4 → short_of (two_bytes_reason k g) ≡ refusal bad_gap
unfolding two_bytes_reason
short_gap k g h = simp (lt-leb 4 (length g) h)

two_said : (k : Kind) (n : ℕ) (g : List ℕ) → in_short (two_bytes_then_f k n g) ≡ short_of (two_bytes_reason k g)
unfolding require two_bytes_reason
two_said k n [] = sym (short_gap k [] (omega arith))
two_said k n (h ∷ []) = sym (short_gap k (h ∷ []) (omega arith))
two_said k n (h ∷ l ∷ []) = sym (short_gap k (h ∷ l ∷ []) (omega arith))
two_said k n (h ∷ l ∷ h₂ ∷ []) = sym (short_gap k (h ∷ l ∷ h₂ ∷ []) (omega arith))
two_said k n (h ∷ l ∷ h₂ ∷ l₂ ∷ w) = long
  where
    a : ℕ
    a = 16 * h + l

    b : ℕ
    b = 16 * h₂ + l₂

    go : (x y : Bool)
        → in_short (require ((x && y) && all_f w) bad_gap (good_gap n a b))
        ≡ short_of (cond x (cond y (stray_reason w 4) (reason.BadGap 2 h₂)) (reason.BadGap 0 h))
    go true true = stray_said w 4 n a b
    go true false = refl
    go false y = refl

    long : in_short (two_bytes_then_f k n (h ∷ l ∷ h₂ ∷ l₂ ∷ w)) ≡ short_of (two_bytes_reason k (h ∷ l ∷ h₂ ∷ l₂ ∷ w))
    long =
        let g : 4 ≤ length (h ∷ l ∷ h₂ ∷ l₂ ∷ w) = omega arith in
        ap (λ x. in_short (require (x && all_f w) bad_gap (good_gap n a b))) (gap_rule_lem k a b)
        ∙ go (allows (gap_rule k) a) (allows (gap_rule k) b)
        ∙ simp (le-leb 4 _ g)

gap_said : (p : Profile) (k : Kind) (n : ℕ) (t : List ℕ) → in_short (gap_from p k n (after_code (turned (turned t []) []))) ≡ short_of (gap_reason p k (drop 2 t))
gap_said VV5404 k n t = ap (λ w. in_short (gap_from VV5404 k n w)) (ap after_code (turned_back t) ∙ after_code_lem t) ∙ stray_said (drop 2 t) 0 n _ _
gap_said VV5300 k n t = ap (λ w. in_short (gap_from VV5300 k n w)) (ap after_code (turned_back t) ∙ after_code_lem t) ∙ two_said k n (drop 2 t)

end_mark_said : (p : Profile) (before : Before) (n : ℕ) (t : List ℕ)
    → in_short (gap_answer p before n (turned t [])) ≡ short_of (end_mark_reason p (before_kind before) (drop 2 t))
end_mark_said p NoLine n t = refl
end_mark_said p (RefusedLine k) n t = gap_said p k n t
end_mark_said p (HandedOut k) n t = gap_said p k n t

-- Any mark.

-- the answer to a mark and its reason have the same number
pub reason_said : (p : Profile) (before : Before) (c : ℕ) (t : List ℕ) (next : Optional ℕ)
    → in_short (answer_of p before c (turned t []) (code_or next)) ≡ short_of (reason_of p (before_kind before) c t next)
unfolding answer_of reason_of line_reason
reason_said p before c t next = by_reading_lem (reading_of c)
  where
    by_line : (k : Kind) (r : Repair) (n : Optional ℕ) → in_short (line_answer p k r (turned t []) (code_or n)) ≡ short_of (line_reason p k t n)
    by_line k r None = refl
    by_line k r (Some d) = line_said p k r d t

    by_meaning_lem : (m : Meaning) (r : Repair) → in_short (by_meaning p before m r (turned t []) (code_or next)) ≡ short_of (meaning_reason p (before_kind before) m t next)
    by_meaning_lem EndOfLine r = end_mark_said p before _ t
    by_meaning_lem (Line k) r = by_line k r next
    by_meaning_lem ReservedEC r = refl
    by_meaning_lem ReservedF1 r = refl

    by_reading_lem : (d : Reading) → in_short (by_reading p before d (turned t []) (code_or next)) ≡ short_of (reading_reason p (before_kind before) d c t next)
    by_reading_lem (Says m r) = by_meaning_lem m r
    by_reading_lem Damaged = refl
