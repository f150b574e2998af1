-- A mark's answer is the table's, and the table has no other: both follow the definition case by case. The definition keeps a text newest nibble
-- first, the table has it oldest first (`turned`).
use Rattle.std.specs.Prelude.{◌≡◌, Bool, true, false, ◌&&◌, List, [], ◌∷◌, ℕ, ◌+◌, ◌-◌, ◌*◌, ◌≤◌, eqb, length}
use Rattle.std.proofs.Math.Path.{refl, ap}
use Rattle.std.proofs.Common.{◌∙◌, sym, subst, true≢false, arith, eqb-true, eq-eqb, ne_eqb}
use Rattle.std.proofs.Math.Option.{Option, none, some}
use Rattle.std.proofs.lemmas.Bool.{eqb-false}
use Rattle.bits.specs.Every.{and_left, and_right, and_both}
use Rattle.refusal.specs.Refusal.{reserved_code, wrong_length, bad_number, bad_body, no_end_of_line, bad_gap}
use Rattle.line_code.specs.declared.Kind.{Kind}
use Rattle.line_code.specs.declared.Meaning.{Meaning}
use Rattle.line_code.specs.declared.Meaning.TheVariants.{EndOfLine, Line, ReservedEC, ReservedF1}
use Rattle.line_code.specs.declared.Reading.{Reading}
use Rattle.line_code.specs.declared.Reading.TheVariants.{Says, Damaged}
use Rattle.line_code.specs.declared.Repair.{Repair}
use Rattle.line_code.specs.LineCode.{reading_of, is_end, repair_of}
use Rattle.line_number.specs.LineNumber.{number_good, number_from}
use Rattle.profile.specs.declared.Profile.{Profile}
use Rattle.profile.specs.declared.Profile.TheVariants.{VV5404, VV5300}
use Rattle.profile.specs.Profile.{body_length, null_byte}
use Rattle.profile.specs.Layout.{rules, fits, gap_fits}
use Rattle.stream.specs.declared.Before.{Before}
use Rattle.stream.specs.declared.Before.TheVariants.{NoLine, RefusedLine, HandedOut}
use Rattle.stream.specs.Answers.{facts, Outcome, line, refused, require, bytes_onto, line_from, good_gap, line_nibbles, period_of, turned, all_f, after_code, gap_from, gap_answer, by_meaning, by_reading, answer_of}
use Rattle.stream.specs.TextLaws.{requires, refuses}
use Rattle.stream.proofs.TextLengthLaws.{bytes_length}
use Rattle.recovery.specs.AnswerTable.{Reserved, reserved_ec, reserved_f1, AreBytes, no_bytes, byte_more, LineLaid, LineBefore, line_refused_lem, line_handed, GapLaid, only_f, two_then_f, LineTable, wrong_length_lem, bad_number_lem, bad_body_lem, no_end, a_line, Table, damaged, reserved, unfinished, of_line, without_line, bad_gap_lem, a_gap}

required : (A : Outcome → Type 0) (t : Bool) (n : ℕ) (o : Outcome) → (t ≡ false → A (refused n)) → (t ≡ true → A o) → A (require t n o)
unfolding require
required A true n o f g = g refl
required A false n o f g = f refl

-- Lines.

not_some : {A : Type 0} {x : A} → ◌≡◌ {A = Option A} none (some x) → ⊥
not_some e = let z : ◌≡◌ {A = ℕ} 0 1 = cc in omega arith

or_else : List ℕ → Option (List ℕ) → List ℕ
or_else d none = d
or_else d (some x) = x

some_same : {x y : List ℕ} → ◌≡◌ {A = Option (List ℕ)} (some x) (some y) → x ≡ y
unfolding or_else
some_same {x} e = ap (or_else x) e

-- nibbles that make no bytes are odd
odd : (t bs : List ℕ) → bytes_onto t bs ≡ none → (n : ℕ) → length t ≡ 2 * n → ⊥
odd [] bs e n h = not_some (sym e)
odd (x ∷ []) bs e n h = omega arith
odd (l ∷ u ∷ t) bs e n h = let z : length t ≡ 2 * (n - 1) = omega arith in odd t ((16 * u + l) ∷ bs) e (n - 1) z

-- the other way round there are as many
turned_length : (t v : List ℕ) → length (turned t v) ≡ length t + length v
turned_length [] v = omega arith
turned_length (n ∷ t) v = omega (arith, turned_length t (n ∷ v))

as_long : (t : List ℕ) → length (turned t []) ≡ length t
as_long t = omega (arith, turned_length t [])

-- the bytes of a text, newest first, are those of the same text oldest first
turned_bytes : (t v bs cs : List ℕ) → AreBytes v bs → bytes_onto t bs ≡ some cs → AreBytes (turned t v) cs
turned_bytes [] v bs cs h e = subst (AreBytes v) (some_same e) h
turned_bytes (l ∷ []) v bs cs h e = absurd (not_some e)
turned_bytes (l ∷ u ∷ t) v bs cs h e = turned_bytes t (u ∷ l ∷ v) ((16 * u + l) ∷ bs) cs (byte_more h) e

bytes_twice : {w bs : List ℕ} → AreBytes w bs → length w ≡ 2 * length bs
bytes_twice no_bytes = refl
bytes_twice (byte_more h) = omega (arith, bytes_twice h)

bytes_one : {w bs cs : List ℕ} → AreBytes w bs → AreBytes w cs → bs ≡ cs
bytes_one no_bytes no_bytes = refl
bytes_one (byte_more {h} {l} g) (byte_more k) = ap (λ (xs : List ℕ). (16 * h + l) ∷ xs) (bytes_one g k)

bytes_read : (t bs : List ℕ) → AreBytes (turned t []) bs → bytes_onto t [] ≡ some bs
bytes_read t bs h = go (bytes_onto t []) refl
  where
    go : (o : Option (List ℕ)) → bytes_onto t [] ≡ o → o ≡ some bs
    go none e = absurd (odd t [] e (length bs) (sym (as_long t) ∙ bytes_twice h))
    go (some cs) e = ap some (bytes_one (turned_bytes t [] [] cs no_bytes e) h)

module _ (p : Profile) (k : Kind) (r : Repair) (t : List ℕ) (next : ℕ) where
  line_table_of : (bytes : Option (List ℕ)) → bytes_onto t [] ≡ bytes → LineTable p k r (turned t []) next (line_from p k r bytes (reading_of next))
  line_table_of none e = wrong_length_lem (λ h. let z : length t ≡ 2 * (body_length p + 3) = omega (arith, h, as_long t) in odd t [] e (body_length p + 3) z)
  line_table_of (some []) e = wrong_length_lem (λ h. omega (arith, h, as_long t, bytes_length t [] [] e))
  line_table_of (some (c ∷ [])) e = wrong_length_lem (λ h. omega (arith, h, as_long t, bytes_length t [] (c ∷ []) e))
  line_table_of (some (c ∷ a ∷ [])) e = wrong_length_lem (λ h. omega (arith, h, as_long t, bytes_length t [] (c ∷ a ∷ []) e))
  line_table_of (some (c ∷ a ∷ b ∷ body)) e =
      let A : Outcome → Type 0 = LineTable p k r (turned t []) next in
      required A (eqb (length body) (body_length p)) wrong_length _
      (λ h. wrong_length_lem (λ l. eqb-false (length body) (body_length p) h (omega (arith, l, as_long t, bytes_length t [] (c ∷ a ∷ b ∷ body) e)))) (λ h.
      let laid : LineLaid p (turned t []) a b body = record { code = c; bytes = turned_bytes t [] [] _ no_bytes e; long = eqb-true (length body) (body_length p) h } in
      required A (number_good a && number_good b) bad_number _ (λ n. bad_number_lem laid n) (λ n.
      required A (fits (rules p k) body) bad_body _ (λ f. bad_body_lem laid n f) (λ f.
      required A (is_end (reading_of next)) no_end_of_line _ (λ g. no_end laid n f g) (λ g. a_line laid n f g))))

  line_table : LineTable p k r (turned t []) next (line_from p k r (bytes_onto t []) (reading_of next))
  line_table = line_table_of (bytes_onto t []) refl

  too_short : (bytes : Option (List ℕ)) → bytes_onto t [] ≡ bytes → (length (turned t []) ≡ line_nibbles p → ⊥) → line_from p k r bytes (reading_of next) ≡ refused wrong_length
  too_short none e h = refl
  too_short (some []) e h = refl
  too_short (some (c ∷ [])) e h = refl
  too_short (some (c ∷ a ∷ [])) e h = refl
  too_short (some (c ∷ a ∷ b ∷ body)) e h =
      refuses (eqb (length body) (body_length p)) wrong_length _ (ne_eqb (length body) (body_length p) (λ l. h (omega (arith, l, as_long t, bytes_length t [] (c ∷ a ∷ b ∷ body) e))))

  -- a text of the right length
  from_laid : {a b : ℕ} {body : List ℕ} {o : Outcome} → LineLaid p (turned t []) a b body
      → require (number_good a && number_good b) bad_number
      (require (fits (rules p k) body) bad_body
      (require (is_end (reading_of next)) no_end_of_line (line (facts k (number_from a b) r (repair_of (reading_of next))) body)))
      ≡ o
      → line_from p k r (bytes_onto t []) (reading_of next) ≡ o
  from_laid {body = body} l h =
      ap (λ (bs : Option (List ℕ)). line_from p k r bs (reading_of next)) (bytes_read t _ l.bytes)
      ∙ requires (eqb (length body) (body_length p)) wrong_length _ (eq-eqb (length body) (body_length p) l.long)
      ∙ h

  line_table_only : (o : Outcome) → LineTable p k r (turned t []) next o → line_from p k r (bytes_onto t []) (reading_of next) ≡ o
  line_table_only o (wrong_length_lem h) = too_short (bytes_onto t []) refl h
  line_table_only o (bad_number_lem l n) = from_laid l (refuses _ bad_number _ n)
  line_table_only o (bad_body_lem l n f) = from_laid l (requires _ bad_number _ n ∙ refuses _ bad_body _ f)
  line_table_only o (no_end l n f g) = from_laid l (requires _ bad_number _ n ∙ requires _ bad_body _ f ∙ refuses _ no_end_of_line _ g)
  line_table_only o (a_line l n f g) = from_laid l (requires _ bad_number _ n ∙ requires _ bad_body _ f ∙ requires _ no_end_of_line _ g)

-- Gaps.

-- 9, or the good gap
data GapTable (p : Profile) (k : Kind) (n : ℕ) (w : List ℕ) : Outcome → Type 0 where
  not_laid : ((a b : ℕ) → GapLaid k p w a b → ⊥) → GapTable p k n w (refused bad_gap)
  laid : (a b : ℕ) → GapLaid k p w a b → GapTable p k n w (good_gap n a b)

only_then : {k : Kind} {w : List ℕ} {a b : ℕ} → GapLaid k VV5404 w a b → all_f w ≡ true
only_then (only_f h) = h

-- a profile 1 gap has four nibbles at least
four_or_more : {k : Kind} {w : List ℕ} {a b : ℕ} → GapLaid k VV5300 w a b → 4 ≤ length w
four_or_more (two_then_f g h) = omega arith

two_then : {k : Kind} {h l h₂ l₂ : ℕ} {w : List ℕ} {a b : ℕ} → GapLaid k VV5300 (h ∷ l ∷ h₂ ∷ l₂ ∷ w) a b
    → (gap_fits VV5300 k (16 * h + l) (16 * h₂ + l₂) && all_f w) ≡ true
two_then {k} {h} {l} {h₂} {l₂} (two_then_f g f) = and_both (gap_fits VV5300 k (16 * h + l) (16 * h₂ + l₂)) _ g f

gap_table : (p : Profile) (k : Kind) (n : ℕ) (w : List ℕ) → GapTable p k n w (gap_from p k n w)
gap_table VV5404 k n w =
    required (GapTable VV5404 k n w) (all_f w) bad_gap _ (λ e. not_laid (λ a b h. true≢false (sym (only_then h) ∙ e))) (λ e. laid null_byte null_byte (only_f e))
gap_table VV5300 k n [] = not_laid (λ a b h. omega (arith, four_or_more h))
gap_table VV5300 k n (x ∷ []) = not_laid (λ a b h. omega (arith, four_or_more h))
gap_table VV5300 k n (x ∷ y ∷ []) = not_laid (λ a b h. omega (arith, four_or_more h))
gap_table VV5300 k n (x ∷ y ∷ z ∷ []) = not_laid (λ a b h. omega (arith, four_or_more h))
gap_table VV5300 k n (h ∷ l ∷ h₂ ∷ l₂ ∷ w) =
    let fit = gap_fits VV5300 k (16 * h + l) (16 * h₂ + l₂) in
    required (GapTable VV5300 k n (h ∷ l ∷ h₂ ∷ l₂ ∷ w)) (fit && all_f w) bad_gap _
    (λ e. not_laid (λ a b g. true≢false (sym (two_then g) ∙ e))) (λ e. laid _ _ (two_then_f (and_left fit (all_f w) e) (and_right fit (all_f w) e)))

gap_good : (p : Profile) (k : Kind) (n : ℕ) (w : List ℕ) (a b : ℕ) → GapLaid k p w a b → gap_from p k n w ≡ good_gap n a b
gap_good p k n w a b (only_f h) = requires _ bad_gap _ h
gap_good p k n w a b (two_then_f {h} {l} {h₂} {l₂} {w = v} g f) = requires _ bad_gap _ (and_both (gap_fits VV5300 k (16 * h + l) (16 * h₂ + l₂)) (all_f v) g f)

gap_nine : (p : Profile) (k : Kind) (n : ℕ) (w : List ℕ) → ((a b : ℕ) → GapLaid k p w a b → ⊥) → gap_from p k n w ≡ refused bad_gap
gap_nine p k n w h = go (gap_table p k n w)
  where
    go : {o : Outcome} → GapTable p k n w o → o ≡ refused bad_gap
    go (not_laid f) = refl
    go (laid a b g) = absurd (h a b g)

-- Any mark.

module _ (p : Profile) (before : Before) (code : ℕ) (t : List ℕ) where
  gap_after : (k : Kind) (r : Repair) (next : Option ℕ) → reading_of code ≡ Says EndOfLine r → LineBefore k before
      → {o : Outcome} → GapTable p k (period_of p before (length t) next) (after_code (turned t [])) o → Table p before code (turned t []) next o
  gap_after k r next e l (not_laid h) = bad_gap_lem r k e l h
  gap_after k r next e l (laid a b h) =
      subst (λ (n : ℕ). Table p before code (turned t []) next (good_gap (period_of p before n next) a b)) (as_long t) (a_gap r k a b e l h)

  end_table : (b : Before) → before ≡ b → (r : Repair) (next : Option ℕ) → reading_of code ≡ Says EndOfLine r
      → Table p before code (turned t []) next (gap_answer p b (period_of p before (length t) next) t)
  end_table NoLine eb r next e = without_line r e eb
  end_table (RefusedLine k) eb r next e = gap_after k r next e (subst (LineBefore k) (sym eb) line_refused_lem) (gap_table p k _ _)
  end_table (HandedOut k) eb r next e = gap_after k r next e (subst (LineBefore k) (sym eb) line_handed) (gap_table p k _ _)

  meaning_table : (m : Meaning) (r : Repair) (next : Option ℕ) → reading_of code ≡ Says m r → Table p before code (turned t []) next (by_meaning p before m r t next)
  meaning_table EndOfLine r next e = end_table before refl r next e
  meaning_table (Line k) r none e = unfinished k r e
  meaning_table (Line k) r (some next) e = of_line k r e (line_table p k r t next)
  meaning_table ReservedEC r next e = reserved (subst Reserved (sym e) reserved_ec)
  meaning_table ReservedF1 r next e = reserved (subst Reserved (sym e) reserved_f1)

  reading_table : (c : Reading) (next : Option ℕ) → reading_of code ≡ c → Table p before code (turned t []) next (by_reading p before c t next)
  reading_table (Says m r) next e = meaning_table m r next e
  reading_table Damaged next e = damaged e

  -- a mark's answer is the table's
  pub table : (next : Option ℕ) → Table p before code (turned t []) next (answer_of p before code t next)
  unfolding answer_of
  table next = reading_table (reading_of code) next refl

  read_as_lem : (c : Reading) (next : Option ℕ) {o : Outcome} → reading_of code ≡ c → by_reading p before c t next ≡ o → answer_of p before code t next ≡ o
  unfolding answer_of
  read_as_lem c next e h = ap (λ (x : Reading). by_reading p before x t next) e ∙ h

  reserved_two : (c : Reading) → Reserved c → (next : Option ℕ) → by_reading p before c t next ≡ refused reserved_code
  reserved_two c reserved_ec next = refl
  reserved_two c reserved_f1 next = refl

gap_before : (p : Profile) (k : Kind) {before : Before} (n : ℕ) (t : List ℕ) → LineBefore k before → gap_answer p before n t ≡ gap_from p k n (after_code (turned t []))
gap_before p k n t line_refused_lem = refl
gap_before p k n t line_handed = refl

-- and there is no other
pub table_only : (p : Profile) (before : Before) (code : ℕ) (t : List ℕ) (next : Option ℕ) (o : Outcome) → Table p before code (turned t []) next o
    → answer_of p before code t next ≡ o
table_only p before code t next o (damaged e) = read_as_lem p before code t Damaged next e refl
table_only p before code t next o (reserved h) = read_as_lem p before code t (reading_of code) next refl (reserved_two p before code t (reading_of code) h next)
table_only p before code t next o (unfinished k r e) = read_as_lem p before code t (Says (Line k) r) none e refl
table_only p before code t next o (of_line k r {next = c} e l) = read_as_lem p before code t (Says (Line k) r) (some c) e (line_table_only p k r t c o l)
table_only p before code t next o (without_line r e b) =
    read_as_lem p before code t (Says EndOfLine r) next e (ap (λ (x : Before). gap_answer p x (period_of p before (length t) next) t) b)
table_only p before code t next o (bad_gap_lem r k e l h) = read_as_lem p before code t (Says EndOfLine r) next e (gap_before p k _ t l ∙ gap_nine p k _ _ h)
table_only p before code t next o (a_gap r k a b e l h) =
    read_as_lem p before code t (Says EndOfLine r) next e
    (gap_before p k _ t l ∙ gap_good p k _ _ a b h ∙ ap (λ (n : ℕ). good_gap (period_of p before n next) a b) (sym (as_long t)))
