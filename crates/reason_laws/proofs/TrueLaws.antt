-- The reason is true of the input (02, A9).
use Rattle.std.specs.Prelude.{◌≡◌, Bool, ◌&&◌, cond, not, List, [], ◌∷◌, ℕ, zero, suc, ◌+◌, ◌%◌, ◌≤◌, ◌<◌, leb, take, drop, None, Option, Some}
use Rattle.std.proofs.Math.Path.{refl, ap, sym, subst}
use Rattle.std.proofs.Common.{◌∙◌, ap₂, true≢false, suc-le-suc, arith, not-suc-le-zero, le_of_suc-le-suc, take-append-drop, get_or-drop}
use Rattle.std.proofs.Math.Bool.{true, false}
use Rattle.std.proofs.Math.Dec.{eqb}
use Rattle.std.proofs.Math.ListN.{length, get_or, length-drop}
use borrow.Author.Tests.{eqb-true, eqb-false, eq-eqb, ne_eqb, leb-true, leb-false, le-ltb}
use Rattle.bits.specs.Every.{and_left, and_right, each}
use Rattle.refusal.specs.Refusal.{not_a_nibble, bad_kind, no_mark_first}
use Rattle.line_code.specs.declared.Kind.{Kind}
use Rattle.line_code.specs.declared.Meaning.{Meaning}
use Rattle.line_code.specs.declared.Meaning.TheVariants.{EndOfLine, Line, ReservedEC, ReservedF1}
use Rattle.line_code.specs.declared.Reading.{Reading}
use Rattle.line_code.specs.declared.Reading.TheVariants.{Says, Damaged}
use Rattle.line_code.specs.LineCode.{kind_numbered, reserved_of, meaning_of, reading_of, is_end, is_damaged, even, parity_holds}
use Rattle.line_number.specs.LineNumber.{number_good}
use Rattle.profile.specs.declared.Profile.{Profile}
use Rattle.profile.specs.declared.Profile.TheVariants.{VV5404, VV5300}
use Rattle.profile.specs.declared.Rule.{Rule}
use Rattle.profile.specs.declared.Rule.TheVariants.{Filler}
use Rattle.profile.specs.Profile.{profile_numbered, profile_number, body_length}
use Rattle.profile.specs.Layout.{allows, rules}
use Rattle.profile.specs.LayoutLaws.{rules_length}
use Rattle.stream.specs.Answers.{line_nibbles}
use Rattle.stream.specs.Nibbles.{nibbles_only}
use Rattle.reason.specs.declared.FailedSums.{FailedSums}
use Rattle.reason.specs.declared.Reason.{Reason}
use Rattle.reason.specs.declared.Reason.TheVariants.{GoodLine, GoodGap, WrongLength, BadNumber, BadBody, NoEndOfLine, BadGap, ShortGap, Refused}
use Rattle.reason.specs.Sums.{sum_p0, sum_p1, sum_p2, sum_p3, failed_sums}
use Rattle.reason.specs.Explanation.{code_at, is_code, begins_mark, next_mark, pair_at, bytes_in, number_reason, body_reason, next_reason, line_reason, gap_rule, stray_reason, two_bytes_reason, end_mark_reason, meaning_reason, reading_reason, reason_of, text_in, next_in, first_reason, after_opener, last_kind, run_reason, profile_reason, explanation}
use Rattle.reason.specs.ExplanationLaws.{begun, begun_begins, bytes_length, byte_drop, bytes_body}
use Rattle.reason_laws.specs.True.{HoldBelow, body_byte_at, number_holds, body_holds, gap_holds, SumsFail, CodeSays, LineLong, NumberGood, BodyGood, GapAfter, TrueOf, damaged, reserved_ec, reserved_f1, unfinished, wrong_length_lem, bad_number_lem, bad_body_lem, no_end, good_line, end_without_line_lem, short_gap, bad_gap_lem, good_gap_lem, CutAt, TrueOfRun, Above, Explains, no_profile, no_kind, no_nibble, no_mark, because}

-- Parity sums.

sums_fail : (b : ℕ) → SumsFail b (failed_sums b)
unfolding failed_sums
sums_fail b = record { first = refl; second = refl; third = refl; fourth = refl }

-- none of the four fails
abbrev pub none_fails : FailedSums → Bool
none_fails s = not s.p0 && (not s.p1 && (not s.p2 && not s.p3))

-- so exactly if the parity sums all hold, as a clean byte's do

odd_even : (n : ℕ) → not (eqb (n % 2) 1) ≡ even n
odd_even n = go (eqb (n % 2) 0) refl
  where
    go : (b : Bool) → eqb (n % 2) 0 ≡ b → not (eqb (n % 2) 1) ≡ b
    go true e =
        let z = eqb-true (n % 2) 0 e in
        ap not (ne_eqb (n % 2) 1 (λ q. omega arith))
    go false e =
        let z = eqb-false (n % 2) 0 e in
        let one : n % 2 ≡ 1 = go_one (n % 2) z (omega arith) in
        ap not (eq-eqb (n % 2) 1 one)
      where
        go_one : (m : ℕ) → (m ≡ 0 → ⊥) → m < 2 → m ≡ 1
        go_one zero f h = absurd (f refl)
        go_one (suc m) f h = omega arith

-- none fails exactly if the parity sums all hold, as a clean byte's do
pub none_fails_lem : (b : ℕ) → none_fails (failed_sums b) ≡ parity_holds b
unfolding failed_sums
none_fails_lem b =
    ap₂ (λ x y. x && y) (odd_even (sum_p0 b))
    (ap₂ (λ x y. x && y) (odd_even (sum_p1 b)) (ap₂ (λ x y. x && y) (odd_even (sum_p2 b)) (odd_even (sum_p3 b))))

-- a damaged byte fails at least one: with all sums right, its top bit alone is wrong, and is repaired
pub damaged_fails : (b : ℕ) → b < 256 → reading_of b ≡ Damaged → none_fails (failed_sums b) ≡ false
unfolding reading_of failed_sums meaning_of reserved_of kind_numbered
damaged_fails b h e = go (none_fails (failed_sums b)) (sym (ap (λ d. not (is_damaged d && none_fails (failed_sums b))) e) ∙ each (λ (n : ℕ). not (is_damaged (reading_of n) && none_fails (failed_sums n))) 256 refl b h)
  where
    go : (x : Bool) → not x ≡ true → x ≡ false
    go true q = absurd (true≢false (sym q))
    go false q = refl

-- Places.

-- one place more
before_more : (f : ℕ → Bool) (n : ℕ) → f 0 ≡ true → HoldBelow (λ (i : ℕ). f (suc i)) n → HoldBelow f (suc n)
before_more f n z g zero h = z
before_more f n z g (suc i) h = g i (le_of_suc-le-suc h)

nowhere : (f : ℕ → Bool) → HoldBelow f 0
nowhere f i h = absurd (not-suc-le-zero h)

-- Bodies.

-- the rule at a place allows the byte there
abbrev allowed_at : List Rule → List ℕ → ℕ → Bool
allowed_at qs bs i = allows (get_or qs i Filler) (get_or bs i 0)

-- the first bad byte, or none: P holds of what is said then
body_cases : (P : Reason → Type 0) (qs : List Rule) (bs : List ℕ) → length bs ≡ length qs → (i : ℕ) (r : Reason)
    → ((j n : ℕ) → n ≡ i + j → j < length qs → allowed_at qs bs j ≡ false → HoldBelow (allowed_at qs bs) j → P (BadBody n (get_or bs j 0)))
    → (HoldBelow (allowed_at qs bs) (length qs) → P r)
    → P (body_reason qs bs i r)
body_cases P [] [] h i r f g = g (nowhere (allowed_at [] []))
body_cases P [] (b ∷ bs) h i r f g = absurd (omega arith)
body_cases P (q ∷ qs) [] h i r f g = absurd (omega arith)
body_cases P (q ∷ qs) (b ∷ bs) h i r f g =
    go (allows q b) refl
    (λ a. body_cases P qs bs (omega arith) (suc i) r
    (λ j n e l x y. f (suc j) n (omega arith) (omega arith) x (before_more (allowed_at (q ∷ qs) (b ∷ bs)) j a y))
    (λ y. g (before_more (allowed_at (q ∷ qs) (b ∷ bs)) (length qs) a y)))
  where
    go : (x : Bool) → allows q b ≡ x → (allows q b ≡ true → P (body_reason qs bs (suc i) r)) → P (cond x (body_reason qs bs (suc i) r) (BadBody i b))
    go true e k = k e
    go false e k = f 0 i (omega arith) (omega arith) e (nowhere (allowed_at (q ∷ qs) (b ∷ bs)))

-- Lines.

module _ (p : Profile) (before : Option Kind) (code : ℕ) (t : List ℕ) where
  module _ (k : Kind) (c : ℕ) (says : CodeSays code (Line k)) where
    end_true : BodyGood p code t (Some c) k c → TrueOf p before code t (Some c) (next_reason c)
    unfolding next_reason
    end_true b = go (is_end (reading_of c)) refl
      where
        go : (x : Bool) → is_end (reading_of c) ≡ x → TrueOf p before code t (Some c) (cond x GoodLine (NoEndOfLine c))
        go true e = good_line k c b e
        go false e = no_end k c b e

    body_true : NumberGood p code t (Some c) k c → TrueOf p before code t (Some c) (body_reason (rules p k) (bytes_in (drop 6 t)) 0 (next_reason c))
    body_true n =
        body_cases (TrueOf p before code t (Some c)) (rules p k) bs (same ∙ sym (rules_length p k)) 0 (next_reason c)
        (λ j m e l x y.
        let z : m ≡ j = omega arith in
        let lj : j < body_length p = omega (arith, rules_length p k) in
        subst (λ (i : ℕ). TrueOf p before code t (Some c) (BadBody i (get_or bs j 0))) (sym z)
        (subst (λ (b : ℕ). TrueOf p before code t (Some c) (BadBody j b)) (sym (at j lj))
        (bad_body_lem k c j n
        (record {
          within = lj;
          bad = sym (holds_at j lj) ∙ x;
          good_before = λ i li. sym (holds_at i (omega arith)) ∙ y i li;
        }))))
        (λ y. end_true (record { so_far = n; body_good = λ i li. sym (holds_at i li) ∙ y i (omega (arith, rules_length p k)) }))
      where
        bs : List ℕ
        bs = bytes_in (drop 6 t)

        same : length bs ≡ body_length p
        same = bytes_length (drop 6 t) (body_length p) (length-drop 6 t ∙ (let e = n.so_far.long in omega arith))

        at : (j : ℕ) → j < body_length p → get_or bs j 0 ≡ body_byte_at t j
        at j l = bytes_body t j (subst (λ (m : ℕ). j < m) (sym same) l)

        holds_at : (j : ℕ) → j < body_length p → allowed_at (rules p k) bs j ≡ body_holds p k t j
        holds_at j l = ap (allows (get_or (rules p k) j Filler)) (at j l)

    number_true : LineLong p code t (Some c) k c → TrueOf p before code t (Some c) (number_reason (pair_at t 2) (pair_at t 4) (body_reason (rules p k) (bytes_in (drop 6 t)) 0 (next_reason c)))
    unfolding number_reason
    number_true l = go (number_good (pair_at t 2)) refl (number_good (pair_at t 4)) refl
      where
        go : (x : Bool) → number_good (pair_at t 2) ≡ x → (y : Bool) → number_good (pair_at t 4) ≡ y
            → TrueOf p before code t (Some c) (cond x (cond y (body_reason (rules p k) (bytes_in (drop 6 t)) 0 (next_reason c)) (BadNumber 1 (pair_at t 4))) (BadNumber 0 (pair_at t 2)))
        go true e true f = body_true (record { so_far = l; number_good = before_more (number_holds t) 1 e (before_more (λ (i : ℕ). number_holds t (suc i)) 0 f (nowhere (λ (i : ℕ). number_holds t (suc (suc i))))) })
        go true e false f =
            bad_number_lem k c 1 l (record { within = omega arith; bad = f; good_before = before_more (number_holds t) 0 e (nowhere (λ (i : ℕ). number_holds t (suc i))) })
        go false e y f = bad_number_lem k c 0 l (record { within = omega arith; bad = e; good_before = nowhere (number_holds t) })

  line_true : (k : Kind) → CodeSays code (Line k) → (next : Option ℕ) → TrueOf p before code t next (line_reason p k t next)
  unfolding line_reason
  line_true k says None = unfinished k says refl
  line_true k says (Some c) = go (eqb (length t) (line_nibbles p)) refl
    where
      go : (x : Bool) → eqb (length t) (line_nibbles p) ≡ x
          → TrueOf p before code t (Some c)
          (cond x (number_reason (pair_at t 2) (pair_at t 4) (body_reason (rules p k) (bytes_in (drop 6 t)) 0 (next_reason c))) (WrongLength (length t) (line_nibbles p)))
      go true e = number_true k c says (record { is_line = says; next_is = refl; long = eqb-true (length t) (line_nibbles p) e })
      go false e = wrong_length_lem k c says refl (eqb-false (length t) (line_nibbles p) e)

-- Gaps.

abbrev is_f : List ℕ → ℕ → Bool
is_f w i = eqb (get_or w i 0) 15

-- the first nibble other than F, or none
stray_cases : (P : Reason → Type 0) (w : List ℕ) (i : ℕ)
    → ((j n : ℕ) → n ≡ i + j → j < length w → is_f w j ≡ false → HoldBelow (is_f w) j → P (BadGap n (get_or w j 0)))
    → (HoldBelow (is_f w) (length w) → P GoodGap)
    → P (stray_reason w i)
stray_cases P [] i f g = g (nowhere (is_f []))
stray_cases P (v ∷ w) i f g =
    go (eqb v 15) refl
    (λ a. stray_cases P w (suc i)
    (λ j n e l x y. f (suc j) n (omega arith) (omega arith) x (before_more (is_f (v ∷ w)) j a y))
    (λ y. g (before_more (is_f (v ∷ w)) (length w) a y)))
  where
    go : (x : Bool) → eqb v 15 ≡ x → (eqb v 15 ≡ true → P (stray_reason w (suc i))) → P (cond x (stray_reason w (suc i)) (BadGap i v))
    go true e k = k e
    go false e k = f 0 i (omega arith) (omega arith) e (nowhere (is_f (v ∷ w)))

module _ (code : ℕ) (t : List ℕ) (next : Option ℕ) (k : Kind) (is_end_lem : CodeSays code EndOfLine) where
  after : GapAfter (Some k) code k
  after = record { is_end = is_end_lem; before_is = refl }

  gap_true_0 : TrueOf VV5404 (Some k) code t next (stray_reason (drop 2 t) 0)
  gap_true_0 =
      stray_cases (TrueOf VV5404 (Some k) code t next) (drop 2 t) 0
      (λ j n e l x y.
      let z : n ≡ j = omega arith in
      subst (λ (i : ℕ). TrueOf VV5404 (Some k) code t next (BadGap i (get_or (drop 2 t) j 0))) (sym z)
      (bad_gap_lem k j after (omega arith) (record { within = l; bad = x; good_before = y })))
      (λ y. good_gap_lem k after (omega arith) y)

  -- profile 1: a nibble after the two bytes
  late : (j : ℕ) → gap_holds VV5300 k (drop 2 t) (4 + j) ≡ is_f (drop 4 (drop 2 t)) j
  late j =
      ap (λ (b : Bool). cond b (cond (eqb ((4 + j) % 2) 1) true (allows (gap_rule k) (pair_at (drop 2 t) (4 + j)))) (eqb (get_or (drop 2 t) (4 + j) 0) 15))
      (le-ltb (4 + j) 4 (omega arith))
      ∙ ap (λ (n : ℕ). eqb n 15) (sym (get_or-drop 4 (drop 2 t) j 0))

  module _ (a : allows (gap_rule k) (pair_at (drop 2 t) 0) ≡ true) where
    -- the first byte is good; the second is; so are nibbles after them
    one_good : HoldBelow (gap_holds VV5300 k (drop 2 t)) 2
    one_good zero h = a
    one_good (suc zero) h = refl
    one_good (suc (suc i)) h = absurd (not-suc-le-zero (le_of_suc-le-suc (le_of_suc-le-suc h)))

    all_good : allows (gap_rule k) (pair_at (drop 2 t) 2) ≡ true → (n j : ℕ) → n ≡ 4 + j → HoldBelow (is_f (drop 4 (drop 2 t))) j
        → HoldBelow (gap_holds VV5300 k (drop 2 t)) n
    all_good b n j e y zero h = a
    all_good b n j e y (suc zero) h = refl
    all_good b n j e y (suc (suc zero)) h = b
    all_good b n j e y (suc (suc (suc zero))) h = refl
    all_good b n j e y (suc (suc (suc (suc i)))) h =
        ap (gap_holds VV5300 k (drop 2 t)) (let q : suc (suc (suc (suc i))) ≡ 4 + i = omega arith in q) ∙ late i ∙ y i (omega arith)

  gap_true_1 : TrueOf VV5300 (Some k) code t next (two_bytes_reason k (drop 2 t))
  unfolding two_bytes_reason
  gap_true_1 = go (leb 4 (length (drop 2 t))) refl (allows (gap_rule k) (pair_at (drop 2 t) 0)) refl (allows (gap_rule k) (pair_at (drop 2 t) 2)) refl
    where
      tail : 4 ≤ length (drop 2 t) → allows (gap_rule k) (pair_at (drop 2 t) 0) ≡ true → allows (gap_rule k) (pair_at (drop 2 t) 2) ≡ true
          → TrueOf VV5300 (Some k) code t next (stray_reason (drop 4 (drop 2 t)) 4)
      tail l a b =
          stray_cases (TrueOf VV5300 (Some k) code t next) (drop 4 (drop 2 t)) 4
          (λ j n e m x y.
          subst (λ (v : ℕ). TrueOf VV5300 (Some k) code t next (BadGap n v))
          (ap (λ (i : ℕ). get_or (drop 2 t) i 0) e ∙ sym (get_or-drop 4 (drop 2 t) j 0))
          (bad_gap_lem k n after l
          (record {
            within = omega (arith, length-drop 4 (drop 2 t));
            bad = ap (gap_holds VV5300 k (drop 2 t)) e ∙ late j ∙ x;
            good_before = all_good a b n j e y;
          })))
          (λ y. good_gap_lem k after l (all_good a b (length (drop 2 t)) (length (drop 4 (drop 2 t))) (omega (arith, length-drop 4 (drop 2 t))) y))

      go : (x : Bool) → leb 4 (length (drop 2 t)) ≡ x
          → (y : Bool) → allows (gap_rule k) (pair_at (drop 2 t) 0) ≡ y
          → (z : Bool) → allows (gap_rule k) (pair_at (drop 2 t) 2) ≡ z
          → TrueOf VV5300 (Some k) code t next
          (cond x (cond y (cond z (stray_reason (drop 4 (drop 2 t)) 4) (BadGap 2 (get_or (drop 2 t) 2 0))) (BadGap 0 (get_or (drop 2 t) 0 0))) (ShortGap (length (drop 2 t))))
      go false e y a z b = short_gap k after (leb-false 4 (length (drop 2 t)) e)
      go true e false a z b =
          let l = leb-true 4 (length (drop 2 t)) e in
          bad_gap_lem k 0 after l (record { within = omega arith; bad = a; good_before = nowhere (gap_holds VV5300 k (drop 2 t)) })
      go true e true a false b =
          let l = leb-true 4 (length (drop 2 t)) e in
          bad_gap_lem k 2 after l (record { within = omega arith; bad = b; good_before = one_good a })
      go true e true a true b = tail (leb-true 4 (length (drop 2 t)) e) a b

gap_true : (p : Profile) (before : Option Kind) (code : ℕ) (t : List ℕ) (next : Option ℕ) → CodeSays code EndOfLine
    → TrueOf p before code t next (end_mark_reason p before (drop 2 t))
gap_true p None code t next s = end_without_line_lem s refl
gap_true VV5404 (Some k) code t next s = gap_true_0 code t next k s
gap_true VV5300 (Some k) code t next s = gap_true_1 code t next k s

-- Any mark.

-- the reason is true of the mark's code, its text and the next mark's code
pub reason_true : (p : Profile) (before : Option Kind) (code : ℕ) (t : List ℕ) (next : Option ℕ) → TrueOf p before code t next (reason_of p before code t next)
unfolding reason_of
reason_true p before code t next = by_reading_lem (reading_of code) refl
  where
    by_meaning_lem : (m : Meaning) → CodeSays code m → TrueOf p before code t next (meaning_reason p before m t next)
    by_meaning_lem EndOfLine s = gap_true p before code t next s
    by_meaning_lem (Line k) s = line_true p before code t k s next
    by_meaning_lem ReservedEC s = reserved_ec s
    by_meaning_lem ReservedF1 s = reserved_f1 s

    by_reading_lem : (d : Reading) → reading_of code ≡ d → TrueOf p before code t next (reading_reason p before d code t next)
    by_reading_lem (Says m r) e = by_meaning_lem m (record { repair = r; reads = e })
    by_reading_lem Damaged e = damaged (failed_sums code) e (sums_fail code)

-- Runs.

no_mark_in : (u : List ℕ) (i : ℕ) → i < next_mark u → begins_mark (drop i u) ≡ false
no_mark_in [] i h = absurd (not-suc-le-zero h)
no_mark_in (n ∷ u) i h = go (begins_mark (n ∷ u)) refl i h (λ j l. no_mark_in u j l)
  where
    go : (b : Bool) → begins_mark (n ∷ u) ≡ b → (i : ℕ) → i < cond b 0 (suc (next_mark u)) → ((j : ℕ) → j < next_mark u → begins_mark (drop j u) ≡ false)
        → begins_mark (drop i (n ∷ u)) ≡ false
    go true e i l f = absurd (not-suc-le-zero l)
    go false e zero l f = e
    go false e (suc i) l f = f i (le_of_suc-le-suc l)

all_at_finish : (u : List ℕ) → next_in u ≡ None → text_in u ≡ u
all_at_finish [] h = refl
all_at_finish (n ∷ u) h = go (code_at (n ∷ u)) refl h (all_at_finish u)
  where
    go : (c : Option ℕ) → code_at (n ∷ u) ≡ c → code_at (drop (cond (is_code c) 0 (suc (next_mark u))) (n ∷ u)) ≡ None → (next_in u ≡ None → text_in u ≡ u)
        → take (cond (is_code c) 0 (suc (next_mark u))) (n ∷ u) ≡ n ∷ u
    go None e k f = ap (λ (l : List ℕ). n ∷ l) (f k)
    go (Some d) e k f = cc

take_less : (n : ℕ) (u : List ℕ) (i : ℕ) → i < length (take n u) → i < n
take_less zero u i h = absurd (not-suc-le-zero h)
take_less (suc n) [] i h = absurd (not-suc-le-zero h)
take_less (suc n) (x ∷ u) zero h = omega arith
take_less (suc n) (x ∷ u) (suc i) h = suc-le-suc (take_less n u i (le_of_suc-le-suc h))

-- the first mark's text ends where it should
pub cut_there : (u : List ℕ) → CutAt u (text_in u) (next_in u)
cut_there u =
    record {
      rest = drop (next_mark u) u;
      whole = sym (take-append-drop (next_mark u) u);
      next_there = refl;
      no_mark_before = λ i h g. true≢false (sym (begun_begins (drop i u) g) ∙ no_mark_in u i (take_less (next_mark u) u i h));
      none_at_finish = all_at_finish u;
    }

-- and nowhere else
pub cut_only : (t : List ℕ) (u : List ℕ) (next : Option ℕ) → CutAt u t next → (t ≡ text_in u) × (next ≡ next_in u)
cut_only [] u next c = go u next (ap code_at c.whole ∙ c.next_there) c.none_at_finish
  where
    go : (u : List ℕ) (next : Option ℕ) → code_at u ≡ next → (next ≡ None → [] ≡ u) → ([] ≡ text_in u) × (next ≡ next_in u)
    go [] next e f = (refl, sym e)
    go (n ∷ u) None e f = let z = f refl in (cc, cc)
    go (n ∷ u) (Some d) e f =
        let z : next_mark (n ∷ u) ≡ 0 = ap (λ (q : Option ℕ). cond (is_code q) 0 (suc (next_mark u))) e in
        (ap (λ (m : ℕ). take m (n ∷ u)) (sym z), sym e ∙ ap (λ (m : ℕ). code_at (drop m (n ∷ u))) (sym z))
cut_only (x ∷ t) [] next c = let z = c.whole in (cc, cc)
cut_only (x ∷ t) (n ∷ u) next c = go (begins_mark (n ∷ u)) refl (cut_only t u next (shorter c))
  where
    shorter : CutAt (n ∷ u) (x ∷ t) next → CutAt u t next
    shorter c =
        let z = c.whole in
        record {
          rest = c.rest;
          whole = cc;
          next_there = c.next_there;
          no_mark_before = λ i h. c.no_mark_before (suc i) (suc-le-suc h);
          none_at_finish = λ e. let y = c.none_at_finish e in cc;
        }

    same : x ≡ n
    same = let z = c.whole in cc

    go : (b : Bool) → begins_mark (n ∷ u) ≡ b → (t ≡ text_in u) × (next ≡ next_in u) → (x ∷ t ≡ text_in (n ∷ u)) × (next ≡ next_in (n ∷ u))
    go true e r = absurd (c.no_mark_before 0 (omega arith) (begun (n ∷ u) e))
    go false e r =
        let z : next_mark (n ∷ u) ≡ suc (next_mark u) = ap (λ (b : Bool). cond b 0 (suc (next_mark u))) e in (
          ap₂ (λ (m : ℕ) (l : List ℕ). m ∷ l) same r.0 ∙ ap (λ (m : ℕ). take m (n ∷ u)) (sym z),
          r.1 ∙ ap (λ (m : ℕ). code_at (drop m (n ∷ u))) (sym z),
        )

-- the reason of a run's first mark is true of the run
first_true : (p : Profile) (before : Option Kind) (w : List ℕ) → TrueOfRun p before w (first_reason p before (after_opener w))
unfolding first_reason
first_true p before w =
    let u : List ℕ = after_opener w in
    record {
      text = text_in u;
      next = next_in u;
      cut = cut_there u;
      true_of =
          subst (λ (c : ℕ). TrueOf p before c (text_in u) (next_in u) (reason_of p before (pair_at u 0) (text_in u) (next_in u))) (byte_drop 6 w 0)
          (reason_true p before (pair_at u 0) (text_in u) (next_in u));
    }

none_above : (w : List ℕ) → nibbles_only w ≡ true → Above w → ⊥
none_above w h a = go w h a.place a.above
  where
    go : (w : List ℕ) → nibbles_only w ≡ true → (i : ℕ) → 15 < get_or w i 0 → ⊥
    go [] h i l = omega arith
    go (n ∷ w) h zero l = let k = leb-true n 15 (and_left (leb n 15) (nibbles_only w) h) in omega arith
    go (n ∷ w) h (suc i) l = go w (and_right (leb n 15) (nibbles_only w) h) i l

one_above : (w : List ℕ) → nibbles_only w ≡ false → Above w
one_above [] h = absurd (true≢false h)
one_above (n ∷ w) h = go (leb n 15) refl h (one_above w)
  where
    go : (b : Bool) → leb n 15 ≡ b → (b && nibbles_only w) ≡ false → (nibbles_only w ≡ false → Above w) → Above (n ∷ w)
    go false e k f = record { place = 0; within = omega arith; above = leb-false n 15 e }
    go true e k f = let a = f k in record { place = suc a.place; within = suc-le-suc a.within; above = a.above }

-- what is answered to every profile number, kind number and run: the refusals, and the reason, which is true of the input
pub explains : (n k : ℕ) (w : List ℕ) → Explains n k w (explanation n k w)
unfolding explanation profile_numbered run_reason
explains n k w = by_profile (eqb n 0) refl (eqb n 1) refl
  where
    by_run : (p : Profile) → n ≡ profile_number p → Explains n k w (run_reason p k w)
    by_run p e = go (leb k last_kind) refl (nibbles_only w) refl (begins_mark w) refl
      where
        go : (x : Bool) → leb k last_kind ≡ x → (y : Bool) → nibbles_only w ≡ y → (z : Bool) → begins_mark w ≡ z
            → Explains n k w (cond x (cond y (cond z (first_reason p (kind_numbered k) (after_opener w)) (Refused (record { 0 = no_mark_first }))) (Refused (record { 0 = not_a_nibble }))) (Refused (record { 0 = bad_kind })))
        go false a y b z d = no_kind p e (leb-false k last_kind a)
        go true a false b z d = no_nibble p e (leb-true k last_kind a) (one_above w b)
        go true a true b false d = no_mark p e (leb-true k last_kind a) (none_above w b) (λ g. true≢false (sym (begun_begins w g) ∙ d))
        go true a true b true d = because p e (leb-true k last_kind a) (none_above w b) (begun w d) (first_true p (kind_numbered k) w)

    by_profile : (x : Bool) → eqb n 0 ≡ x → (y : Bool) → eqb n 1 ≡ y
        → Explains n k w (profile_reason (cond x (Some VV5404) (cond y (Some VV5300) None)) k w)
    by_profile true e y f = by_run VV5404 (eqb-true n 0 e)
    by_profile false e true f = by_run VV5300 (eqb-true n 1 f)
    by_profile false e false f = no_profile none
      where
        none : (p : Profile) → n ≡ profile_number p → ⊥
        none VV5404 q = eqb-false n 0 e q
        none VV5300 q = eqb-false n 1 f q
