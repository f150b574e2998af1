-- One turn of each loop, and what a slice's nibbles are known to be.
use Rattle.std.specs.Prelude.{Option, None, Some}
use mathlib.Core.Path.{◌≡◌, refl, ◌∙◌, ap, ap₂, sym, subst}
use mathlib.Core.Bool.{Bool, true, false, ◌&&◌, cond, true≢false}
use mathlib.Core.List.{List, [], ◌∷◌}
use mathlib.Core.Option.{none, some}
use Prim.Native.Nat.{ℕ, zero, suc, ◌+◌, ◌-◌, ◌*◌, ◌≤◌, ◌<◌}
use native.Mathlib.Omega.{arith}
use native.Mathlib.Numerals.{add-one}
use lib.Dec.{eqb, leb, ltb}
use lib.ListN.{length, take, drop, get_or, length-drop, drop_of_length-le}
use lib.Seq.{drop-cons, take-length}
use borrow.Author.Tests.{eq-eqb, ne_eqb, leb-true, le-leb, lt-leb, ltb-true, ltb-false}
use Rattle.std.specs.Bool.{MatchBool}
use Rattle.std.specs.List.{AllWithin, HoldsAt, starts_with}
use Rattle.bits.specs.Every.{and_left, and_right, and_both}
use Rattle.refusal.specs.Refusal.{not_a_nibble, bad_kind, no_mark_first}
use Rattle.line_code.specs.declared.Kind.{Kind}
use Rattle.line_code.specs.LineCode.{kind_numbered}
use Rattle.line_number.specs.LineNumber.{number_good}
use Rattle.profile.specs.declared.Profile.{Profile}
use Rattle.profile.specs.declared.Rule.{Rule}
use Rattle.profile.specs.declared.Rule.TheVariants.{Filler}
use Rattle.profile.specs.Profile.{body_length}
use Rattle.profile.specs.Layout.{allows, rules}
use Rattle.profile.specs.LayoutLaws.{rules_length}
use Rattle.stream.specs.Answers.{line_nibbles}
use Rattle.stream.specs.Nibbles.{nibbles_only}
use Rattle.reason.specs.declared.Reason.{Reason}
use Rattle.reason.specs.declared.Reason.TheVariants.{GoodGap, WrongLength, BadNumber, BadBody, BadGap, ShortGap, Refused}
use Rattle.reason.specs.Explanation.{code_after, code_at, is_code, begins_mark, next_mark, pair_at, bytes_in, number_reason, body_reason, line_from_number, line_reason, gap_rule, stray_reason, two_bytes_reason, reason_of, after_opener, first_reason, last_kind, run_reason}
use Rattle.reason.specs.ExplanationLaws.{begun, bytes_length, bytes_body}

-- Nibbles.

-- each is at most 15
pub nibble_small : (w : List ℕ) → nibbles_only w ≡ true → (i : ℕ) → get_or w i 0 < 16
nibble_small [] h i = omega arith
nibble_small (n ∷ w) h zero = let k = leb-true n 15 (and_left (leb n 15) (nibbles_only w) h) in omega arith
nibble_small (n ∷ w) h (suc i) = nibble_small w (and_right (leb n 15) (nibbles_only w) h) i

nibbles_all : (w : List ℕ) → AllWithin (λ x. x ≤ 15) w 0 (length w) → nibbles_only w ≡ true
nibbles_all [] h = refl
nibbles_all (n ∷ w) h =
    and_both (leb n 15) (nibbles_only w) (le-leb n 15 (h 0 0 (omega arith) (omega arith))) (nibbles_all w (λ k d low high. h (suc k) d (omega arith) (omega arith)))

nibbles_not : (w : List ℕ) (k : ℕ) → HoldsAt (λ x. 15 < x) w k → nibbles_only w ≡ false
nibbles_not w k h = go (nibbles_only w) refl
  where
    go : (b : Bool) → nibbles_only w ≡ b → b ≡ false
    go true e = let small = nibble_small w e k in let large = h 0 in absurd (omega arith)
    go false e = refl

-- what trying each tells
pub nibbles_tried : (r : Bool) (w : List ℕ) → MatchBool r (AllWithin (λ x. x ≤ 15) w 0 (length w)) ((k : ℕ) × (k < length w) × HoldsAt (λ x. 15 < x) w k) → r ≡ nibbles_only w
nibbles_tried true w h = sym (nibbles_all w h)
nibbles_tried false w h = sym (nibbles_not w h.0 h.2)

nibbles_drop : (k : ℕ) (w : List ℕ) → nibbles_only w ≡ true → nibbles_only (drop k w) ≡ true
nibbles_drop zero w h = h
nibbles_drop (suc k) [] h = refl
nibbles_drop (suc k) (n ∷ w) h = nibbles_drop k w (and_right (leb n 15) (nibbles_only w) h)

pub nibbles_take : (k : ℕ) (w : List ℕ) → nibbles_only w ≡ true → nibbles_only (take k w) ≡ true
nibbles_take zero w h = refl
nibbles_take (suc k) [] h = refl
nibbles_take (suc k) (n ∷ w) h =
    and_both (leb n 15) (nibbles_only (take k w)) (and_left (leb n 15) (nibbles_only w) h) (nibbles_take k w (and_right (leb n 15) (nibbles_only w) h))

-- Marks.

-- of eight nibbles or more
pub begins_starts : (u : List ℕ) → 8 ≤ length u → begins_mark u ≡ starts_with eqb u (15 ∷ 15 ∷ 15 ∷ 15 ∷ 0 ∷ 0 ∷ [])
unfolding code_at
begins_starts [] h = absurd (omega arith)
begins_starts (n₀ ∷ []) h = absurd (omega arith)
begins_starts (n₀ ∷ n₁ ∷ []) h = absurd (omega arith)
begins_starts (n₀ ∷ n₁ ∷ n₂ ∷ []) h = absurd (omega arith)
begins_starts (n₀ ∷ n₁ ∷ n₂ ∷ n₃ ∷ []) h = absurd (omega arith)
begins_starts (n₀ ∷ n₁ ∷ n₂ ∷ n₃ ∷ n₄ ∷ []) h = absurd (omega arith)
begins_starts (n₀ ∷ n₁ ∷ n₂ ∷ n₃ ∷ n₄ ∷ n₅ ∷ []) h = absurd (omega arith)
begins_starts (n₀ ∷ n₁ ∷ n₂ ∷ n₃ ∷ n₄ ∷ n₅ ∷ x ∷ []) h = absurd (omega arith)
begins_starts (n₀ ∷ n₁ ∷ n₂ ∷ n₃ ∷ n₄ ∷ n₅ ∷ x ∷ y ∷ w) h =
    six (eqb 15 n₀) (eqb 15 n₁) (eqb 15 n₂) (eqb 15 n₃) (eqb 0 n₄) (eqb 0 n₅)
  where
    six : (b₀ b₁ b₂ b₃ b₄ b₅ : Bool)
        → is_code (code_after (cond b₀ (cond b₁ (cond b₂ (cond b₃ (cond b₄ (cond b₅ (some (x ∷ y ∷ w)) none) none) none) none) none) none))
        ≡ (b₀ && (b₁ && (b₂ && (b₃ && (b₄ && (b₅ && true))))))
    six false b₁ b₂ b₃ b₄ b₅ = refl
    six true false b₂ b₃ b₄ b₅ = refl
    six true true false b₃ b₄ b₅ = refl
    six true true true false b₄ b₅ = refl
    six true true true true false b₅ = refl
    six true true true true true false = refl
    six true true true true true true = refl

-- whose first is another than F
pub begins_first : (u : List ℕ) → (get_or u 0 0 ≡ 15 → ⊥) → begins_mark u ≡ false
unfolding code_at
begins_first [] h = refl
begins_first (n ∷ u) h = rw (ne_eqb 15 n (λ e. h (sym e))) refl

-- the code of a mark
pub code_there : (u : List ℕ) → begins_mark u ≡ true → code_at u ≡ Some (pair_at u 6)
unfolding code_at
code_there u h =
    let g = begun u h in
    ap code_at g.is ∙ ap (λ (l : List ℕ). Some (pair_at l 6)) (sym g.is)

pub code_absent : (u : List ℕ) → begins_mark u ≡ false → code_at u ≡ None
code_absent u h = go (code_at u) refl h
  where
    go : (c : Option ℕ) → code_at u ≡ c → is_code c ≡ false → c ≡ None
    go None e k = refl
    go (Some c) e k = absurd (true≢false k)

pub next_step : (w : List ℕ) (i : ℕ) → i < length w → next_mark (drop i w) ≡ cond (begins_mark (drop i w)) 0 (suc (next_mark (drop (i + 1) w)))
next_step w i h = rw (add-one, drop-cons w i 0)

pub next_end : (w : List ℕ) (i : ℕ) → length w ≤ i → next_mark (drop i w) ≡ 0
next_end w i h = rw (drop_of_length-le w)

-- Parts of a slice.

-- from a place to the end
pub part_rest : (w : List ℕ) (i : ℕ) → take (length w - i) (drop i w) ≡ drop i w
part_rest w i = ap (λ (n : ℕ). take n (drop i w)) (sym (length-drop i w)) ∙ take-length (drop i w)

pub nibbles_rest : (w : List ℕ) (i : ℕ) → nibbles_only w ≡ true → nibbles_only (take (length w - i) (drop i w)) ≡ true
nibbles_rest w i h = ap nibbles_only (part_rest w i) ∙ nibbles_drop i w h

-- from two on, or from the end of a shorter one
pub drop_two : (w : List ℕ) (r : ℕ) → r ≤ 2 → (r < 2 → r ≡ length w) → drop r w ≡ drop 2 w
drop_two w r h f = go (ltb r 2) refl
  where
    go : (b : Bool) → ltb r 2 ≡ b → drop r w ≡ drop 2 w
    go true e =
        let l = ltb-true r 2 e in
        let q = f l in
        let x : length w ≤ r = omega arith in
        let y : length w ≤ 2 = omega arith in
        drop_of_length-le w {i = r} x ∙ sym (drop_of_length-le w {i = 2} y)
    go false e =
        let l = ltb-false r 2 e in
        let q : r ≡ 2 = omega arith in
        ap (λ (n : ℕ). drop n w) q

-- Lines.

pub line_long : (p : Profile) (k : Kind) (t : List ℕ) (c : ℕ) → length t ≡ line_nibbles p → line_reason p k t (Some c) ≡ line_from_number p k t c
unfolding line_reason
line_long p k t c h = ap (λ (b : Bool). cond b (line_from_number p k t c) (WrongLength (length t) (line_nibbles p))) (eq-eqb (length t) (line_nibbles p) h)

pub line_wrong : (p : Profile) (k : Kind) (t : List ℕ) (c : ℕ) → (length t ≡ line_nibbles p → ⊥) → line_reason p k t (Some c) ≡ WrongLength (length t) (line_nibbles p)
unfolding line_reason
line_wrong p k t c h = ap (λ (b : Bool). cond b (line_from_number p k t c) (WrongLength (length t) (line_nibbles p))) (ne_eqb (length t) (line_nibbles p) h)

module _ (a b : ℕ) (r : Reason) where
  pub numbers_good : number_good a ≡ true → number_good b ≡ true → number_reason a b r ≡ r
  unfolding number_reason
  numbers_good x y = ap₂ (λ (u v : Bool). cond u (cond v r (BadNumber 1 b)) (BadNumber 0 a)) x y

  pub second_bad : number_good a ≡ true → number_good b ≡ false → number_reason a b r ≡ BadNumber 1 b
  unfolding number_reason
  second_bad x y = ap₂ (λ (u v : Bool). cond u (cond v r (BadNumber 1 b)) (BadNumber 0 a)) x y

  pub first_bad : number_good a ≡ false → number_reason a b r ≡ BadNumber 0 a
  unfolding number_reason
  first_bad x = ap (λ (u : Bool). cond u (cond (number_good b) r (BadNumber 1 b)) (BadNumber 0 a)) x

-- a turn of the loop over the body
module _ (p : Profile) (k : Kind) (t : List ℕ) (r : Reason) (i : ℕ) (long : length t ≡ line_nibbles p) (l : i < body_length p)
    (byte : ℕ) (is_byte_lem : byte ≡ pair_at t (6 + 2 * i)) (rule : Rule) (is_rule : rule ≡ get_or (rules p k) i Filler) where
  turn : body_reason (drop i (rules p k)) (drop i (bytes_in (drop 6 t))) i r
      ≡ cond (allows rule byte) (body_reason (drop (i + 1) (rules p k)) (drop (i + 1) (bytes_in (drop 6 t))) (i + 1) r) (BadBody i byte)
  turn =
      body_step (rules p k) bs i r (omega (arith, rules_length p k)) (omega (arith, same))
      ∙ ap₂ (λ (b : Bool) (x : ℕ). cond b (body_reason (drop (i + 1) (rules p k)) (drop (i + 1) bs) (i + 1) r) (BadBody i x))
      (ap₂ allows (sym is_rule) here) here
    where
      bs : List ℕ
      bs = bytes_in (drop 6 t)

      same : length bs ≡ body_length p
      same = bytes_length (drop 6 t) (body_length p) (length-drop 6 t ∙ omega arith)

      here : get_or bs i 0 ≡ byte
      here = bytes_body t i (subst (λ (m : ℕ). i < m) (sym same) l) ∙ sym is_byte_lem

      body_step : (qs : List Rule) (bs : List ℕ) (i : ℕ) (r : Reason) → i < length qs → i < length bs
          → body_reason (drop i qs) (drop i bs) i r
          ≡ cond (allows (get_or qs i Filler) (get_or bs i 0)) (body_reason (drop (i + 1) qs) (drop (i + 1) bs) (i + 1) r) (BadBody i (get_or bs i 0))
      body_step qs bs i r h g = rw (add-one, drop-cons bs i 0, drop-cons qs i Filler)

  pub body_goes_on : allows rule byte ≡ true
      → body_reason (drop i (rules p k)) (drop i (bytes_in (drop 6 t))) i r ≡ body_reason (drop (i + 1) (rules p k)) (drop (i + 1) (bytes_in (drop 6 t))) (i + 1) r
  body_goes_on e =
      turn ∙ ap (λ (b : Bool). cond b (body_reason (drop (i + 1) (rules p k)) (drop (i + 1) (bytes_in (drop 6 t))) (i + 1) r) (BadBody i byte)) e

  pub body_stops : allows rule byte ≡ false → body_reason (drop i (rules p k)) (drop i (bytes_in (drop 6 t))) i r ≡ BadBody i byte
  body_stops e =
      turn ∙ ap (λ (b : Bool). cond b (body_reason (drop (i + 1) (rules p k)) (drop (i + 1) (bytes_in (drop 6 t))) (i + 1) r) (BadBody i byte)) e

pub body_end : (qs : List Rule) (bs : List ℕ) (i : ℕ) (r : Reason) → length qs ≤ i → body_reason (drop i qs) (drop i bs) i r ≡ r
body_end qs bs i r h = rw (drop_of_length-le qs)

-- Gaps.

pub stray_step : (w : List ℕ) (i : ℕ) → i < length w
    → stray_reason (drop i w) i ≡ cond (eqb (get_or w i 0) 15) (stray_reason (drop (i + 1) w) (i + 1)) (BadGap i (get_or w i 0))
stray_step w i h = rw (add-one, drop-cons w i 0)

pub stray_end : (w : List ℕ) (i : ℕ) → length w ≤ i → stray_reason (drop i w) i ≡ GoodGap
stray_end w i h = rw (drop_of_length-le w)

module _ (k : Kind) (g : List ℕ) where
  abbrev two_bytes : Bool → Bool → Bool → Reason
  two_bytes x y z = cond x (cond y (cond z (stray_reason (drop 4 g) 4) (BadGap 2 (get_or g 2 0))) (BadGap 0 (get_or g 0 0))) (ShortGap (length g))

  pub gap_short : length g < 4 → two_bytes_reason k g ≡ ShortGap (length g)
  unfolding two_bytes_reason
  gap_short h = ap (λ (x : Bool). two_bytes x (allows (gap_rule k) (pair_at g 0)) (allows (gap_rule k) (pair_at g 2))) (lt-leb 4 (length g) h)

  module _ (h : 4 ≤ length g) where
    by_two : two_bytes_reason k g ≡ two_bytes true (allows (gap_rule k) (pair_at g 0)) (allows (gap_rule k) (pair_at g 2))
    unfolding two_bytes_reason
    by_two = ap (λ (x : Bool). two_bytes x (allows (gap_rule k) (pair_at g 0)) (allows (gap_rule k) (pair_at g 2))) (le-leb 4 (length g) h)

    pub two_good : allows (gap_rule k) (pair_at g 0) ≡ true → allows (gap_rule k) (pair_at g 2) ≡ true → two_bytes_reason k g ≡ stray_reason (drop 4 g) 4
    two_good x y = by_two ∙ ap₂ (λ (u v : Bool). two_bytes true u v) x y

    pub two_second : allows (gap_rule k) (pair_at g 0) ≡ true → allows (gap_rule k) (pair_at g 2) ≡ false → two_bytes_reason k g ≡ BadGap 2 (get_or g 2 0)
    two_second x y = by_two ∙ ap₂ (λ (u v : Bool). two_bytes true u v) x y

    pub two_first : allows (gap_rule k) (pair_at g 0) ≡ false → two_bytes_reason k g ≡ BadGap 0 (get_or g 0 0)
    two_first x = by_two ∙ ap (λ (u : Bool). two_bytes true u (allows (gap_rule k) (pair_at g 2))) x

-- Runs.

pub first_of : (p : Profile) (before : Option Kind) (w : List ℕ) (c n : ℕ) (next : Option ℕ) → c ≡ pair_at w 0 → n ≡ next_mark w → next ≡ code_at (drop n w)
    → reason_of p before c (take n w) next ≡ first_reason p before w
unfolding first_reason
first_of p before w c n next x y z =
    ap₂ (λ (a : ℕ) (e : Option ℕ). reason_of p before a (take n w) e) x z
    ∙ ap (λ (m : ℕ). reason_of p before (pair_at w 0) (take m w) (code_at (drop m w))) y

module _ (p : Profile) (k : ℕ) (w : List ℕ) where
  abbrev by : Bool → Bool → Bool → Reason
  by x y z = cond x (cond y (cond z (first_reason p (kind_numbered k) (after_opener w)) (Refused (record { 0 = no_mark_first }))) (Refused (record { 0 = not_a_nibble }))) (Refused (record { 0 = bad_kind }))

  pub run_13 : last_kind < k → run_reason p k w ≡ Refused (record { 0 = bad_kind })
  unfolding run_reason
  run_13 h = ap (λ (x : Bool). by x (nibbles_only w) (begins_mark w)) (lt-leb k last_kind h)

  module _ (h : k ≤ last_kind) where
    by_kind : run_reason p k w ≡ by true (nibbles_only w) (begins_mark w)
    unfolding run_reason
    by_kind = ap (λ (x : Bool). by x (nibbles_only w) (begins_mark w)) (le-leb k last_kind h)

    pub run_10 : nibbles_only w ≡ false → run_reason p k w ≡ Refused (record { 0 = not_a_nibble })
    run_10 y = by_kind ∙ ap (λ (u : Bool). by true u (begins_mark w)) y

    pub run_36 : nibbles_only w ≡ true → begins_mark w ≡ false → run_reason p k w ≡ Refused (record { 0 = no_mark_first })
    run_36 y z = by_kind ∙ ap₂ (λ (u v : Bool). by true u v) y z

    pub run_first : nibbles_only w ≡ true → begins_mark w ≡ true → run_reason p k w ≡ first_reason p (kind_numbered k) (after_opener w)
    run_first y z = by_kind ∙ ap₂ (λ (u v : Bool). by true u v) y z
