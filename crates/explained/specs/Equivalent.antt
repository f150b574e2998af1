-- States of the meaning that every later call answers alike: the newest four nibbles of their texts are the same, and below those the
-- texts agree. A later mark's 0 0 lie in the newest four, and its F never lie where the texts differ.
use Rattle.std.specs.Prelude.{◌≡◌, refl, Bool, true, false, cond, List, [], ◌∷◌, ℕ, zero, suc, ◌+◌, ◌*◌, ◌/◌, ◌%◌, ◌≤◌, ◌<◌, eqb, leb, ltb, length, replicate}
use Rattle.std.proofs.Common.{◌∙◌, ap, sym, subst, true≢false, arith, eqb-true, ne_eqb, ltb-true, ltb-false, leb-true}
use Rattle.std.proofs.Math.Option.{Option, none, some}
use Rattle.refusal.specs.Refusal.{not_a_nibble, no_room}
use Rattle.line_code.specs.declared.Kind.{Kind}
use Rattle.line_code.specs.declared.Meaning.{Meaning}
use Rattle.line_code.specs.declared.Meaning.TheVariants.{EndOfLine, Line, ReservedEC, ReservedF1}
use Rattle.line_code.specs.declared.Reading.{Reading}
use Rattle.line_code.specs.declared.Reading.TheVariants.{Says, Damaged}
use Rattle.line_code.specs.declared.Repair.{Repair}
use Rattle.line_code.specs.LineCode.{reading_of, is_end, is_damaged}
use Rattle.line_code.specs.LineCodeLaws.{no_end_f}
use Rattle.profile.specs.declared.Profile.{Profile}
use Rattle.profile.specs.Profile.{body_length}
use Rattle.stream.specs.declared.Before.{Before}
use Rattle.stream.specs.declared.Before.TheVariants.{NoLine, RefusedLine, HandedOut}
use Rattle.stream.specs.declared.Mark.{Mark}
use Rattle.stream.specs.declared.Mark.TheVariants.{NoMark, Open}
use Rattle.stream.specs.Answers.{answer_for, buffer_after, is_line, turned, period_of, gap_from, gap_answer, after_code, line_answer, by_meaning, by_reading, answer_of}
use Rattle.stream.specs.Stream.{State, Step, strip, mark_if, kind_at, before_by, answer_at, advance, step, finish}
use Rattle.stream.specs.Nibbles.{AllNibbles, no_nibble, and_nibble}
use Rattle.recovery.specs.Calls.{Call, feed, done, CallResult, turned_away, fed, meaning_call}
use Rattle.recovery.specs.Resync.{state_with}
use Rattle.reader_laws.specs.Passing.{Byte}
use Rattle.explained.specs.Agree.{Agree, both_end, AgreeOnto, at_base, onto_other, onto_f, onto_free, agree_turned, agree_small, agree_length, as_bytes, line_from_same, gap_same}

-- The code at a text's old end.

-- as how many F a code counts: FF as two (it is damaged, and its text is not looked at), another that ends in F as one
unfoldable pub trailing_f : ℕ → ℕ
trailing_f c = cond (eqb c 255) 2 (cond (eqb (c % 16) 15) 1 0)

damaged_ff : is_damaged (reading_of 255) ≡ true
unfolding reading_of
damaged_ff = refl

one_f : (c : ℕ) → is_damaged (reading_of c) ≡ false → trailing_f c ≤ 1
unfolding trailing_f
one_f c h = go (eqb c 255) (eqb (c % 16) 15) refl
  where
    go : (a b : Bool) → eqb c 255 ≡ a → cond a 2 (cond b 1 0) ≤ 1
    go true b e = absurd (true≢false (sym damaged_ff ∙ ap (λ (x : ℕ). is_damaged (reading_of x)) (sym (eqb-true c 255 e)) ∙ h))
    go false true e = omega arith
    go false false e = omega arith

no_f : (c : ℕ) → is_end (reading_of c) ≡ true → trailing_f c ≡ 0
unfolding trailing_f
no_f c h = go (eqb c 255) (eqb (c % 16) 15) refl refl
  where
    not_f : c % 16 ≡ 15 → ⊥
    not_f e = true≢false (sym h ∙ no_end_f c e)

    go : (a b : Bool) → eqb c 255 ≡ a → eqb (c % 16) 15 ≡ b → ◌≡◌ {A = ℕ} (cond a 2 (cond b 1 0)) 0
    go true b e f = absurd (not_f (let k = eqb-true c 255 e in omega arith))
    go false true e f = absurd (not_f (eqb-true (c % 16) 15 f))
    go false false e f = refl

-- what a mark's text stands on: its code
abbrev pub base_of : Mark → List ℕ
base_of NoMark = []
base_of (Open before c) = c % 16 ∷ c / 16 ∷ []

-- how many F the code of the open mark ends with
abbrev pub trailing_f_at : Mark → ℕ
trailing_f_at NoMark = 0
trailing_f_at (Open before c) = trailing_f c

pub base_small : (m : Mark) → Byte m → AllNibbles (base_of m)
base_small NoMark h = no_nibble
base_small (Open before c) h = and_nibble {n = c % 16} (omega arith) (and_nibble {n = c / 16} (omega arith) no_nibble)

-- Texts that agree have the same answer.

kind_agrees : (p : Profile) (k : Kind) (c : ℕ) {f : ℕ} {t t₂ : List ℕ} → trailing_f c ≡ 0
    → AgreeOnto (trailing_f c) (c % 16 ∷ c / 16 ∷ []) f t t₂ → (n : ℕ) → gap_from p k n (after_code (turned t [])) ≡ gap_from p k n (after_code (turned t₂ []))
kind_agrees p k c {f} {t} {t₂} h m n =
    let q = agree_turned m (both_end f) in
    ap (λ (w : List ℕ). gap_from p k n (after_code w)) q.is_one
    ∙ gap_same p k n (subst (λ (n : ℕ). Agree n q.one q.two) h q.tails)
    ∙ ap (λ (w : List ℕ). gap_from p k n (after_code w)) (sym q.is_two)

gap_agrees : (p : Profile) (before : Before) (c : ℕ) {f : ℕ} {t t₂ : List ℕ} → trailing_f c ≡ 0
    → AgreeOnto (trailing_f c) (c % 16 ∷ c / 16 ∷ []) f t t₂ → (n : ℕ) → gap_answer p before n t ≡ gap_answer p before n t₂
gap_agrees p NoLine c h m n = refl
gap_agrees p (RefusedLine k) c h m n = kind_agrees p k c h m n
gap_agrees p (HandedOut k) c h m n = kind_agrees p k c h m n

line_agrees : (p : Profile) (k : Kind) (r : Repair) (c : ℕ) {f : ℕ} {t t₂ : List ℕ} (next : Option ℕ) → c < 256 → trailing_f c ≤ 1
    → AgreeOnto (trailing_f c) (c % 16 ∷ c / 16 ∷ []) f t t₂ → line_answer p k r t next ≡ line_answer p k r t₂ next
line_agrees p k r c none g h m = refl
line_agrees p k r c {f} {t} {t₂} (some n) g h m =
    let s = agree_small (base_small (Open NoLine c) g) m in
    line_from_same p k r (reading_of n) t t₂ h (agree_turned m (both_end f)) (as_bytes t t₂ s.0 s.1 (agree_length m) [] [] refl)

module _ (p : Profile) (before : Before) (c : ℕ) {f : ℕ} {t t₂ : List ℕ} (next : Option ℕ) (g : c < 256)
    (m : AgreeOnto (trailing_f c) (c % 16 ∷ c / 16 ∷ []) f t t₂) where
  meaning_agrees : (d : Meaning) (r : Repair) → is_damaged (reading_of c) ≡ false → (d ≡ EndOfLine → is_end (reading_of c) ≡ true)
      → by_meaning p before d r t next ≡ by_meaning p before d r t₂ next
  meaning_agrees EndOfLine r h k =
      gap_agrees p before c (no_f c (k refl)) m (period_of p before (length t) next)
      ∙ ap (λ (n : ℕ). gap_answer p before (period_of p before n next) t₂) (agree_length m)
  meaning_agrees (Line j) r h k = line_agrees p j r c next g (one_f c h) m
  meaning_agrees ReservedEC r h k = refl
  meaning_agrees ReservedF1 r h k = refl

  reading_agrees : (d : Reading) → reading_of c ≡ d → by_reading p before d t next ≡ by_reading p before d t₂ next
  reading_agrees (Says d r) e = meaning_agrees d r (ap is_damaged e) (λ k. ap is_end (e ∙ ap (λ x. Says x r) k))
  reading_agrees Damaged e = refl

answer_agrees : (p : Profile) (m : Mark) {f : ℕ} {t t₂ : List ℕ} (next : Option ℕ) → Byte m → AgreeOnto (trailing_f_at m) (base_of m) f t t₂
    → answer_at p m t next ≡ answer_at p m t₂ next
unfolding answer_of
answer_agrees p NoMark next g q = refl
answer_agrees p (Open before c) next g q = reading_agrees p before c next g q (reading_of c) refl

-- Later marks.

-- the newest k nibbles are the same, and below them the texts agree
pub data AgreeBelow (z : ℕ) (base : List ℕ) : ℕ → List ℕ → List ℕ → Type 0 where
  below : (f : ℕ) {t t₂ : List ℕ} → AgreeOnto z base f t t₂ → AgreeBelow z base 0 t t₂
  above : (n k : ℕ) {t t₂ : List ℕ} → n < 16 → AgreeBelow z base k t t₂ → AgreeBelow z base (suc k) (n ∷ t) (n ∷ t₂)

onto_any : {z f : ℕ} {base t t₂ : List ℕ} (n : ℕ) → n < 16 → AgreeOnto z base f t t₂ → (g : ℕ) × AgreeOnto z base g (n ∷ t) (n ∷ t₂)
onto_any {z} {f} {base} {t} {t₂} n h m = go (ltb n 15) refl
  where
    go : (b : Bool) → ltb n 15 ≡ b → (g : ℕ) × AgreeOnto z base g (n ∷ t) (n ∷ t₂)
    go true e = (0, onto_other n (ltb-true n 15 e) m)
    go false e =
        let l = ltb-false n 15 e in
        let k : 15 ≡ n = omega arith in
        (suc f, subst (λ (x : ℕ). AgreeOnto z base (suc f) (x ∷ t) (x ∷ t₂)) k (onto_f m))

one_less : {z : ℕ} {base : List ℕ} {k : ℕ} {t t₂ : List ℕ} → AgreeBelow z base (suc k) t t₂ → AgreeBelow z base k t t₂
one_less (above n k h (below f m)) = let q = onto_any n h m in below q.0 q.1
one_less (above n k h (above n₂ k₂ h₂ u)) = above n k₂ h (one_less (above n₂ k₂ h₂ u))

all_agree : {z : ℕ} {base : List ℕ} {k : ℕ} {t t₂ : List ℕ} → AgreeBelow z base k t t₂ → (g : ℕ) × AgreeOnto z base g t t₂
all_agree (below f m) = (f, m)
all_agree (above n k h u) = let q = all_agree u in onto_any n h q.1

-- what stands before a pattern in both texts: the same, or texts that agree
pub data Rests (z : ℕ) (base : List ℕ) : Option (List ℕ) → Option (List ℕ) → Type 0 where
  one_rest : (o : Option (List ℕ)) → Rests z base o o
  two_rests : (f : ℕ) {r r₂ : List ℕ} → AgreeOnto z base f r r₂ → Rests z base (some r) (some r₂)

pub rests_if : {z : ℕ} {base : List ℕ} {o o₂ : Option (List ℕ)} (b : Bool) → Rests z base o o₂
    → Rests z base (cond b o none) (cond b o₂ none)
rests_if true r = r
rests_if false r = one_rest none

rests_other : {z : ℕ} {base : List ℕ} (a b : ℕ) (o o₂ : Option (List ℕ)) → a < 15 → b < 15
    → Rests z base (cond (eqb 15 a) o none) (cond (eqb 15 b) o₂ none)
rests_other {z} {base} a b o o₂ ha hb =
    subst (λ (x : Bool). Rests z base (cond x o none) (cond (eqb 15 b) o₂ none)) (sym (ne_eqb 15 a (λ e. omega arith)))
    (subst (λ (x : Bool). Rests z base none (cond x o₂ none)) (sym (ne_eqb 15 b (λ e. omega arith))) (one_rest none))

pub rests_f : {z f : ℕ} {base t t₂ : List ℕ} (k : ℕ) → AgreeOnto z base f t t₂
    → Rests z base (strip (replicate k 15) t) (strip (replicate k 15) t₂)
rests_f {f = f} zero m = two_rests f m
rests_f {base = base} (suc k) at_base = one_rest (strip (replicate (suc k) 15) base)
rests_f (suc k) (onto_other n h m) = rests_if (eqb 15 n) (rests_f k m)
rests_f (suc k) (onto_f m) = rests_f k m
rests_f (suc k) (onto_free f a b g ha hb m) = rests_other a b _ _ ha hb

-- Equivalent states.

-- two states of the meaning that no later nibble tells apart
pub data Equivalent : State → State → Type 0 where
  the_same : (s : State) → Equivalent s s
  texts_agree : (m : Mark) (t t₂ : List ℕ) → Byte m → AgreeBelow (trailing_f_at m) (base_of m) 4 t t₂
      → Equivalent (state_with m t) (state_with m t₂)

record SameStep (f g : Step) : Type 0 where
  state : Equivalent f.state g.state
  outcome : f.outcome ≡ g.outcome

same_step : (p : Profile) (s s₂ : State) (n : ℕ) → n < 16 → Equivalent s s₂ → SameStep (step p s n) (step p s₂ n)
same_step p s s₂ n h (the_same s₃) = record { state = the_same _; outcome = refl }
same_step p s s₂ n h (texts_agree m t t₂ g (above x k₁ hx (above a k₂ ha (above b k₃ hb (above c k₄ {t = u} {t₂ = u₂} hc (below f q)))))) =
    go (rests_if (eqb 0 a) (rests_if (eqb 0 b) (rests_if (eqb 15 c) (rests_f 3 q))))
  where
    opened : Before → State
    opened before = state_with (Open before (16 * x + n)) (n ∷ x ∷ [])

    go : {o o₂ : Option (List ℕ)} → Rests (trailing_f_at m) (base_of m) o o₂
        → SameStep (advance p m (n ∷ x ∷ a ∷ b ∷ c ∷ u) (mark_if x n o)) (advance p m (n ∷ x ∷ a ∷ b ∷ c ∷ u₂) (mark_if x n o₂))
    go (one_rest none) =
        record {
          state =
              texts_agree m (n ∷ x ∷ a ∷ b ∷ c ∷ u) (n ∷ x ∷ a ∷ b ∷ c ∷ u₂) g
              (one_less (above n 4 h (above x 3 hx (above a 2 ha (above b 1 hb (above c 0 hc (below f q)))))));
          outcome = refl;
        }
    go (one_rest (some r)) = record { state = the_same _; outcome = refl }
    go (two_rests f₂ {r = r} {r₂ = r₂} q₂) =
        let o = answer_agrees p m (some (16 * x + n)) g q₂ in
        record {
          state =
              subst (λ y. Equivalent (opened (before_by (kind_at m) (is_line (answer_at p m r (some (16 * x + n)))))) (opened (before_by (kind_at m) (is_line y)))) o
              (the_same _);
          outcome = o;
        }

same_finish : (p : Profile) (s s₂ : State) → Equivalent s s₂ → SameStep (finish p s) (finish p s₂)
same_finish p s s₂ (the_same s₃) = record { state = the_same _; outcome = refl }
same_finish p s s₂ (texts_agree m t t₂ g u) =
    let q = all_agree u in record { state = the_same _; outcome = answer_agrees p m none g q.1 }

-- two calls give the same, and leave states alike
pub record SameCall (c d : CallResult State) : Type 0 where
  pub state : Equivalent c.reader d.reader
  pub answer : c.answer ≡ d.answer
  pub buffer : c.buffer ≡ d.buffer

-- every call answers equivalent states alike, and leaves them equivalent
pub same_call : (p : Profile) (s s₂ : State) (c : Call) → Equivalent s s₂ → SameCall (meaning_call p s c) (meaning_call p s₂ c)
same_call p s s₂ done a = let q = same_finish p s s₂ a in record { state = q.state; answer = ap answer_for q.outcome; buffer = refl }
same_call p s s₂ (feed n buf) a = go (leb n 15) (leb (body_length p) (length buf)) refl
  where
    result : State → Bool → Bool → CallResult State
    result s b c = cond b (cond c (fed p s n buf) (turned_away s no_room buf)) (turned_away s not_a_nibble buf)

    go : (b c : Bool) → leb n 15 ≡ b → SameCall (result s b c) (result s₂ b c)
    go false c e = record { state = a; answer = refl; buffer = refl }
    go true false e = record { state = a; answer = refl; buffer = refl }
    go true true e =
        let q = same_step p s s₂ n (let k = leb-true n 15 e in omega arith) a in
        record { state = q.state; answer = ap answer_for q.outcome; buffer = ap (λ x. buffer_after x buf) q.outcome }
