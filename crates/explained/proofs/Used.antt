-- What answers look at, of what is kept of a text: two readers that keep the same there answer alike, whatever else they keep.
use Rattle.std.specs.Prelude.{◌≡◌, refl, Bool, true, false, ◌&&◌, not, cond, List, ℕ, zero, suc, ◌+◌, ◌*◌, ◌-◌, ◌/◌, ◌%◌, ◌≤◌, ◌<◌, min, eqb, leb, ltb, length, take, get_or}
use Rattle.std.proofs.Common.{◌∙◌, ap, ap₂, sym, true≢false, not-suc-le-zero, arith, length-take, get_or-set_same, get_or-set_other, get_or-take, ext_get_or, eq-eqb, ne_eqb, eqb-true, leb-true}
use Rattle.std.proofs.Math.Option.{Option, none, some}
use Rattle.std.proofs.lemmas.Bool.{eqb-false}
use Rattle.refusal.specs.Refusal.{wrong_length, bad_number, bad_body, no_end_of_line, bad_gap}
use Rattle.line_code.specs.declared.Kind.{Kind}
use Rattle.line_code.specs.declared.Meaning.{Meaning}
use Rattle.line_code.specs.declared.Meaning.TheVariants.{EndOfLine, Line, ReservedEC, ReservedF1}
use Rattle.line_code.specs.declared.Reading.{Reading}
use Rattle.line_code.specs.declared.Reading.TheVariants.{Says, Damaged}
use Rattle.line_code.specs.declared.Repair.{Repair}
use Rattle.line_code.specs.LineCode.{reading_of, end_meant, is_end, repair_of}
use Rattle.line_number.specs.LineNumber.{number_good, number_from}
use Rattle.profile.specs.declared.Profile.{Profile}
use Rattle.profile.specs.declared.Profile.TheVariants.{VV5404, VV5300}
use Rattle.profile.specs.Profile.{body_length, longest, null_byte, gap_start}
use Rattle.profile.specs.Layout.{rules, fits, gap_fits}
use Rattle.stream.specs.declared.Before.{Before}
use Rattle.stream.specs.declared.Before.TheVariants.{NoLine, RefusedLine, HandedOut}
use Rattle.stream.specs.declared.Mark.{Mark}
use Rattle.stream.specs.declared.Mark.TheVariants.{NoMark, Open}
use Rattle.stream.specs.Answers.{facts, Outcome, line, good_gap, require}
use Rattle.stream.specs.TextLaws.{refuses}
use Rattle.mark_text.specs.MarkText.{body_place, stray_at, kept_at, body_at}
use Rattle.gap_answer.specs.KeptGap.{kept_gap}
use Rattle.line_answer.specs.KeptLine.{kept_line}
use Rattle.mark_answer.specs.KeptAnswer.{kept_by_meaning, kept_by_reading, kept_answer}
use Rattle.profile.specs.LayoutLaws.{body_small}
use Rattle.refinement.specs.Stored.{byte_high, byte_low, byte_keep, body_high, body_low, wrong_length_lem}
use Rattle.reader_laws.specs.Bodies.{body_by, length_body}
use Rattle.explained.specs.Explained.{Store}

-- What is kept of a text, as one.

-- the nibble v of number k is kept
abbrev pub commit : Profile → ℕ → ℕ → Store → Store
commit p k v s = record { kept = kept_at p k v s.kept; body = body_at k v s.body }

-- the bytes of a text by their number: 0 is the code, which is not kept
abbrev pub byte_numbered : Store → ℕ → ℕ
byte_numbered s zero = 0
byte_numbered s (suc zero) = s.kept.first
byte_numbered s (suc (suc zero)) = s.kept.second
byte_numbered s (suc (suc (suc j))) = get_or s.body j 0

-- the nibble of number i
unfoldable pub nibble_of : Store → ℕ → ℕ
nibble_of s i = cond (eqb (i % 2) 0) (byte_numbered s (i / 2) / 16) (byte_numbered s (i / 2) % 16)

nibble_high : (s : Store) (i j : ℕ) → i ≡ 2 * j → nibble_of s i ≡ byte_numbered s j / 16
unfolding nibble_of
nibble_high s i j e =
    let q : i / 2 ≡ j = omega arith in
    ap (λ b. cond b (byte_numbered s (i / 2) / 16) (byte_numbered s (i / 2) % 16)) (eq-eqb (i % 2) 0 (omega arith))
    ∙ ap (λ (x : ℕ). byte_numbered s x / 16) q

nibble_low : (s : Store) (i j : ℕ) → i ≡ 2 * j + 1 → nibble_of s i ≡ byte_numbered s j % 16
unfolding nibble_of
nibble_low s i j e =
    let q : i / 2 ≡ j = omega arith in
    ap (λ b. cond b (byte_numbered s (i / 2) / 16) (byte_numbered s (i / 2) % 16)) (ne_eqb (i % 2) 0 (λ z. omega arith))
    ∙ ap (λ (x : ℕ). byte_numbered s x % 16) q

-- a nibble is the high or the low one of a byte
data Half (i : ℕ) : Type 0 where
  high_of : (j : ℕ) → i ≡ 2 * j → Half i
  low_of : (j : ℕ) → i ≡ 2 * j + 1 → Half i

half : (i : ℕ) → Half i
half i = go (eqb (i % 2) 0) refl
  where
    go : (b : Bool) → eqb (i % 2) 0 ≡ b → Half i
    go true e = high_of (i / 2) (let z = eqb-true (i % 2) 0 e in omega arith)
    go false e = low_of (i / 2) (let z = eqb-false (i % 2) 0 e in omega arith)

-- One nibble kept.

-- where the longest line's text ends
abbrev pub line_end : ℕ
line_end = 2 * longest + body_place

body_other : (x y : Bool) (i k v : ℕ) (b : List ℕ) → (i ≡ k → ⊥) → get_or (body_by x y k v b) i 0 ≡ get_or b i 0
body_other false y i k v b h = refl
body_other true true i k v b h = get_or-set_other b k i (16 * v) 0 h
body_other true false i k v b h = get_or-set_other b k i (get_or b k 0 / 16 * 16 + v) 0 h

-- a byte that is whole already
commit_later : (p : Profile) (k v : ℕ) (s : Store) (j : ℕ) → 1 ≤ j → 2 * j + 2 ≤ k → byte_numbered (commit p k v s) j ≡ byte_numbered s j
unfolding kept_at body_at
commit_later p k v s zero a h = absurd (not-suc-le-zero a)
commit_later p k v s (suc zero) a h = byte_keep 2 k v s.kept.first (λ e. omega arith) (λ e. omega arith)
commit_later p k v s (suc (suc zero)) a h = byte_keep 4 k v s.kept.second (λ e. omega arith) (λ e. omega arith)
commit_later p k v s (suc (suc (suc j))) a h =
    body_other (leb body_place k && ltb ((k - body_place) / 2) longest) (eqb (k % 2) 0) j ((k - body_place) / 2) v s.body (λ e. omega arith)

commit_high : (p : Profile) (k v : ℕ) (s : Store) (j : ℕ) → 1 ≤ j → 2 * j < line_end → k ≡ 2 * j → length s.body ≡ longest
    → byte_numbered (commit p k v s) j ≡ 16 * v
unfolding kept_at
commit_high p k v s zero a b e l = absurd (not-suc-le-zero a)
commit_high p k v s (suc zero) a b e l = byte_high 2 k v s.kept.first e
commit_high p k v s (suc (suc zero)) a b e l = byte_high 4 k v s.kept.second e
commit_high p k v s (suc (suc (suc j))) a b e l =
    ap (λ (w : List ℕ). get_or w j 0) (body_high k v s.body j (omega arith) (omega arith))
    ∙ get_or-set_same s.body j (16 * v) 0 (omega arith)

commit_low : (p : Profile) (k v : ℕ) (s : Store) (j : ℕ) → 1 ≤ j → 2 * j < line_end → k ≡ 2 * j + 1 → length s.body ≡ longest
    → byte_numbered (commit p k v s) j ≡ byte_numbered s j / 16 * 16 + v
unfolding kept_at
commit_low p k v s zero a b e l = absurd (not-suc-le-zero a)
commit_low p k v s (suc zero) a b e l = byte_low 2 k v s.kept.first e
commit_low p k v s (suc (suc zero)) a b e l = byte_low 4 k v s.kept.second e
commit_low p k v s (suc (suc (suc j))) a b e l =
    ap (λ (w : List ℕ). get_or w j 0) (body_low k v s.body j (omega arith) (omega arith))
    ∙ get_or-set_same s.body j _ 0 (omega arith)

-- it is there
pub commit_new : (p : Profile) (k v : ℕ) (s : Store) → v < 16 → length s.body ≡ longest → (i : ℕ) → i ≡ k → 2 ≤ i → i < line_end
    → nibble_of (commit p k v s) i ≡ v
commit_new p k v s g l i e a b = go (half i)
  where
    only : (x : ℕ) → x < 16 → 16 * x / 16 ≡ x
    only x h = omega arith

    new : (x y : ℕ) → y < 16 → (x / 16 * 16 + y) % 16 ≡ y
    new x y h = omega arith

    go : Half i → nibble_of (commit p k v s) i ≡ v
    go (high_of j h) =
        nibble_high (commit p k v s) i j h
        ∙ ap (λ (x : ℕ). x / 16) (commit_high p k v s j (omega arith) (omega arith) (omega arith) l)
        ∙ only v g
    go (low_of j h) =
        nibble_low (commit p k v s) i j h
        ∙ ap (λ (x : ℕ). x % 16) (commit_low p k v s j (omega arith) (omega arith) (omega arith) l)
        ∙ new (byte_numbered s j) v g

-- and those before it stay
pub commit_old : (p : Profile) (k v : ℕ) (s : Store) → v < 16 → length s.body ≡ longest → (i : ℕ) → i < k → 2 ≤ i → i < line_end
    → nibble_of (commit p k v s) i ≡ nibble_of s i
commit_old p k v s g l i e a b = go (half i)
  where
    old : (x y : ℕ) → y < 16 → (x / 16 * 16 + y) / 16 ≡ x / 16
    old x y h = omega arith

    by : (j : ℕ) → i ≡ 2 * j → (x : Bool) → eqb k (2 * j + 1) ≡ x → byte_numbered (commit p k v s) j / 16 ≡ byte_numbered s j / 16
    by j h true q =
        ap (λ (x : ℕ). x / 16) (commit_low p k v s j (omega arith) (omega arith) (eqb-true k (2 * j + 1) q) l) ∙ old (byte_numbered s j) v g
    by j h false q = let z = eqb-false k (2 * j + 1) q in ap (λ (x : ℕ). x / 16) (commit_later p k v s j (omega arith) (omega arith))

    go : Half i → nibble_of (commit p k v s) i ≡ nibble_of s i
    go (high_of j h) = nibble_high (commit p k v s) i j h ∙ by j h (eqb k (2 * j + 1)) refl ∙ sym (nibble_high s i j h)
    go (low_of j h) =
        nibble_low (commit p k v s) i j h
        ∙ ap (λ (x : ℕ). x % 16) (commit_later p k v s j (omega arith) (omega arith))
        ∙ sym (nibble_low s i j h)

-- What answers look at.

-- the open mark's code is end of line
abbrev pub ends_line : Mark → Bool
ends_line NoMark = false
ends_line (Open before c) = is_end (reading_of c)

-- a nibble that is kept and used: after an end code (e) only those before the gap's F are
pub record Used (p : Profile) (e : Bool) (i : ℕ) : Type 0 where
  pub from : 2 ≤ i
  pub to : i < line_end
  pub before_gap : e ≡ true → i < gap_start p

-- the first n nibbles are the same in both, where they are used
abbrev pub SameNibbles : Profile → Bool → ℕ → Store → Store → Type 0
SameNibbles p e n s s₂ = (i : ℕ) → i < n → Used p e i → nibble_of s i ≡ nibble_of s₂ i

-- and after an end code, whether a stray nibble is noted
pub record SameUsed (p : Profile) (e : Bool) (n : ℕ) (s s₂ : Store) : Type 0 where
  pub nibbles : SameNibbles p e n s s₂
  pub stray_same : e ≡ true → s.kept.stray ≡ s₂.kept.stray
  pub size : length s.body ≡ longest
  pub size_two : length s₂.body ≡ longest

-- the code is not kept
pub no_nibbles : (p : Profile) (e : Bool) (n : ℕ) (s s₂ : Store) → n ≤ 2 → SameNibbles p e n s s₂
no_nibbles p e n s s₂ h i l u = absurd (let a = u.from in omega arith)

pub used_fewer : {p : Profile} {e : Bool} (n k : ℕ) {s s₂ : Store} → k ≤ n → SameUsed p e n s s₂ → SameUsed p e k s s₂
used_fewer n k h f =
    record { nibbles = λ i l u. f.nibbles i (omega arith) u; stray_same = f.stray_same; size = f.size; size_two = f.size_two }

pub used_commit : (p : Profile) {e : Bool} (k v : ℕ) {s s₂ : Store} → v < 16 → SameUsed p e k s s₂
    → SameUsed p e (suc k) (commit p k v s) (commit p k v s₂)
unfolding kept_at
used_commit p {e} k v {s} {s₂} g f =
    record {
      nibbles = λ i l u. go i l u (eqb i k) refl;
      stray_same = λ q. ap (stray_at p k v) (f.stray_same q);
      size = length_body k v s.body ∙ f.size;
      size_two = length_body k v s₂.body ∙ f.size_two;
    }
  where
    go : (i : ℕ) → i < suc k → Used p e i → (x : Bool) → eqb i k ≡ x → nibble_of (commit p k v s) i ≡ nibble_of (commit p k v s₂) i
    go i l u true q =
        let h = eqb-true i k q in
        commit_new p k v s g f.size i h u.from u.to ∙ sym (commit_new p k v s₂ g f.size_two i h u.from u.to)
    go i l u false q =
        let h = eqb-false i k q in
        let m : i < k = omega arith in
        commit_old p k v s g f.size i m u.from u.to
        ∙ f.nibbles i m u
        ∙ sym (commit_old p k v s₂ g f.size_two i m u.from u.to)

-- The same answer: of a text of len nibbles, of which n are kept.

whole_byte : {p : Profile} {e : Bool} {n : ℕ} {s s₂ : Store} → SameUsed p e n s s₂ → (j : ℕ) → 1 ≤ j → 2 * j < line_end → 2 * j + 1 < n
    → (e ≡ true → 2 * j + 1 < gap_start p) → byte_numbered s j ≡ byte_numbered s₂ j
whole_byte {s = s} {s₂ = s₂} f j a b c d =
    both_halves (byte_numbered s j) (byte_numbered s₂ j)
    (sym (nibble_high s (2 * j) j refl)
    ∙ f.nibbles (2 * j) (omega arith) (record { from = omega arith; to = b; before_gap = λ q. let z = d q in omega arith })
    ∙ nibble_high s₂ (2 * j) j refl)
    (sym (nibble_low s (2 * j + 1) j refl)
    ∙ f.nibbles (2 * j + 1) c (record { from = omega arith; to = omega arith; before_gap = d })
    ∙ nibble_low s₂ (2 * j + 1) j refl)
  where
    both_halves : (x y : ℕ) → x / 16 ≡ y / 16 → x % 16 ≡ y % 16 → x ≡ y
    both_halves x y h l = omega arith

taken_length : (p : Profile) (b : List ℕ) → length b ≡ longest → length (take (body_length p) b) ≡ body_length p
taken_length p b e = length-take (body_length p) b ∙ (let z = body_small p in omega arith)

same_body : (p : Profile) {n : ℕ} {s s₂ : Store} → SameUsed p false n s s₂ → 2 * body_length p + body_place ≤ n
    → take (body_length p) s.body ≡ take (body_length p) s₂.body
same_body p {n} {s} {s₂} f e =
    let b = body_small p in
    let l = taken_length p s.body f.size in
    ext_get_or 0 (take (body_length p) s.body) (take (body_length p) s₂.body) (l ∙ sym (taken_length p s₂.body f.size_two))
    λ i h.
    get_or-take (body_length p) s.body i 0 (omega arith)
    ∙ whole_byte f (suc (suc (suc i))) (omega arith) (omega arith) (omega arith) (λ q. absurd (true≢false (sym q)))
    ∙ sym (get_or-take (body_length p) s₂.body i 0 (omega arith))

line_same : (p : Profile) (k : Kind) (r : Repair) (len n : ℕ) {s s₂ : Store} (next : Reading) → min len line_end ≤ n → SameUsed p false n s s₂
    → kept_line p k r len s.kept s.body next ≡ kept_line p k r len s₂.kept s₂.body next
line_same p k r len n {s} {s₂} next h f = go (eqb len (2 * body_length p + body_place)) refl
  where
    no : {x : ℕ} → false ≡ true → x < gap_start p
    no q = absurd (true≢false (sym q))

    shape : ℕ → ℕ → List ℕ → Outcome
    shape x y w =
        require (eqb len (2 * body_length p + body_place)) wrong_length
        (require (number_good x && number_good y) bad_number
        (require (fits (rules p k) w) bad_body (require (is_end next) no_end_of_line (line (facts k (number_from x y) r (repair_of next)) w))))

    go : (b : Bool) → eqb len (2 * body_length p + body_place) ≡ b
        → kept_line p k r len s.kept s.body next ≡ kept_line p k r len s₂.kept s₂.body next
    go false q =
        let l = eqb-false len (2 * body_length p + body_place) q in
        wrong_length_lem p k r len s.kept s.body next l ∙ sym (wrong_length_lem p k r len s₂.kept s₂.body next l)
    go true q =
        let l = eqb-true len (2 * body_length p + body_place) q in
        let b = body_small p in
        let one : s.kept.first ≡ s₂.kept.first = whole_byte f 1 (omega arith) (omega arith) (omega arith) no in
        let two : s.kept.second ≡ s₂.kept.second = whole_byte f 2 (omega arith) (omega arith) (omega arith) no in
        ap₂ (λ x y. shape x y (take (body_length p) s.body)) one two
        ∙ ap (shape s₂.kept.first s₂.kept.second) (same_body p f (omega arith))

gap_same : (p : Profile) (k : Kind) (m len n : ℕ) {s s₂ : Store} → min len line_end ≤ n → SameUsed p true n s s₂
    → kept_gap p k m len s.kept ≡ kept_gap p k m len s₂.kept
gap_same VV5404 k m len n h f = ap (λ x. require (not x) bad_gap (good_gap m null_byte null_byte)) (f.stray_same refl)
gap_same VV5300 k m len n {s} {s₂} h f = go (leb body_place len) refl
  where
    shape : Bool → Bool → ℕ → ℕ → Outcome
    shape x b y z = require (not x && (b && gap_fits VV5300 k y z)) bad_gap (good_gap m y z)

    short : (x b y : Bool) → b ≡ false → (x && (b && y)) ≡ false
    short x true y q = absurd (true≢false q)
    short true false y q = refl
    short false false y q = refl

    go : (b : Bool) → leb body_place len ≡ b → kept_gap VV5300 k m len s.kept ≡ kept_gap VV5300 k m len s₂.kept
    go false q =
        refuses _ bad_gap _ (short (not s.kept.stray) (leb body_place len) _ q)
        ∙ sym (refuses _ bad_gap _ (short (not s₂.kept.stray) (leb body_place len) _ q))
    go true q =
        let l = leb-true body_place len q in
        let one : s.kept.first ≡ s₂.kept.first = whole_byte f 1 (omega arith) (omega arith) (omega arith) (λ z. omega arith) in
        let two : s.kept.second ≡ s₂.kept.second = whole_byte f 2 (omega arith) (omega arith) (omega arith) (λ z. omega arith) in
        ap₂ (shape s.kept.stray (leb body_place len)) one two
        ∙ ap (λ x. shape x (leb body_place len) s₂.kept.first s₂.kept.second) (f.stray_same refl)

module _ (p : Profile) (before : Before) (len n : ℕ) {s s₂ : Store} (next : Option ℕ) (h : min len line_end ≤ n) where
  meaning_same : (d : Meaning) (r : Repair) → SameUsed p (end_meant d) n s s₂
      → kept_by_meaning p before d r len s.kept s.body next ≡ kept_by_meaning p before d r len s₂.kept s₂.body next
  meaning_same d r f = go before d next f
    where
      go : (before : Before) (d : Meaning) (next : Option ℕ) → SameUsed p (end_meant d) n s s₂
          → kept_by_meaning p before d r len s.kept s.body next ≡ kept_by_meaning p before d r len s₂.kept s₂.body next
      go NoLine EndOfLine next f = refl
      go (RefusedLine k) EndOfLine next f = gap_same p k _ len n h f
      go (HandedOut k) EndOfLine next f = gap_same p k _ len n h f
      go before (Line k) none f = refl
      go before (Line k) (some x) f = line_same p k r len n (reading_of x) h f
      go before ReservedEC next f = refl
      go before ReservedF1 next f = refl

  reading_same : (d : Reading) → SameUsed p (is_end d) n s s₂
      → kept_by_reading p before d len s.kept s.body next ≡ kept_by_reading p before d len s₂.kept s₂.body next
  reading_same (Says d r) f = meaning_same d r f
  reading_same Damaged f = refl

pub answer_same : (p : Profile) (m : Mark) (len n : ℕ) {s s₂ : Store} (next : Option ℕ) → min len line_end ≤ n
    → SameUsed p (ends_line m) n s s₂ → kept_answer p m len s.kept s.body next ≡ kept_answer p m len s₂.kept s₂.body next
unfolding kept_answer
answer_same p NoMark len n next h f = refl
answer_same p (Open before c) len n next h f = reading_same p before len n next h (reading_of c) f
