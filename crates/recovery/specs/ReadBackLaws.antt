-- Demand 2, read-back: a line as written comes out once, as it was given to the writer, when its end code is complete; then its gap. So does the
-- same line with other code bytes that are read as its kind and as end of line.
use Rattle.std.specs.Prelude.{◌≡◌, refl, Bool, true, false, ◌&&◌, List, [], ◌∷◌, ◌++◌, ℕ, zero, suc, ◌+◌, ◌/◌, ◌%◌, ◌≤◌, ◌<◌, eqb, leb, length, replicate}
use Rattle.std.proofs.Common.{◌∙◌, ap, ap₂, sym, true≢false, append-nil, arith, length-append, leb-true, leb-false, eqb-true, eq-eqb}
use Rattle.std.proofs.Math.Option.{Option, none, some}
use Rattle.std.proofs.lemmas.List.{length-replicate}
use Rattle.std.proofs.lemmas.Bool.{eqb-false}
use Rattle.bits.specs.Every.{and_left, and_right, and_both}
use Rattle.refusal.specs.Refusal.{wrong_length, bad_number, bad_body, no_end_of_line, bad_gap}
use Rattle.line_code.specs.declared.Kind.{Kind}
use Rattle.line_code.specs.declared.Kind.TheVariants.{BL, BK, VL, SOF, EOF}
use Rattle.line_code.specs.declared.Meaning.{Meaning}
use Rattle.line_code.specs.declared.Meaning.TheVariants.{EndOfLine, Line}
use Rattle.line_code.specs.declared.Reading.TheVariants.{Says}
use Rattle.line_code.specs.declared.Repair.{Repair}
use Rattle.line_code.specs.declared.Repair.TheVariants.{Clean}
use Rattle.line_code.specs.LineCode.{reading_of, kind_of, is_end, repair_of, is_damaged}
use Rattle.line_code.specs.LineCodeLaws.{clean_reading, damaged_far}
use Rattle.line_number.specs.LineNumber.{number_byte, number_good, number_from}
use Rattle.profile.specs.declared.Profile.{Profile}
use Rattle.profile.specs.declared.Profile.TheVariants.{VV5404, VV5300}
use Rattle.profile.specs.Profile.{body_length, filler_byte, null_byte}
use Rattle.profile.specs.Layout.{is_pixel, fits, rules, gap_fits, both_are}
use Rattle.stream.specs.declared.Before.{Before}
use Rattle.stream.specs.declared.Before.TheVariants.{HandedOut}
use Rattle.stream.specs.declared.Mark.{Mark}
use Rattle.stream.specs.declared.Mark.TheVariants.{Open}
use Rattle.stream.specs.Answers.{facts, Outcome, line, is_line, require, bytes_onto, line_from, turned, all_f, after_code, good_gap, period_of, gap_from, by_reading, answer_of}
use Rattle.stream.specs.Stream.{State, fresh, before_by, answer_at, step, finish, run, outcomes}
use Rattle.stream.specs.TextLaws.{requires}
use Rattle.stream.specs.Written.{Sent, Writable, nibbles, mark_of, content, tail, written}
use Rattle.stream.specs.NibblesLaws.{nibbles_length}
use Rattle.line_number.specs.LineNumberLaws.{byte_good, byte_value}
use Rattle.profile.specs.LayoutLaws.{rules_length, fits_length, body_small}
use Rattle.recovery.specs.Marks.{onto}
use Rattle.recovery.specs.Resync.{state_with, opened, becomes}
use Rattle.recovery.specs.ResyncLaws.{byte_joined, Opens, resync}
use Rattle.recovery.specs.MarkFree.{Lengthens}
use Rattle.recovery.specs.MarkFreeLaws.{NoGroup, no_group_more, no_mark, strip_wrong, few_no_group, few_empty, few_up, few_pixel, line_text, few_line, no_inner_mark}
use Rattle.recovery.specs.ReadBack.{seven_then, written_with, gap_text, rest_told, ReadsBack}

-- Runs, piece by piece.

pub run_append : (p : Profile) (s : State) (u v : List ℕ) → run p s (u ++ v) ≡ run p (run p s u) v
run_append p s [] v = refl
run_append p s (n ∷ u) v = run_append p (step p s n).state u v

pub outcomes_append : (p : Profile) (s : State) (u v : List ℕ) → outcomes p s (u ++ v) ≡ outcomes p s u ++ outcomes p (run p s u) v
outcomes_append p s [] v = refl
outcomes_append p s (n ∷ u) v = ap {B = List Outcome} (λ l. (step p s n).outcome ∷ l) (outcomes_append p (step p s n).state u v)

-- a mark with the code c after a text t without F F F F 0 0: the mark before is answered with that text
pub record MarkTold (p : Profile) (m : Mark) (t : List ℕ) (c : ℕ) : Type 0 where
  pub state : run p (state_with m t) (mark_of c) ≡ opened (becomes p m t c) c
  pub told : outcomes p (state_with m t) (mark_of c) ≡ seven_then (answer_at p m t (some c))

pub marked : (p : Profile) (m : Mark) (t : List ℕ) (c : ℕ) → NoGroup t → MarkTold p m t c
marked p m t c h =
    let w : List ℕ = 15 ∷ 15 ∷ 0 ∷ 0 ∷ c / 16 ∷ c % 16 ∷ [] in
    let q : Lengthens p m t (15 ∷ 15 ∷ []) = no_mark p m t (15 ∷ 15 ∷ []) (no_group_more refl (no_group_more refl h)) in
    record {
      state = ap (λ (x : State). run p x w) q.state ∙ ap (λ (b : ℕ). state_with (Open (becomes p m t b) b) (c % 16 ∷ c / 16 ∷ [])) (byte_joined c);
      told =
          outcomes_append p (state_with m t) (15 ∷ 15 ∷ []) w
          ∙ ap₂ ◌++◌ q.told (ap (λ (x : State). outcomes p x w) q.state)
          ∙ ap (λ (b : ℕ). seven_then (answer_at p m t (some b))) (byte_joined c);
    }

-- Code bytes.

-- FF, and every number that is no byte
damaged_above : (c : ℕ) → 254 < c → is_damaged (reading_of c) ≡ true
unfolding reading_of
damaged_above c h = go (eqb c 255) refl
  where
    go : (b : Bool) → eqb c 255 ≡ b → is_damaged (reading_of c) ≡ true
    go true e = ap (λ (x : ℕ). is_damaged (reading_of x)) (eqb-true c 255 e)
    go false e = let n = eqb-false c 255 e in ap is_damaged (damaged_far c (omega arith))

-- so a code byte that is read is neither
pub read_small : (c : ℕ) (r : Repair) (m : Meaning) → reading_of c ≡ Says m r → c ≤ 254
read_small c r m h = go (leb c 254) refl
  where
    go : (b : Bool) → leb c 254 ≡ b → c ≤ 254
    go true e = leb-true c 254 e
    go false e = absurd (true≢false (sym (damaged_above c (leb-false c 254 e)) ∙ ap is_damaged h))

-- The line.

bytes_onto_lem : (bs t rest : List ℕ) → bytes_onto (onto t (nibbles bs)) rest ≡ bytes_onto t (bs ++ rest)
bytes_onto_lem [] t rest = refl
bytes_onto_lem (b ∷ bs) t rest = bytes_onto_lem bs (b % 16 ∷ b / 16 ∷ t) rest ∙ ap (λ (c : ℕ). bytes_onto t (c ∷ (bs ++ rest))) (byte_joined b)

line_bytes_lem : (c : ℕ) (s : Sent) → bytes_onto (line_text c s) [] ≡ some (c ∷ number_byte (s.number / 64) ∷ number_byte (s.number % 64) ∷ s.body)
line_bytes_lem c s =
    bytes_onto_lem (c ∷ number_byte (s.number / 64) ∷ number_byte (s.number % 64) ∷ s.body) [] []
    ∙ ap {B = Option (List ℕ)} (λ l. some (c ∷ number_byte (s.number / 64) ∷ number_byte (s.number % 64) ∷ l)) (append-nil s.body)

pub body_long : (p : Profile) (s : Sent) → Writable p s → eqb (length s.body) (body_length p) ≡ true
body_long p s g = eq-eqb (length s.body) (body_length p) (fits_length (rules p s.kind) s.body g.body_fits ∙ rules_length p s.kind)

-- the answer of a line as written, whatever the next mark's code is: the line where that is end of line, else 7
pub line_by_end : (p : Profile) (s : Sent) → Writable p s → (before : Before) (start end : ℕ) (r : Repair) → reading_of start ≡ Says (Line s.kind) r
    → answer_at p (Open before start) (line_text start s) (some end)
    ≡ require (is_end (reading_of end)) no_end_of_line (line (facts s.kind s.number r (repair_of (reading_of end))) s.body)
unfolding answer_of
line_by_end p s g before start end r hs =
    let high : s.number / 64 < 64 = omega (arith, g.number_small) in
    let low : s.number % 64 < 64 = omega arith in
    let number : number_from (number_byte (s.number / 64)) (number_byte (s.number % 64)) ≡ s.number
    = omega (arith, byte_value (s.number / 64) high, byte_value (s.number % 64) low) in
    ap (λ x. by_reading p before x (line_text start s) (some end)) hs
    ∙ ap (λ bs. line_from p s.kind r bs (reading_of end)) (line_bytes_lem start s)
    ∙ requires (eqb (length s.body) (body_length p)) wrong_length _ (body_long p s g)
    ∙ requires (number_good (number_byte (s.number / 64)) && number_good (number_byte (s.number % 64))) bad_number _
    (and_both (number_good (number_byte (s.number / 64))) _ (byte_good (s.number / 64) high) (byte_good (s.number % 64) low))
    ∙ requires (fits (rules p s.kind) s.body) bad_body _ g.body_fits
    ∙ ap (λ n. require (is_end (reading_of end)) no_end_of_line (line (facts s.kind n r (repair_of (reading_of end))) s.body)) number

pub line_answer_lem : (p : Profile) (s : Sent) → Writable p s → (before : Before) (start end : ℕ) (r q : Repair)
    → reading_of start ≡ Says (Line s.kind) r → reading_of end ≡ Says EndOfLine q
    → answer_at p (Open before start) (line_text start s) (some end) ≡ line (facts s.kind s.number r q) s.body
line_answer_lem p s g before start end r q hs he =
    line_by_end p s g before start end r hs
    ∙ ap (λ x. require (is_end x) no_end_of_line (line (facts s.kind s.number r (repair_of x)) s.body)) he
    ∙ requires true no_end_of_line _ refl

-- The gap.

-- a nibble that is not 0 ends no group
not_zero : (n : ℕ) {t : List ℕ} → 0 < n → NoGroup t → NoGroup (n ∷ t)
not_zero n h g = no_group_more (strip_wrong 0 n _ (λ e. omega arith)) g

no_group_null : (b : ℕ) {t : List ℕ} → b ≡ null_byte → NoGroup t → NoGroup (b % 16 ∷ b / 16 ∷ t)
no_group_null b h g = not_zero (b % 16) (omega arith) (not_zero (b / 16) (omega arith) g)

no_group_nulls : (k : ℕ) (t : List ℕ) → NoGroup t → NoGroup (onto t (nibbles (replicate k null_byte)))
no_group_nulls zero t g = g
no_group_nulls (suc k) t g = no_group_nulls k (15 ∷ 15 ∷ t) (no_group_null null_byte refl g)

no_group_pixels : (a b c : ℕ) → a ≤ 254 → b ≤ 254 → c ≤ 254 → NoGroup (b % 16 ∷ b / 16 ∷ a % 16 ∷ a / 16 ∷ c % 16 ∷ c / 16 ∷ [])
no_group_pixels a b c ha hb hc = few_no_group _ (few_up 3 (omega arith) (few_pixel b hb (few_pixel a ha (few_pixel c hc few_empty))))

no_group_fillers : (a b c : ℕ) → both_are filler_byte a b ≡ true → c ≤ 254 → NoGroup (b % 16 ∷ b / 16 ∷ a % 16 ∷ a / 16 ∷ c % 16 ∷ c / 16 ∷ [])
no_group_fillers a b c h hc =
    let ea = eqb-true a filler_byte (and_left (eqb a filler_byte) (eqb b filler_byte) h) in
    let eb = eqb-true b filler_byte (and_right (eqb a filler_byte) (eqb b filler_byte) h) in
    no_group_pixels a b c (omega arith) (omega arith) hc

no_group_two : (p : Profile) (k : Kind) (a b c : ℕ) → gap_fits p k a b ≡ true → c ≤ 254 → NoGroup (b % 16 ∷ b / 16 ∷ a % 16 ∷ a / 16 ∷ c % 16 ∷ c / 16 ∷ [])
no_group_two VV5404 k a b c h hc =
    no_group_null b (eqb-true b null_byte (and_right (eqb a null_byte) (eqb b null_byte) h))
    (no_group_null a (eqb-true a null_byte (and_left (eqb a null_byte) (eqb b null_byte) h))
    (few_no_group _ (few_up 3 (omega arith) (few_pixel c hc few_empty))))
no_group_two VV5300 BL a b c h hc = no_group_fillers a b c h hc
no_group_two VV5300 BK a b c h hc = no_group_fillers a b c h hc
no_group_two VV5300 VL a b c h hc =
    no_group_pixels a b c
    (leb-true a 254 (and_right (leb 1 a) (leb a 254) (and_left (is_pixel a) (is_pixel b) h)))
    (leb-true b 254 (and_right (leb 1 b) (leb b 254) (and_right (is_pixel a) (is_pixel b) h)))
    hc
no_group_two VV5300 SOF a b c h hc = no_group_fillers a b c h hc
no_group_two VV5300 EOF a b c h hc = no_group_fillers a b c h hc

pub no_group_gap : (p : Profile) (s : Sent) → Writable p s → (c : ℕ) → c ≤ 254 → NoGroup (gap_text c s)
no_group_gap p s g c h = no_group_nulls s.nulls _ (no_group_two p s.kind s.gap_one s.gap_two c g.gap_fits h)

pub turned_onto : (t w rest : List ℕ) → turned (onto t w) rest ≡ turned t (w ++ rest)
turned_onto t [] rest = refl
turned_onto t (n ∷ w) rest = turned_onto (n ∷ t) w rest

nulls_f : (k : ℕ) → all_f (nibbles (replicate k null_byte)) ≡ true
nulls_f zero = refl
nulls_f (suc k) = nulls_f k

null_f : (b : ℕ) (bs : List ℕ) → b ≡ null_byte → all_f (nibbles bs) ≡ true → all_f (nibbles (b ∷ bs)) ≡ true
null_f b bs e h = and_both (eqb (b / 16) 15) _ (eq-eqb (b / 16) 15 (omega arith)) (and_both (eqb (b % 16) 15) _ (eq-eqb (b % 16) 15 (omega arith)) h)

gap_from_lem : (p : Profile) (k : Kind) (m a b n : ℕ) → gap_fits p k a b ≡ true → gap_from p k m (nibbles (a ∷ b ∷ replicate n null_byte)) ≡ good_gap m a b
gap_from_lem VV5404 k m a b n h =
    let ea = eqb-true a null_byte (and_left (eqb a null_byte) (eqb b null_byte) h) in
    let eb = eqb-true b null_byte (and_right (eqb a null_byte) (eqb b null_byte) h) in
    let ns : List ℕ = replicate n null_byte in
    requires (all_f (nibbles (a ∷ b ∷ ns))) bad_gap _ (null_f a (b ∷ ns) ea (null_f b ns eb (nulls_f n))) ∙ ap₂ (good_gap m) (sym ea) (sym eb)
gap_from_lem VV5300 k m a b n h =
    ap₂ (λ (x y : ℕ). require (gap_fits VV5300 k x y && all_f (nibbles (replicate n null_byte))) bad_gap (good_gap m x y)) (byte_joined a) (byte_joined b)
    ∙ requires (gap_fits VV5300 k a b && all_f (nibbles (replicate n null_byte))) bad_gap _ (and_both (gap_fits VV5300 k a b) _ h (nulls_f n))

pub gap_answer_lem : (p : Profile) (s : Sent) → Writable p s → (end : ℕ) (q : Repair) → reading_of end ≡ Says EndOfLine q → (next : Option ℕ)
    → answer_at p (Open (HandedOut s.kind) end) (gap_text end s) next
    ≡ good_gap (period_of p (HandedOut s.kind) (length (gap_text end s)) next) s.gap_one s.gap_two
unfolding answer_of
gap_answer_lem p s g end q he next =
    let n = period_of p (HandedOut s.kind) (length (gap_text end s)) next in
    ap (λ x. by_reading p (HandedOut s.kind) x (gap_text end s) next) he
    ∙ ap (λ w. gap_from p s.kind n (after_code w)) (turned_onto (end % 16 ∷ end / 16 ∷ []) (tail s) [])
    ∙ ap (λ w. gap_from p s.kind n w) (append-nil (tail s))
    ∙ gap_from_lem p s.kind n s.gap_one s.gap_two s.nulls g.gap_fits

-- the period of a line as written is its length (A7)

pub length_onto : (t w : List ℕ) → length (onto t w) ≡ length t + length w
length_onto t [] = omega arith
length_onto t (n ∷ w) = length_onto (n ∷ t) w ∙ (let e : suc (length t) + length w ≡ length t + suc (length w) = omega arith in e)

pub written_length : (p : Profile) (s : Sent) → Writable p s → (start end code : ℕ)
    → period_of p (HandedOut s.kind) (length (gap_text end s)) (some code) ≡ length (written_with start end s)
unfolding period_of
written_length p s g start end code =
    omega (
      arith,
      length_onto (end % 16 ∷ end / 16 ∷ []) (tail s),
      length-append (content s) (mark_of end ++ tail s),
      nibbles_length (number_byte (s.number / 64) ∷ number_byte (s.number % 64) ∷ s.body),
      nibbles_length (s.gap_one ∷ s.gap_two ∷ replicate s.nulls null_byte),
      length-replicate {A = ℕ} s.nulls null_byte,
      g.nulls_few,
      eqb-true (length s.body) (body_length p) (body_long p s g),
      body_small p,
    )

-- Both, from any state.

-- a written line, with these two codes, is answered and leaves the state behind it
pub record ComesBack (p : Profile) (s : Sent) (start end : ℕ) (r q : Repair) (x : State) : Type 0 where
  -- no line comes out of the start mark
  pub opens : Opens p x (mark_of start) start
  pub told : outcomes p x (written_with start end s) ≡ outcomes p x (mark_of start) ++ rest_told s r q
  pub state : run p x (written_with start end s) ≡ state_with (Open (HandedOut s.kind) end) (gap_text end s)

pub comes_back : (p : Profile) (s : Sent) → Writable p s → (start end : ℕ) (r q : Repair)
    → reading_of start ≡ Says (Line s.kind) r → reading_of end ≡ Says EndOfLine q → (x : State) → ComesBack p s start end r q x
comes_back p s g start end r q hs he x =
    let open₁ : Opens p x (mark_of start) start = resync p x start (ap is_end hs) in
    let m = Open open₁.before start in
    let e = Open (HandedOut s.kind) end in
    let start_small = read_small start r (Line s.kind) hs in
    let end_small = read_small end q EndOfLine he in
    let one : Lengthens p m (start % 16 ∷ start / 16 ∷ []) (content s) = no_inner_mark p s g m start start_small in
    let two : MarkTold p m (line_text start s) end = marked p m (line_text start s) end (few_no_group (line_text start s) (few_line p s g start start_small)) in
    let three : Lengthens p e (end % 16 ∷ end / 16 ∷ []) (tail s) = no_mark p e (end % 16 ∷ end / 16 ∷ []) (tail s) (no_group_gap p s g end end_small) in
    let open₂ : run p (state_with m (line_text start s)) (mark_of end) ≡ opened (HandedOut s.kind) end
    = two.state ∙ ap₂ (λ k o. opened (before_by k (is_line o)) end) (ap kind_of hs) (line_answer_lem p s g open₁.before start end r q hs he) in
    record {
      opens = open₁;
      told =
          outcomes_append p x (mark_of start) (content s ++ (mark_of end ++ tail s))
          ∙ ap (λ (l : List Outcome). outcomes p x (mark_of start) ++ l)
          (ap (λ (y : State). outcomes p y (content s ++ (mark_of end ++ tail s))) open₁.state
          ∙ outcomes_append p (opened open₁.before start) (content s) (mark_of end ++ tail s)
          ∙ ap₂ ◌++◌ one.told
          (ap (λ (y : State). outcomes p y (mark_of end ++ tail s)) one.state
          ∙ outcomes_append p (state_with m (line_text start s)) (mark_of end) (tail s)
          ∙ ap₂ ◌++◌ (two.told ∙ ap seven_then (line_answer_lem p s g open₁.before start end r q hs he)) (ap (λ (y : State). outcomes p y (tail s)) open₂ ∙ three.told)));
      state =
          run_append p x (mark_of start) (content s ++ (mark_of end ++ tail s))
          ∙ ap (λ (y : State). run p y (content s ++ (mark_of end ++ tail s))) open₁.state
          ∙ run_append p (opened open₁.before start) (content s) (mark_of end ++ tail s)
          ∙ ap (λ (y : State). run p y (mark_of end ++ tail s)) one.state
          ∙ run_append p (state_with m (line_text start s)) (mark_of end) (tail s)
          ∙ ap (λ (y : State). run p y (tail s)) open₂
          ∙ three.state;
    }

-- up to its end code a line as written leads, from any state, to its end mark open after a line handed out
pub line_opens : (p : Profile) (s : Sent) → Writable p s → (start end : ℕ) (r q : Repair)
    → reading_of start ≡ Says (Line s.kind) r → reading_of end ≡ Says EndOfLine q → (x : State)
    → run p x (mark_of start ++ (content s ++ mark_of end)) ≡ opened (HandedOut s.kind) end
line_opens p s g start end r q hs he x =
    let open₁ : Opens p x (mark_of start) start = resync p x start (ap is_end hs) in
    let m = Open open₁.before start in
    let start_small = read_small start r (Line s.kind) hs in
    let one : Lengthens p m (start % 16 ∷ start / 16 ∷ []) (content s) = no_inner_mark p s g m start start_small in
    let two : MarkTold p m (line_text start s) end = marked p m (line_text start s) end (few_no_group (line_text start s) (few_line p s g start start_small)) in
    run_append p x (mark_of start) (content s ++ mark_of end)
    ∙ ap (λ (y : State). run p y (content s ++ mark_of end)) open₁.state
    ∙ run_append p (opened open₁.before start) (content s) (mark_of end)
    ∙ ap (λ (y : State). run p y (mark_of end)) one.state
    ∙ two.state
    ∙ ap₂ (λ k o. opened (before_by k (is_line o)) end) (ap kind_of hs) (line_answer_lem p s g open₁.before start end r q hs he)

-- from the state after a line as written, any mark tells its gap: its two bytes, and as the line's period its length as written
pub gap_told : (p : Profile) (s : Sent) → Writable p s → (start end : ℕ) (q : Repair) → reading_of end ≡ Says EndOfLine q → (code : ℕ)
    → outcomes p (state_with (Open (HandedOut s.kind) end) (gap_text end s)) (mark_of code)
    ≡ seven_then (good_gap (length (written_with start end s)) s.gap_one s.gap_two)
gap_told p s g start end q he code =
    (marked p (Open (HandedOut s.kind) end) (gap_text end s) code (no_group_gap p s g end (read_small end q EndOfLine he))).told
    ∙ ap seven_then (gap_answer_lem p s g end q he (some code) ∙ ap (λ (n : ℕ). good_gap n s.gap_one s.gap_two) (written_length p s g start end code))

-- From a fresh reader.

-- with any code bytes that are read as the line's kind and as end of line
pub read_back_with : (p : Profile) (s : Sent) → Writable p s → (start end : ℕ) (r q : Repair)
    → reading_of start ≡ Says (Line s.kind) r → reading_of end ≡ Says EndOfLine q → ReadsBack p s (written_with start end s) r q
unfolding period_of
read_back_with p s g start end r q hs he =
    let b = comes_back p s g start end r q hs he fresh in
    record {
      line_told = b.told;
      gap_at_mark = λ code.
          ap (λ (y : State). outcomes p y (mark_of code)) b.state
          ∙ gap_told p s g start end q he code;
      gap_at_finish = ap (λ (y : State). (finish p y).outcome) b.state ∙ gap_answer_lem p s g end q he none;
    }

-- whatever is written is read back: the same kind, number and body, neither code repaired; then the gap's two bytes
pub read_back_lem : (p : Profile) (s : Sent) → Writable p s → ReadsBack p s (written s) Clean Clean
read_back_lem p s g = read_back_with p s g _ _ Clean Clean (clean_reading (Line s.kind)) (clean_reading EndOfLine)
