-- What is kept of a text is enough to answer for it: the answer that is stored_answer from that is the answer of the text itself.
use Rattle.std.specs.Prelude.{◌≡◌, Bool, true, false, ◌&&◌, ◌||◌, not, cond, List, [], ◌∷◌, ◌++◌, ℕ, zero, suc, ◌+◌, ◌*◌, ◌-◌, ◌/◌, ◌%◌, ◌≤◌, ◌<◌, eqb, leb, ltb, length, take, drop, set, get_or}
use Rattle.std.proofs.Math.Path.{refl}
use Rattle.std.proofs.Common.{◌∙◌, ap, ap₂, sym, true≢false, append-nil, append_assoc, arith, length-append, drop_of_length-le, drop-cons, get_or-set_same, set-set, take_at, eqb-true, ne_eqb, eq-eqb, le-leb, leb-true, leb-false, le-ltb, lt-ltb, ltb-true, ltb-false}
use Rattle.std.proofs.Math.Bool.{or-false, not-not}
use Rattle.std.proofs.Math.Option.{Option, none, some}
use Rattle.std.proofs.Math.ListN.{get_or-append, get_or-eq_default}
use Rattle.std.proofs.lemmas.List.{drop-append-le, get_or_at, set_at}
use Rattle.std.proofs.lemmas.Bool.{eqb-false}
use Rattle.bits.specs.Every.{and_both}
use Rattle.refusal.specs.Refusal.{wrong_length, bad_number, bad_body, no_end_of_line, bad_gap}
use Rattle.line_code.specs.declared.Kind.{Kind}
use Rattle.line_code.specs.declared.Meaning.{Meaning}
use Rattle.line_code.specs.declared.Meaning.TheVariants.{EndOfLine, Line, ReservedEC, ReservedF1}
use Rattle.line_code.specs.declared.Reading.{Reading}
use Rattle.line_code.specs.declared.Reading.TheVariants.{Says, Damaged}
use Rattle.line_code.specs.declared.Repair.{Repair}
use Rattle.line_code.specs.LineCode.{reading_of, is_end, repair_of}
use Rattle.line_number.specs.LineNumber.{number_good, number_from}
use Rattle.profile.specs.declared.Profile.{Profile}
use Rattle.profile.specs.declared.Profile.TheVariants.{VV5404, VV5300}
use Rattle.profile.specs.Profile.{body_length, longest, null_byte, gap_start}
use Rattle.profile.specs.Layout.{rules, fits, gap_fits}
use Rattle.stream.specs.declared.Before.{Before}
use Rattle.stream.specs.declared.Before.TheVariants.{NoLine, RefusedLine, HandedOut}
use Rattle.stream.specs.declared.Mark.{Mark}
use Rattle.stream.specs.declared.Mark.TheVariants.{NoMark, Open}
use Rattle.stream.specs.Answers.{facts, Outcome, line, refused, require, good_gap, bytes_onto, line_from, turned, all_f, after_code, two_bytes_then_f, gap_from, by_meaning, by_reading, answer_of}
use Rattle.stream.specs.Stream.{answer_at}
use Rattle.stream.specs.TextLaws.{turned_append, after_code_lem, refuses}
use Rattle.mark_text.specs.declared.Kept.{Kept}
use Rattle.reader_laws.specs.Bodies.{body_by, length_body}
use Rattle.mark_text.specs.MarkText.{body_place, byte_at, stray_at, kept_at, body_at}
use Rattle.gap_answer.specs.KeptGap.{kept_gap}
use Rattle.line_answer.specs.KeptLine.{kept_line}
use Rattle.mark_answer.specs.KeptAnswer.{kept_by_meaning, kept_by_reading, kept_answer}
use Rattle.profile.specs.LayoutLaws.{body_small}
use Rattle.refinement.specs.StoredText.{stored_kept, stored_body}

-- The text's nibbles, by number.

-- the text, oldest first
abbrev old : List ℕ → List ℕ
old c = turned c []

old_cons : (n : ℕ) (c : List ℕ) → old (n ∷ c) ≡ old c ++ (n ∷ [])
old_cons n c = turned_append c (n ∷ [])

length_old : (c : List ℕ) → length (old c) ≡ length c
length_old [] = refl
length_old (n ∷ c) = ap length (old_cons n c) ∙ length-append (old c) (n ∷ []) ∙ (let e = length_old c in omega arith)

abbrev nibble_at : ℕ → List ℕ → ℕ
nibble_at i c = get_or (old c) i 0

nibble_old : (i v : ℕ) (c : List ℕ) → i < length c → nibble_at i (v ∷ c) ≡ nibble_at i c
nibble_old i v c h =
    ap (λ (l : List ℕ). get_or l i 0) (old_cons v c) ∙ get_or-append (old c) (v ∷ []) 0 i (let e = length_old c in omega arith)

nibble_new : (i v : ℕ) (c : List ℕ) → length c ≡ i → nibble_at i (v ∷ c) ≡ v
nibble_new i v c h = ap (λ (l : List ℕ). get_or l i 0) (old_cons v c) ∙ get_or_at (old c) v [] 0 i (length_old c ∙ h)

nibble_none : (i : ℕ) (c : List ℕ) → length c ≤ i → nibble_at i c ≡ 0
nibble_none i c h = get_or-eq_default (old c) 0 {n = i} (let e = length_old c in omega arith)

-- The two bytes after the code.

pub byte_high : (from k v x : ℕ) → k ≡ from → byte_at from k v x ≡ 16 * v
unfolding byte_at
byte_high from k v x e = ap (λ b. cond b (16 * v) (cond (eqb k (from + 1)) (x / 16 * 16 + v) x)) (eq-eqb k from e)

pub byte_low : (from k v x : ℕ) → k ≡ from + 1 → byte_at from k v x ≡ x / 16 * 16 + v
unfolding byte_at
byte_low from k v x e =
    ap₂ (λ a b. cond a (16 * v) (cond b (x / 16 * 16 + v) x)) (ne_eqb k from (λ z. omega arith)) (eq-eqb k (from + 1) e)

pub byte_keep : (from k v x : ℕ) → (k ≡ from → ⊥) → (k ≡ from + 1 → ⊥) → byte_at from k v x ≡ x
unfolding byte_at
byte_keep from k v x g h = ap₂ (λ a b. cond a (16 * v) (cond b (x / 16 * 16 + v) x)) (ne_eqb k from g) (ne_eqb k (from + 1) h)

abbrev stored_byte : ℕ → List ℕ → ℕ
stored_byte from [] = 0
stored_byte from (v ∷ c) = byte_at from (length c) v (stored_byte from c)

stored_first : (p : Profile) (c : List ℕ) → (stored_kept p c).first ≡ stored_byte 2 c
unfolding kept_at
stored_first p [] = refl
stored_first p (v ∷ c) = ap (byte_at 2 (length c) v) (stored_first p c)

stored_second : (p : Profile) (c : List ℕ) → (stored_kept p c).second ≡ stored_byte 4 c
unfolding kept_at
stored_second p [] = refl
stored_second p (v ∷ c) = ap (byte_at 4 (length c) v) (stored_second p c)

-- a high nibble kept as 16 times itself, joined by a low one
joined : (h l : ℕ) → 16 * h / 16 * 16 + l ≡ 16 * h + l
joined h l = omega arith

abbrev byte_of : ℕ → ℕ → ℕ
byte_of h l = 16 * h + l

stored_byte_lem : (from : ℕ) (c : List ℕ) → stored_byte from c ≡ byte_of (nibble_at from c) (nibble_at (from + 1) c)
stored_byte_lem from [] = refl
stored_byte_lem from (v ∷ c) = go (ltb k from) (eqb k from) (eqb k (from + 1)) refl refl refl (stored_byte_lem from c)
  where
    k : ℕ
    k = length c

    x : ℕ
    x = stored_byte from c

    t : List ℕ
    t = v ∷ c

    go : (a b d : Bool) → ltb k from ≡ a → eqb k from ≡ b → eqb k (from + 1) ≡ d → x ≡ byte_of (nibble_at from c) (nibble_at (from + 1) c)
        → byte_at from k v x ≡ byte_of (nibble_at from t) (nibble_at (from + 1) t)
    go true b d e f g ih =
        let l = ltb-true k from e in
        byte_keep from k v x (λ z. omega arith) (λ z. omega arith)
        ∙ ih
        ∙ ap₂ byte_of (nibble_none from c (omega arith) ∙ sym (nibble_none from t (omega arith)))
        (nibble_none (from + 1) c (omega arith) ∙ sym (nibble_none (from + 1) t (omega arith)))
    go false true d e f g ih =
        let l = eqb-true k from f in
        let z : 16 * v ≡ 16 * v + 0 = omega arith in
        byte_high from k v x l ∙ z ∙ ap₂ byte_of (sym (nibble_new from v c l)) (sym (nibble_none (from + 1) t (omega arith)))
    go false false true e f g ih =
        let l = eqb-true k (from + 1) g in
        let z : 16 * nibble_at from c + 0 ≡ 16 * nibble_at from c = omega arith in
        let y : x ≡ 16 * nibble_at from c = ih ∙ ap (byte_of (nibble_at from c)) (nibble_none (from + 1) c (omega arith)) ∙ z in
        byte_low from k v x l
        ∙ ap (λ (n : ℕ). n / 16 * 16 + v) y
        ∙ joined (nibble_at from c) v
        ∙ ap₂ byte_of (sym (nibble_old from v c (omega arith))) (sym (nibble_new (from + 1) v c l))
    go false false false e f g ih =
        let h = ltb-false k from e in
        let i = eqb-false k from f in
        let j = eqb-false k (from + 1) g in
        let l : from + 2 ≤ k = omega arith in
        byte_keep from k v x (λ z. omega arith) (λ z. omega arith)
        ∙ ih
        ∙ ap₂ byte_of (sym (nibble_old from v c (omega arith))) (sym (nibble_old (from + 1) v c (omega arith)))

-- Nothing but F.

all_f_append : (u : List ℕ) (v : ℕ) → all_f (u ++ (v ∷ [])) ≡ (all_f u && eqb v 15)
all_f_append [] v = go (eqb v 15)
  where
    go : (b : Bool) → (b && true) ≡ b
    go true = refl
    go false = refl
all_f_append (n ∷ u) v = ap (λ b. eqb n 15 && b) (all_f_append u v) ∙ go (eqb n 15) (all_f u) (eqb v 15)
  where
    go : (a b c : Bool) → (a && (b && c)) ≡ ((a && b) && c)
    go true b c = refl
    go false b c = refl

stored_stray : (p : Profile) (c : List ℕ) → (stored_kept p c).stray ≡ not (all_f (drop (gap_start p) (old c)))
unfolding kept_at stray_at
stored_stray p [] = ap (λ (l : List ℕ). not (all_f l)) (sym (drop_of_length-le [] {i = gap_start p} (omega arith)))
stored_stray p (v ∷ c) = go (leb (gap_start p) (length c)) refl (stored_stray p c)
  where
    n_out : (a b : Bool) → (not a || not b) ≡ not (a && b)
    n_out true b = refl
    n_out false b = refl

    go : (b : Bool) → leb (gap_start p) (length c) ≡ b → (stored_kept p c).stray ≡ not (all_f (drop (gap_start p) (old c)))
        → ((stored_kept p c).stray || (b && not (eqb v 15))) ≡ not (all_f (drop (gap_start p) (old (v ∷ c))))
    go true e ih =
        let k = leb-true (gap_start p) (length c) e in
        let l = length_old c in
        ap (λ x. x || not (eqb v 15)) ih
        ∙ n_out (all_f (drop (gap_start p) (old c))) (eqb v 15)
        ∙ ap not (sym (all_f_append (drop (gap_start p) (old c)) v))
        ∙ ap (λ (w : List ℕ). not (all_f w)) (sym (drop-append-le (gap_start p) (old c) (v ∷ []) (omega arith)))
        ∙ ap (λ (w : List ℕ). not (all_f (drop (gap_start p) w))) (sym (old_cons v c))
    go false e ih =
        let k = leb-false (gap_start p) (length c) e in
        let l = length_old c in
        let m = length_old (v ∷ c) in
        or-false (stored_kept p c).stray
        ∙ ih
        ∙ ap (λ (w : List ℕ). not (all_f w))
        (drop_of_length-le (old c) {i = gap_start p} (omega arith) ∙ sym (drop_of_length-le (old (v ∷ c)) {i = gap_start p} (omega arith)))

not_stray : (p : Profile) (c : List ℕ) → all_f (drop (gap_start p) (old c)) ≡ not (stored_kept p c).stray
not_stray p c = sym (ap not (stored_stray p c) ∙ not-not (all_f (drop (gap_start p) (old c))))

-- The gap's answer.

-- profile 1's, from the text's length, whether it ends in nothing but F, and its two bytes
abbrev gap_shape : Kind → ℕ → ℕ → Bool → ℕ → ℕ → Outcome
gap_shape k m n x a b = require (x && (leb body_place n && gap_fits VV5300 k a b)) bad_gap (good_gap m a b)

gap_by_nibbles : (k : Kind) (m : ℕ) (w : List ℕ)
    → two_bytes_then_f k m (after_code w)
    ≡ gap_shape k m (length w) (all_f (drop body_place w)) (byte_of (get_or w 2 0) (get_or w 3 0)) (byte_of (get_or w 4 0) (get_or w 5 0))
unfolding require
gap_by_nibbles k m [] = refl
gap_by_nibbles k m (a ∷ []) = refl
gap_by_nibbles k m (a ∷ b ∷ []) = refl
gap_by_nibbles k m (a ∷ b ∷ c ∷ []) = refl
gap_by_nibbles k m (a ∷ b ∷ c ∷ d ∷ []) = refl
gap_by_nibbles k m (a ∷ b ∷ c ∷ d ∷ e ∷ []) = refl
gap_by_nibbles k m (a ∷ b ∷ c ∷ d ∷ e ∷ f ∷ w) =
    let ok = gap_fits VV5300 k (byte_of c d) (byte_of e f) in
    ap (λ x. require x bad_gap (good_gap m (byte_of c d) (byte_of e f)))
    (swap ok (all_f w) ∙ ap (λ x. all_f w && (x && ok)) (sym (le-leb body_place (length (a ∷ b ∷ c ∷ d ∷ e ∷ f ∷ w)) (omega arith))))
  where
    swap : (x y : Bool) → (x && y) ≡ (y && x)
    swap true true = refl
    swap true false = refl
    swap false true = refl
    swap false false = refl

gap_stored : (p : Profile) (k : Kind) (m : ℕ) (c : List ℕ) → gap_from p k m (after_code (turned c [])) ≡ kept_gap p k m (length c) (stored_kept p c)
gap_stored VV5404 k m c =
    ap (λ b. require b bad_gap (good_gap m null_byte null_byte)) (ap all_f (after_code_lem (old c)) ∙ not_stray VV5404 c)
gap_stored VV5300 k m c =
    gap_by_nibbles k m (old c)
    ∙ ap₂ (λ n x. gap_shape k m n x (byte_of (nibble_at 2 c) (nibble_at 3 c)) (byte_of (nibble_at 4 c) (nibble_at 5 c))) (length_old c) (not_stray VV5300 c)
    ∙ ap₂ (gap_shape k m (length c) (not (stored_kept VV5300 c).stray))
    (sym (stored_first VV5300 c ∙ stored_byte_lem 2 c)) (sym (stored_second VV5300 c ∙ stored_byte_lem 4 c))

-- Bytes, oldest first, of an even number of nibbles.

abbrev bytes : List ℕ → List ℕ
bytes [] = []
bytes (l ∷ []) = []
bytes (l ∷ h ∷ c) = bytes c ++ (byte_of h l ∷ [])

data Pairs : List ℕ → ℕ → Type 0 where
  no_pair : Pairs [] 0
  one_more_lem : {l h : ℕ} {c : List ℕ} {m : ℕ} → Pairs c m → Pairs (l ∷ h ∷ c) (suc m)

-- an even number of nibbles, or an odd one: then they are no bytes
data View (c : List ℕ) : Type 0 where
  even : (m : ℕ) → Pairs c m → View c
  odd : (m : ℕ) → length c ≡ 2 * m + 1 → ((w : List ℕ) → bytes_onto c w ≡ none) → View c

view_more : {l h : ℕ} {c : List ℕ} → View c → View (l ∷ h ∷ c)
view_more (even m q) = even (suc m) (one_more_lem q)
view_more {l} {h} (odd m e f) = odd (suc m) (omega arith) (λ w. f (byte_of h l ∷ w))

view : (c : List ℕ) → View c
view [] = even 0 no_pair
view (l ∷ []) = odd 0 refl (λ w. refl)
view (l ∷ h ∷ c) = view_more (view c)

length_pairs : {c : List ℕ} {m : ℕ} → Pairs c m → length c ≡ 2 * m
length_pairs no_pair = refl
length_pairs (one_more_lem q) = omega (arith, length_pairs q)

bytes_onto_all : {c : List ℕ} {m : ℕ} → Pairs c m → (w : List ℕ) → bytes_onto c w ≡ some (bytes c ++ w)
bytes_onto_all no_pair w = refl
bytes_onto_all (one_more_lem {l} {h} {c} q) w =
    bytes_onto_all q (byte_of h l ∷ w) ∙ ap {B = Option (List ℕ)} some (sym (append_assoc (bytes c) (byte_of h l ∷ []) w))

-- The body.

within : (k m : ℕ) → 2 * m + body_place ≤ k → k ≤ 2 * m + 7 → m < longest → (leb body_place k && ltb ((k - body_place) / 2) longest) ≡ true
within k m f g h =
    let i : (k - body_place) / 2 ≡ m = omega arith in
    and_both (leb body_place k) _ (le-leb body_place k (omega arith)) (lt-ltb ((k - body_place) / 2) longest (omega arith))

pub body_high : (k v : ℕ) (b : List ℕ) (m : ℕ) → k ≡ 2 * m + body_place → m < longest → body_at k v b ≡ set b m (16 * v)
unfolding body_at
body_high k v b m e h =
    let i : (k - body_place) / 2 ≡ m = omega arith in
    ap₂ (λ x y. body_by x y ((k - body_place) / 2) v b) (within k m (omega arith) (omega arith) h) (eq-eqb (k % 2) 0 (omega arith))
    ∙ ap (λ (n : ℕ). set b n (16 * v)) i

pub body_low : (k v : ℕ) (b : List ℕ) (m : ℕ) → k ≡ 2 * m + 7 → m < longest → body_at k v b ≡ set b m (get_or b m 0 / 16 * 16 + v)
unfolding body_at
body_low k v b m e h =
    let i : (k - body_place) / 2 ≡ m = omega arith in
    ap₂ (λ x y. body_by x y ((k - body_place) / 2) v b) (within k m (omega arith) (omega arith) h) (ne_eqb (k % 2) 0 (λ z. omega arith))
    ∙ ap (λ (n : ℕ). set b n (get_or b n 0 / 16 * 16 + v)) i

-- past the longest body
pub body_out : (k v : ℕ) (b : List ℕ) → 2 * longest + body_place ≤ k → body_at k v b ≡ b
unfolding body_at
body_out k v b h = go (leb body_place k) (ltb ((k - body_place) / 2) longest) (le-ltb ((k - body_place) / 2) longest (omega arith))
  where
    go : (x y : Bool) → y ≡ false → body_by (x && y) (eqb (k % 2) 0) ((k - body_place) / 2) v b ≡ b
    go x true e = absurd (true≢false e)
    go true false e = refl
    go false false e = refl

pub stored_length : (b c : List ℕ) → length (stored_body b c) ≡ length b
stored_length b [] = refl
stored_length b (v ∷ c) = length_body (length c) v (stored_body b c) ∙ stored_length b c

body_two : (k l h : ℕ) (b : List ℕ) (m : ℕ) → k ≡ 2 * m + body_place → m < longest → m < length b
    → body_at (suc k) l (body_at k h b) ≡ set b m (byte_of h l)
body_two k l h b m e f g =
    body_low (suc k) l (body_at k h b) m (omega arith) f
    ∙ ap (λ (w : List ℕ). set w m (get_or w m 0 / 16 * 16 + l)) (body_high k h b m e f)
    ∙ ap (λ (x : ℕ). set (set b m (16 * h)) m (x / 16 * 16 + l)) (get_or-set_same b m (16 * h) 0 g)
    ∙ set-set b m (16 * h) (16 * h / 16 * 16 + l)
    ∙ ap (set b m) (joined h l)

-- what is kept of a text of m + 3 whole bytes
record WholeBytes (p : Profile) (b c : List ℕ) (m : ℕ) : Type 0 where
  code : ℕ
  rest : List ℕ
  is_bytes : bytes c ≡ code ∷ (stored_kept p c).first ∷ (stored_kept p c).second ∷ rest
  is_length : length rest ≡ m
  is_body : m ≤ longest → stored_body b c ≡ rest ++ drop m b

keep_two : (p : Profile) (b : List ℕ) → length b ≡ longest → (l h : ℕ) (c : List ℕ) (m : ℕ) → length c ≡ 2 * m + body_place
    → WholeBytes p b c m → WholeBytes p b (l ∷ h ∷ c) (suc m)
unfolding kept_at
keep_two p b s l h c m e q =
    let v = byte_of h l in
    let k = length c in
    let x = (stored_kept p c).first in
    let y = (stored_kept p c).second in
    let f : (stored_kept p (l ∷ h ∷ c)).first ≡ x =
    byte_keep 2 (suc k) l (byte_at 2 k h x) (λ z. omega arith) (λ z. omega arith) ∙ byte_keep 2 k h x (λ z. omega arith) (λ z. omega arith) in
    let g : (stored_kept p (l ∷ h ∷ c)).second ≡ y =
    byte_keep 4 (suc k) l (byte_at 4 k h y) (λ z. omega arith) (λ z. omega arith) ∙ byte_keep 4 k h y (λ z. omega arith) (λ z. omega arith) in
    record {
      code = q.code;
      rest = q.rest ++ (v ∷ []);
      is_bytes =
          ap (λ (w : List ℕ). w ++ (v ∷ [])) q.is_bytes
          ∙ ap₂ {C = List ℕ} (λ i j. q.code ∷ i ∷ j ∷ (q.rest ++ (v ∷ []))) (sym f) (sym g);
      is_length = length-append q.rest (v ∷ []) ∙ (let z = q.is_length in omega arith);
      is_body = λ up.
          let n = stored_length b c in
          body_two k l h (stored_body b c) m e (omega arith) (omega arith)
          ∙ ap (λ (w : List ℕ). set w m v)
          (q.is_body (omega arith) ∙ ap (λ (w : List ℕ). q.rest ++ w) (drop-cons b m 0 (omega arith)))
          ∙ set_at q.rest (get_or b m 0) (drop (suc m) b) v m q.is_length
          ∙ sym (append_assoc q.rest (v ∷ []) (drop (suc m) b));
    }

whole_bytes : (p : Profile) (b : List ℕ) → length b ≡ longest → {c : List ℕ} (m : ℕ) → Pairs c (suc (suc (suc m))) → WholeBytes p b c m
unfolding kept_at byte_at body_at
whole_bytes p b s zero (one_more_lem {l} {h} (one_more_lem {l = l₂} {h = h₂} (one_more_lem {l = l₃} {h = h₃} no_pair))) =
    record {
      code = byte_of h₃ l₃;
      rest = [];
      is_bytes = ap₂ {C = List ℕ} (λ x y. byte_of h₃ l₃ ∷ x ∷ y ∷ []) (sym (joined h₂ l₂)) (sym (joined h l));
      is_length = refl;
      is_body = λ up. refl;
    }
whole_bytes p b s (suc m) (one_more_lem {l} {h} {c} q) = keep_two p b s l h c m (let e = length_pairs q in omega arith) (whole_bytes p b s m q)

-- The line's answer.

pub wrong_length_lem : (p : Profile) (k : Kind) (r : Repair) (n : ℕ) (t : Kept) (body : List ℕ) (next : Reading) → (n ≡ 2 * body_length p + body_place → ⊥)
    → kept_line p k r n t body next ≡ refused wrong_length
wrong_length_lem p k r n t body next h = refuses (eqb n (2 * body_length p + body_place)) wrong_length _ (ne_eqb n (2 * body_length p + body_place) h)

module _ (p : Profile) (k : Kind) (r : Repair) (b : List ℕ) (size : length b ≡ longest) (next : Reading) where
  -- the answer from number bytes and body, once the length is right
  abbrev line_shape : ℕ → ℕ → List ℕ → Outcome
  line_shape x y w =
      require (number_good x && number_good y) bad_number
      (require (fits (rules p k) w) bad_body (require (is_end next) no_end_of_line (line (facts k (number_from x y) r (repair_of next)) w)))

  whole_stored : {c : List ℕ} (m : ℕ) → Pairs c (suc (suc (suc m))) → WholeBytes p b c m
      → line_from p k r (bytes_onto c []) next ≡ kept_line p k r (length c) (stored_kept p c) (stored_body b c) next
  whole_stored {c} m q h =
      ap (λ bs. line_from p k r bs next) (bytes_onto_all q [] ∙ ap {B = Option (List ℕ)} some (append-nil (bytes c) ∙ h.is_bytes))
      ∙ go (eqb (length c) (2 * body_length p + body_place)) refl
    where
      len : length c ≡ 2 * m + body_place
      len = let z = length_pairs q in omega arith

      x : ℕ
      x = (stored_kept p c).first

      y : ℕ
      y = (stored_kept p c).second

      go : (a : Bool) → eqb (length c) (2 * body_length p + body_place) ≡ a
          → require (eqb (length h.rest) (body_length p)) wrong_length (line_shape x y h.rest)
          ≡ require (eqb (length c) (2 * body_length p + body_place)) wrong_length (line_shape x y (take (body_length p) (stored_body b c)))
      go true g =
          let n = eqb-true (length c) (2 * body_length p + body_place) g in
          let l = h.is_length in
          let same : length h.rest ≡ body_length p = omega (arith, len) in
          let t : take (body_length p) (stored_body b c) ≡ h.rest =
          ap (take (body_length p)) (h.is_body (omega (arith, len, body_small p))) ∙ take_at h.rest (drop m b) (body_length p) same in
          ap₂ (λ a w. require a wrong_length (line_shape x y w)) (eq-eqb (length h.rest) (body_length p) same ∙ sym g) (sym t)
      go false g =
          let n = eqb-false (length c) (2 * body_length p + body_place) g in
          let l = h.is_length in
          refuses _ wrong_length _ (ne_eqb (length h.rest) (body_length p) (λ z. n (omega (arith, len)))) ∙ sym (refuses _ wrong_length _ g)

  short : (n : ℕ) (c : List ℕ) → (n ≡ 2 * body_length p + body_place → ⊥) → kept_line p k r n (stored_kept p c) (stored_body b c) next ≡ refused wrong_length
  short n c h = wrong_length_lem p k r n (stored_kept p c) (stored_body b c) next h

  even_stored : (c : List ℕ) (m : ℕ) → Pairs c m
      → line_from p k r (bytes_onto c []) next ≡ kept_line p k r (length c) (stored_kept p c) (stored_body b c) next
  even_stored c zero no_pair = sym (short 0 c (λ z. omega arith))
  even_stored c (suc zero) (one_more_lem no_pair) = sym (short 2 c (λ z. omega arith))
  even_stored c (suc (suc zero)) (one_more_lem (one_more_lem no_pair)) = sym (short 4 c (λ z. omega arith))
  even_stored c (suc (suc (suc m))) q = whole_stored m q (whole_bytes p b size m q)

  line_stored : (c : List ℕ) → line_from p k r (bytes_onto c []) next ≡ kept_line p k r (length c) (stored_kept p c) (stored_body b c) next
  line_stored c = go (view c)
    where
      go : View c → line_from p k r (bytes_onto c []) next ≡ kept_line p k r (length c) (stored_kept p c) (stored_body b c) next
      go (even m q) = even_stored c m q
      go (odd m l f) = ap (λ bs. line_from p k r bs next) (f []) ∙ sym (short (length c) c (λ z. omega arith))

-- Any mark's answer.

module _ (p : Profile) (b : List ℕ) (size : length b ≡ longest) (c : List ℕ) where
  meaning_stored : (before : Before) (m : Meaning) (r : Repair) (next : Option ℕ)
      → kept_by_meaning p before m r (length c) (stored_kept p c) (stored_body b c) next ≡ by_meaning p before m r c next
  meaning_stored NoLine EndOfLine r next = refl
  meaning_stored (RefusedLine k) EndOfLine r next = sym (gap_stored p k _ c)
  meaning_stored (HandedOut k) EndOfLine r next = sym (gap_stored p k _ c)
  meaning_stored before (Line k) r none = refl
  meaning_stored before (Line k) r (some next) = sym (line_stored p k r b size (reading_of next) c)
  meaning_stored before ReservedEC r next = refl
  meaning_stored before ReservedF1 r next = refl

  reading_stored : (before : Before) (d : Reading) (next : Option ℕ)
      → kept_by_reading p before d (length c) (stored_kept p c) (stored_body b c) next ≡ by_reading p before d c next
  reading_stored before (Says m r) next = meaning_stored before m r next
  reading_stored before Damaged next = refl

  -- what is kept of a text is enough: the answer of the open mark, whatever body stood there at the mark
  pub stored_answer : (m : Mark) (next : Option ℕ) → kept_answer p m (length c) (stored_kept p c) (stored_body b c) next ≡ answer_at p m c next
  unfolding kept_answer answer_of
  stored_answer NoMark next = refl
  stored_answer (Open before code) next = reading_stored before (reading_of code) next
