-- A reader that passes its own test stands for a text: it is interchangeable with the reader of that text. The text's newest nibbles are
-- the window's digits; before them come the nibbles kept, then the code.
use Rattle.std.specs.Prelude.{◌≡◌, refl, Bool, true, false, ◌&&◌, ◌||◌, not, cond, List, [], ◌∷◌, ◌++◌, ℕ, zero, suc, ◌+◌, ◌*◌, ◌-◌, ◌/◌, ◌%◌, ◌≤◌, ◌<◌, ◌^◌, eqb, leb, ltb, length, take, drop}
use Rattle.std.proofs.Common.{◌∙◌, ap, ap₂, sym, subst, true≢false, arith, drop_of_length-le, take_all, eqb-true, le-leb, leb-true, leb-false, lt-ltb, le-ltb}
use Rattle.std.proofs.lemmas.Bool.{eqb-false, lt-leb}
use Rattle.profile.specs.declared.Profile.{Profile}
use Rattle.profile.specs.declared.Profile.TheVariants.{VV5404, VV5300}
use Rattle.profile.specs.Profile.{longest, gap_start}
use Rattle.stream.specs.declared.Before.{Before}
use Rattle.stream.specs.declared.Mark.{Mark}
use Rattle.stream.specs.declared.Mark.TheVariants.{NoMark, Open}
use Rattle.stream.specs.Nibbles.{AllNibbles, no_nibble, and_nibble}
use Rattle.stream.specs.NibblesLaws.{all_nibbles_append}
use Rattle.mark_text.specs.MarkText.{stray_at, kept_at}
use Rattle.reader_head.specs.Head.{aged}
use Rattle.refinement.specs.Window.{num}
use Rattle.reader_laws.specs.Passing.{Byte, Fits}
use Rattle.refinement.specs.StoredText.{stored_kept, stored_body}
use Rattle.refinement.specs.Stored.{stored_length}
use Rattle.explained.specs.Equivalent.{base_of}
use Rattle.explained.specs.Explained.{Store, Typed}
use Rattle.explained.proofs.Used.{commit, byte_numbered, nibble_of, commit_new, commit_old, ends_line, SameNibbles, SameUsed, no_nibbles}

-- The nibbles kept.

byte_small : (s : Store) → Typed s → (j : ℕ) → byte_numbered s j < 256
byte_small s h zero = omega arith
byte_small s h (suc zero) = h.first_byte
byte_small s h (suc (suc zero)) = h.second_byte
byte_small s h (suc (suc (suc j))) = h.bytes j

kept_small : (s : Store) → Typed s → (i : ℕ) → nibble_of s i < 16
unfolding nibble_of
kept_small s h i = go (eqb (i % 2) 0) (byte_small s h (i / 2))
  where
    go : (b : Bool) → byte_numbered s (i / 2) < 256 → cond b (byte_numbered s (i / 2) / 16) (byte_numbered s (i / 2) % 16) < 16
    go true l = omega arith
    go false l = omega arith

-- the text's nibble of number i: after an end code, where a gap has nothing but F, an F, or a 0 if a stray nibble is noted
unfoldable text_nibble : Profile → Bool → Store → ℕ → ℕ
text_nibble p e s i = cond (e && leb (gap_start p) i) (cond s.kept.stray 0 15) (nibble_of s i)

text_kept : (p : Profile) (e : Bool) (s : Store) (i : ℕ) → (e ≡ true → i < gap_start p) → text_nibble p e s i ≡ nibble_of s i
unfolding text_nibble
text_kept p false s i h = refl
text_kept p true s i h = ap (λ b. cond b (cond s.kept.stray 0 15) (nibble_of s i)) (lt-leb (gap_start p) i (h refl))

text_gap : (p : Profile) (s : Store) (i : ℕ) → gap_start p ≤ i → text_nibble p true s i ≡ cond s.kept.stray 0 15
unfolding text_nibble
text_gap p s i h = ap (λ b. cond b (cond s.kept.stray 0 15) (nibble_of s i)) (le-leb (gap_start p) i h)

text_small : (p : Profile) (e : Bool) (s : Store) → Typed s → (i : ℕ) → text_nibble p e s i < 16
unfolding text_nibble
text_small p e s h i = go (e && leb (gap_start p) i) s.kept.stray
  where
    go : (b c : Bool) → cond b (cond c 0 15) (nibble_of s i) < 16
    go true true = omega arith
    go true false = omega arith
    go false c = kept_small s h i

-- k nibbles of the text after the mark's code, newest first
abbrev kept_text : Profile → Mark → Store → ℕ → List ℕ
kept_text p m s zero = []
kept_text p m s (suc k) = text_nibble p (ends_line m) s (k + length (base_of m)) ∷ kept_text p m s k

all_small : (p : Profile) (m : Mark) (s : Store) → Typed s → (k : ℕ) → AllNibbles (kept_text p m s k)
all_small p m s h zero = no_nibble
all_small p m s h (suc k) = and_nibble (text_small p (ends_line m) s h (k + length (base_of m))) (all_small p m s h k)

text_length : (p : Profile) (m : Mark) (s : Store) (k : ℕ) → length (kept_text p m s k ++ base_of m) ≡ k + length (base_of m)
text_length p m s zero = omega arith
text_length p m s (suc k) = let e = text_length p m s k in omega arith

base_length : (m : Mark) → length (base_of m) ≤ 2
base_length NoMark = omega arith
base_length (Open before c) = omega arith

-- What is kept of that text.

-- the body from the one that stood there
abbrev pub stored_text : Profile → List ℕ → List ℕ → Store
stored_text p b c = record { kept = stored_kept p c; body = stored_body b c }

one_nibble : (p : Profile) (e : Bool) (s s₂ : Store) (k : ℕ) → Typed s → length s₂.body ≡ longest → SameNibbles p e k s s₂
    → SameNibbles p e (suc k) s (commit p k (text_nibble p e s k) s₂)
one_nibble p e s s₂ k h l f i b u = go (eqb i k) refl
  where
    v : ℕ
    v = text_nibble p e s k

    g : v < 16
    g = text_small p e s h k

    go : (x : Bool) → eqb i k ≡ x → nibble_of s i ≡ nibble_of (commit p k v s₂) i
    go true q =
        let m = eqb-true i k q in
        sym (text_kept p e s i u.before_gap) ∙ ap (text_nibble p e s) m ∙ sym (commit_new p k v s₂ g l i m u.from u.to)
    go false q =
        let m = eqb-false i k q in
        let n : i < k = omega arith in
        f i n u ∙ sym (commit_old p k v s₂ g l i n u.from u.to)

same_nibbles : (p : Profile) (m : Mark) (s : Store) → Typed s → (k : ℕ)
    → SameNibbles p (ends_line m) (k + length (base_of m)) s (stored_text p s.body (kept_text p m s k ++ base_of m))
same_nibbles p m s h zero = no_nibbles p (ends_line m) _ s _ (let l = base_length m in omega arith)
same_nibbles p m s h (suc k) =
    let i = k + length (base_of m) in
    let c = kept_text p m s k ++ base_of m in
    let e : suc (k + length (base_of m)) ≡ suc k + length (base_of m) = omega arith in
    subst (λ (n : ℕ). SameNibbles p (ends_line m) n s (stored_text p s.body (kept_text p m s (suc k) ++ base_of m))) e
    (subst (λ (n : ℕ). SameNibbles p (ends_line m) (suc i) s (commit p n (text_nibble p (ends_line m) s i) (stored_text p s.body c)))
    (sym (text_length p m s k))
    (one_nibble p (ends_line m) s (stored_text p s.body c) i h (stored_length s.body c ∙ h.size) (same_nibbles p m s h k)))

-- after an end code, a stray nibble is noted of the text exactly if the store has noted one and the text is long enough
same_stray : (p : Profile) (before : Before) (c : ℕ) (s : Store) → ends_line (Open before c) ≡ true → (k : ℕ)
    → (stored_kept p (kept_text p (Open before c) s k ++ base_of (Open before c))).stray ≡ (s.kept.stray && ltb (gap_start p) (k + 2))
unfolding kept_at stray_at
same_stray p before c s h zero = start p s.kept.stray
  where
    start : (p : Profile) (x : Bool) → (stored_kept p (c % 16 ∷ c / 16 ∷ [])).stray ≡ (x && ltb (gap_start p) (0 + 2))
    start VV5404 true = refl
    start VV5404 false = refl
    start VV5300 true = refl
    start VV5300 false = refl
same_stray p before c s h (suc k) =
    ap₂ (λ x (n : ℕ). x || (leb g n && not (eqb (text_nibble p (ends_line (Open before c)) s (k + 2)) 15))) (same_stray p before c s h k)
    (text_length p (Open before c) s k)
    ∙ ap (λ e. (noted && ltb g (k + 2)) || (leb g (k + 2) && not (eqb (text_nibble p e s (k + 2)) 15))) h
    ∙ go (leb g (k + 2)) refl
  where
    noted : Bool
    noted = s.kept.stray

    g : ℕ
    g = gap_start p

    within : (x y : Bool) → ((x && y) || (true && not (eqb (cond x 0 15) 15))) ≡ (x && true)
    within true true = refl
    within true false = refl
    within false y = refl

    not_yet_there : (x y : Bool) → ((x && false) || (false && y)) ≡ (x && false)
    not_yet_there true y = refl
    not_yet_there false y = refl

    go : (y : Bool) → leb g (k + 2) ≡ y
        → ((noted && ltb g (k + 2)) || (y && not (eqb (text_nibble p true s (k + 2)) 15))) ≡ (noted && ltb g (suc k + 2))
    go true e =
        let l = leb-true g (k + 2) e in
        ap (λ (x : ℕ). (noted && ltb g (k + 2)) || (true && not (eqb x 15))) (text_gap p s (k + 2) l)
        ∙ within noted (ltb g (k + 2))
        ∙ ap (λ y. noted && y) (sym (lt-ltb g (suc k + 2) (omega arith)))
    go false e =
        let l = leb-false g (k + 2) e in
        ap (λ y. (noted && y) || (false && not (eqb (text_nibble p true s (k + 2)) 15))) (le-ltb g (k + 2) (omega arith))
        ∙ not_yet_there noted (not (eqb (text_nibble p true s (k + 2)) 15))
        ∙ ap (λ y. noted && y) (sym (le-ltb g (suc k + 2) (omega arith)))

-- The window.

-- its k newest nibbles, newest first
abbrev digits : ℕ → ℕ → List ℕ
digits zero w = []
digits (suc k) w = w % 16 ∷ digits k (w / 16)

digits_small : (k w : ℕ) → AllNibbles (digits k w)
digits_small zero w = no_nibble
digits_small (suc k) w = and_nibble {n = w % 16} (omega arith) (digits_small k (w / 16))

digits_length : (k w : ℕ) (u : List ℕ) → length (digits k w ++ u) ≡ k + length u
digits_length zero w u = omega arith
digits_length (suc k) w u = let e = digits_length k (w / 16) u in omega arith

num_digits : (k w : ℕ) (u : List ℕ) → num u ≡ aged k w → num (digits k w ++ u) ≡ w
num_digits zero w u e = e
num_digits (suc k) w u e = let q = num_digits k (w / 16) u e in omega arith

window_zero : (w : ℕ) → w < 2 ^ 32 → aged 8 w ≡ 0
window_zero w h = omega arith

-- The text.

-- nibbles after the mark's code that make count, window and what is used of the store
pub record StandsFor (p : Profile) (m : Mark) (c w : ℕ) (s : Store) : Type 0 where
  pub new : List ℕ
  pub new_small : AllNibbles new
  pub is_count : length (new ++ base_of m) ≡ c
  pub is_window : num (take 8 (new ++ base_of m)) ≡ w
  pub is_store : SameUsed p (ends_line m) (c - 8) s (stored_text p s.body (drop 8 (new ++ base_of m)))

no_stray : (x : Bool) → (x ≡ true → ⊥) → x ≡ false
no_stray true h = absurd (h refl)
no_stray false h = refl

-- the code is still in the window
in_window : (p : Profile) (m : Mark) (k w : ℕ) (s : Store) → Typed s → (c : ℕ) → c ≡ k + length (base_of m) → c ≤ 8
    → num (base_of m) ≡ aged k w → (s.kept.stray ≡ true → gap_start p + 8 < c) → StandsFor p m c w s
in_window p m k w s h c e l a y =
    let n = digits_length k w (base_of m) in
    record {
      new = digits k w;
      new_small = digits_small k w;
      is_count = omega arith;
      is_window = ap num (take_all 8 (digits k w ++ base_of m) (omega arith)) ∙ num_digits k w (base_of m) a;
      is_store =
          subst (λ (t : List ℕ). SameUsed p (ends_line m) (c - 8) s (stored_text p s.body t))
          (sym (drop_of_length-le (digits k w ++ base_of m) {i = 8} (omega arith)))
          (record {
            nibbles = no_nibbles p (ends_line m) (c - 8) s _ (omega arith);
            stray_same = λ q. no_stray s.kept.stray (λ z. let g = y z in omega arith);
            size = h.size;
            size_two = h.size;
          });
    }

-- half of it is
half_in_window : (p : Profile) (before : Before) (code w : ℕ) (s : Store) → Typed s → aged 7 w ≡ code % 16
    → (s.kept.stray ≡ true → gap_start p + 8 < 9) → StandsFor p (Open before code) 9 w s
unfolding kept_at stray_at
half_in_window p before code w s h a y =
    record {
      new = digits 7 w;
      new_small = digits_small 7 w;
      is_count = refl;
      is_window = num_digits 7 w (code % 16 ∷ []) (let z : code % 16 + 16 * 0 ≡ aged 7 w = omega arith in z);
      is_store =
          record {
            nibbles = no_nibbles p (ends_line (Open before code)) 1 s _ (omega arith);
            stray_same = λ q. no_stray s.kept.stray (λ z. late p (y z)) ∙ sym (none_noted p);
            size = h.size;
            size_two = stored_length s.body (code / 16 ∷ []) ∙ h.size;
          };
    }
  where
    late : (p : Profile) → gap_start p + 8 < 9 → ⊥
    late VV5404 g = omega arith
    late VV5300 g = omega arith

    none_noted : (p : Profile) → (stored_kept p (code / 16 ∷ [])).stray ≡ false
    none_noted VV5404 = refl
    none_noted VV5300 = refl

-- all of it has left
stray_for : (p : Profile) (m : Mark) (s : Store) (k : ℕ) → (s.kept.stray ≡ true → gap_start p < k + length (base_of m)) → ends_line m ≡ true
    → s.kept.stray ≡ (stored_kept p (kept_text p m s k ++ base_of m)).stray
stray_for p NoMark s k h e = absurd (true≢false (sym e))
stray_for p (Open before c) s k h e = sym (same_stray p before c s e k ∙ go s.kept.stray h)
  where
    go : (x : Bool) → (x ≡ true → gap_start p < k + 2) → (x && ltb (gap_start p) (k + 2)) ≡ x
    go true g = lt-ltb (gap_start p) (k + 2) (g refl)
    go false g = refl

left_window : (p : Profile) (m : Mark) (k w : ℕ) (s : Store) → Typed s → (c : ℕ) → c ≡ 8 + (k + length (base_of m)) → w < 2 ^ 32
    → (s.kept.stray ≡ true → gap_start p + 8 < c) → StandsFor p m c w s
left_window p m k w s h c e l y =
    let n = text_length p m s k in
    let q = same_nibbles p m s h k in
    let d : c - 8 ≡ k + length (base_of m) = omega arith in
    record {
      new = digits 8 w ++ kept_text p m s k;
      new_small = all_nibbles_append (digits_small 8 w) (all_small p m s h k);
      is_count = omega arith;
      is_window = num_digits 8 w [] (sym (window_zero w l));
      is_store =
          record {
            nibbles = λ i b u. q i (omega arith) u;
            stray_same = stray_for p m s k (λ z. let g = y z in omega arith);
            size = h.size;
            size_two = stored_length s.body (kept_text p m s k ++ base_of m) ∙ h.size;
          };
    }

pub stands_for : (p : Profile) (m : Mark) (c w : ℕ) (s : Store) → Byte m → Typed s → w < 2 ^ 32 → Fits m c w
    → (s.kept.stray ≡ true → gap_start p + 8 < c) → StandsFor p m c w s
stands_for p NoMark c w s b h l f y = go (leb c 8) refl
  where
    go : (x : Bool) → leb c 8 ≡ x → StandsFor p NoMark c w s
    go true e = let k = leb-true c 8 e in in_window p NoMark c w s h c (omega arith) k (sym (f k)) y
    go false e = let k = leb-false c 8 e in left_window p NoMark (c - 8) w s h c (omega arith) l y
stands_for p (Open before code) c w s q h l f y = go (leb c 8) (eqb c 9) refl refl
  where
    go : (x z : Bool) → leb c 8 ≡ x → eqb c 9 ≡ z → StandsFor p (Open before code) c w s
    go true z e g =
        let k = leb-true c 8 e in
        let t = f.two in
        let n : num (base_of (Open before code)) ≡ code = omega arith in
        in_window p (Open before code) (c - 2) w s h c (omega arith) k (n ∙ sym (f.within k)) y
    go false true e g =
        let k : 9 ≡ c = sym (eqb-true c 9 g) in
        subst (λ (x : ℕ). StandsFor p (Open before code) x w s) k
        (half_in_window p before code w s h (f.half (sym k)) (subst (λ (x : ℕ). s.kept.stray ≡ true → gap_start p + 8 < x) (sym k) y))
    go false false e g =
        let k = leb-false c 8 e in
        let k₂ = eqb-false c 9 g in
        left_window p (Open before code) (c - 10) w s h c (omega arith) l y
