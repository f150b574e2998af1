-- Two nibbles taken at once, where no mark can end in them, are two taken one by one: and the two that leave the window are one byte of
-- the text, where the count is even.
use mathlib.Core.Path.{◌≡◌, refl, sym, ap, ap₂, ◌∙◌, subst}
use mathlib.Core.Bool.{Bool, true, false, ◌||◌, ◌&&◌, not, cond}
use mathlib.Core.List.{List, ◌∷◌}
use mathlib.Core.Logic.{◌⊎◌, inl, inr, ⊎_elim}
use Prim.Native.Nat.{ℕ, ◌+◌, ◌-◌, ◌*◌, ◌/◌, ◌%◌, ◌≤◌, ◌<◌}
use native.Mathlib.Nat.{lt_of_not-le}
use native.Mathlib.Decide.{dec_le}
use native.Mathlib.Numerals.{add-one}
use native.Mathlib.Omega.{arith}
use borrow.Author.Tests.{lt-ltb, le-ltb, le-leb, lt-leb, leb-true, eq-eqb, ne_eqb, not-true}
use lib.Dec.{eqb, leb}
use lib.ListN.{length, get_or, set, drop, drop_of_length-le}
use lib.Seq.{set-set, get_or-set_same, drop-cons}
use Rattle.bits.specs.Every.{and_left, and_right}
use Rattle.profile.specs.declared.Profile.{Profile}
use Rattle.profile.specs.declared.Profile.TheVariants.{VV5404, VV5300}
use Rattle.profile.specs.Profile.{longest, gap_start}
use Rattle.stream.specs.declared.Mark.{Mark}
use Rattle.mark_text.specs.declared.Kept.{Kept}
use Rattle.mark_text.specs.MarkText.{body_place, byte_at, stray_at, kept_at, body_at}
use Rattle.mark_text.specs.MarkTextLaws.{gap_start_small}
use Rattle.reader_head.specs.declared.Head.{Head}
use Rattle.reader_head.specs.Head.{top_place, slide, count_stop, bump, leave_kept, leave_body, shifted}
use Rattle.reader_head.specs.HeadLaws.{bump_more}
use Rattle.run_ahead.specs.declared.Reached.{Reached}
use Rattle.run_ahead.specs.Ahead.{TakenAhead, ahead_to, is_near, are_pair, take_pairs, past_body, ahead_of, AheadGives}
use Rattle.run_ahead.specs.Parts.{is_pair, byte_place, slide_byte, stray_after, stray_kept, byte_kept, strayed, Leads, LeadsTo, Through, Reaches}

abbrev pub high : List ℕ → ℕ → ℕ
high s i = get_or s i 0

abbrev pub low : List ℕ → ℕ → ℕ
low s i = get_or s (i + 1) 0

-- A number is below another, or not.

from_dec : {l k : ℕ} → Dec (k ≤ l) → (l < k) ⊎ (k ≤ l)
from_dec (yes a) = inr a
from_dec (no h) = inl (lt_of_not-le h)

pub lt_or_ge : (l k : ℕ) → (l < k) ⊎ (k ≤ l)
lt_or_ge l k = from_dec (dec_le k l)

-- A loop over pairs.

-- where it stands: a window of eight nibbles, and a place from the first one on, up to an end within the run
pub record Stands (s : List ℕ) (from end w i : ℕ) : Type 0 where
  pub small : w < 4294967296
  pub from_on : from ≤ i
  pub up_to : i ≤ end
  pub within : end ≤ length s

-- a turn of it: two nibbles stand there, and no mark can end in them
pub record Turn (s : List ℕ) (from end w i : ℕ) : Type 0 where
  pub stands : Stands s from end w i
  pub fits : i + 2 ≤ end
  pub far : is_near w ≡ false
  pub high_small : high s i < 16
  pub low_small : low s i < 16

-- from what the test answers
pub turn : {s : List ℕ} {from end w i : ℕ} {t : Bool} → Stands s from end w i → t ≡ is_pair w s i end → t ≡ true → Turn s from end w i
unfolding is_pair
turn {s} {end = end} {w} {i} st e t =
    let h = sym e ∙ t in
    let f = and_right (leb 2 (end - i)) _ h in
    let g = and_right (not (is_near w)) _ f in
    let room = leb-true 2 (end - i) (and_left (leb 2 (end - i)) _ h) in
    let first = leb-true (high s i) 15 (and_left (leb (high s i) 15) _ g) in
    let second = leb-true (low s i) 15 (and_right (leb (high s i) 15) _ g) in
    record {
      stands = st;
      fits = omega (arith, room, st.up_to);
      far = not-true (is_near w) (and_left (not (is_near w)) _ f);
      high_small = omega arith;
      low_small = omega arith;
    }

module _ {s : List ℕ} {from end w i : ℕ} (t : Turn s from end w i) where
  -- its two nibbles can be read
  pub reads : (i + 2 ≤ length s) × (high s i < 16) × (low s i < 16)
  reads = (omega (arith, t.fits, t.stands.within), t.high_small, t.low_small)

  -- fewer places are left after it
  pub fewer : end - (i + 2) < end - i
  fewer = omega (arith, t.fits)

  -- and the loop stands at the next
  pub stands_next : {w' : ℕ} → w' ≡ slide_byte w (high s i) (low s i) → Stands s from end w' (i + 2)
  stands_next e =
      record {
        small = omega (arith, e, t.high_small, t.low_small);
        from_on = omega (arith, t.stands.from_on);
        up_to = t.fits;
        within = t.stands.within;
      }

-- Two nibbles at a place.

pub slide_two : (w x y : ℕ) → x < 16 → y < 16 → slide (slide w x) y ≡ slide_byte w x y
unfolding slide
slide_two w x y l m = omega arith

plus_two : (i : ℕ) → i + 1 + 1 ≡ i + 2
plus_two i = omega arith

-- one stands there
one_there : (s : List ℕ) (i : ℕ) → i < length s → drop i s ≡ get_or s i 0 ∷ drop (i + 1) s
one_there s i l = drop-cons s i 0 l ∙ ap (λ (k : ℕ). get_or s i 0 ∷ drop k s) (sym (add-one i))

-- two stand there
two_there : (s : List ℕ) (i : ℕ) → i + 2 ≤ length s → drop i s ≡ high s i ∷ (low s i ∷ drop (i + 2) s)
two_there s i l =
    one_there s i (omega arith)
    ∙ ap (λ (t : List ℕ). get_or s i 0 ∷ t) (one_there s (i + 1) (omega arith) ∙ ap (λ (k : ℕ). get_or s (i + 1) 0 ∷ drop k s) (plus_two i))

-- where they are a pair they are taken
module _ (h : Head) (B : List ℕ) {s : List ℕ} {from end i : ℕ} (t : Turn s from end h.window i) where
  pub two_on : take_pairs h B (drop i s) i
      ≡ take_pairs (shifted (shifted h (high s i)) (low s i)) (leave_body (shifted h (high s i)) (leave_body h B)) (drop (i + 2) s) (i + 2)
  two_on =
      ap (λ (w : List ℕ). take_pairs h B w i) (two_there s i (reads t).0)
      ∙ simp (t.far, le-leb (high s i) 15 (let z = t.high_small in omega arith), le-leb (low s i) 15 (let z = t.low_small in omega arith))

-- and where none stands the pairs end
none_there : (s : List ℕ) (h : Head) (B : List ℕ) (i : ℕ) → is_pair h.window s i (length s) ≡ false → take_pairs h B (drop i s) i ≡ ahead_to h B i
unfolding is_pair
none_there s h B i e =
    ⊎_elim
    (λ (a : length s < i + 1). ap (λ (w : List ℕ). take_pairs h B w i) (drop_of_length-le s {i = i} (omega arith)))
    (λ (a : i + 1 ≤ length s). ⊎_elim
    (λ (b : length s < i + 2). ap (λ (w : List ℕ). take_pairs h B w i)
    (one_there s i (omega arith) ∙ ap (λ (w : List ℕ). get_or s i 0 ∷ w) (drop_of_length-le s {i = i + 1} (omega arith))))
    (λ (b : i + 2 ≤ length s). ap (λ (w : List ℕ). take_pairs h B w i) (two_there s i b)
    ∙ (let z : are_pair h.window (high s i) (low s i) ≡ false = simp (le-leb 2 (length s - i) (omega arith)) at e in simp z))
    (lt_or_ge (length s) (i + 2)))
    (lt_or_ge (length s) (i + 1))

-- What leaves the window.

-- the oldest nibble once one more has come
next_top : (w x : ℕ) → x < 16 → slide w x / top_place ≡ w / byte_place % 16
unfolding slide
next_top w x l = omega arith

-- a nibble that is stray, and then another: a byte other than FF
or_true : (b : Bool) → (b || true) ≡ true
or_true true = refl
or_true false = refl

or_false : (b : Bool) → (b || false) ≡ b
or_false true = refl
or_false false = refl

stray_two : (w : ℕ) (s : Bool) → w < 4294967296
    → ((s || not (eqb (w / top_place) 15)) || not (eqb (w / byte_place % 16) 15)) ≡ stray_after s (w / byte_place)
unfolding stray_after
stray_two w s l =
    ⊎_elim
    (λ (d : w / byte_place < 255). ⊎_elim
    (λ (a : w / top_place < 15). simp (lt-ltb _ _ d, ne_eqb (w / top_place) 15 (λ (e : w / top_place ≡ 15). omega arith), or_true))
    (λ (a : 15 ≤ w / top_place). simp (lt-ltb _ _ d, ne_eqb (w / byte_place % 16) 15 (λ (e : w / byte_place % 16 ≡ 15). omega arith), or_true))
    (lt_or_ge (w / top_place) 15))
    (λ (d : 255 ≤ w / byte_place). simp (le-ltb _ _ d, eq-eqb (w / top_place) 15 (omega arith), eq-eqb (w / byte_place % 16) 15 (omega arith), or_false))
    (lt_or_ge (w / byte_place) 255)

-- the count

pub bump_one : (c : ℕ) → c < count_stop → bump c ≡ c + 1
unfolding bump
bump_one c l = simp (lt-ltb c count_stop l)

-- what is kept

abbrev pub head : Profile → Mark → ℕ → ℕ → Kept → Head
head p m c w t = record { profile = p; at = m; count = c; window = w; kept = t }

-- past the two bytes after the code only a stray nibble is noted
kept_late : (p : Profile) (k v : ℕ) (t : Kept) → body_place ≤ k → kept_at p k v t ≡ strayed t (t.stray || not (eqb v 15))
unfolding kept_at byte_at stray_at
kept_late p k v t l =
    let g = gap_start_small p in
    simp (ne_eqb k 2 (λ (e : k ≡ 2). omega arith), ne_eqb k 3 (λ (e : k ≡ 3). omega arith), ne_eqb k 4 (λ (e : k ≡ 4). omega arith), ne_eqb k 5 (λ (e : k ≡ 5). omega arith), le-leb (gap_start p) k (omega arith))

module _ (p : Profile) (m : Mark) (w : ℕ) (t : Kept) (x : ℕ) (small : w < 4294967296) (hx : x < 16) where
  u : ℕ
  u = w / top_place

  v : ℕ
  v = w / byte_place % 16

  kept_full : (c : ℕ) → 8 ≤ c → leave_kept (shifted (head p m c w t) x) ≡ kept_at p (bump c - 8) v (kept_at p (c - 8) u t)
  unfolding leave_kept u v
  kept_full c l = let b = bump_more c in simp (le-leb 8 c l, le-leb 8 (bump c) (omega arith), next_top w x hx)

  pub kept_after_lem : (c : ℕ) → 14 ≤ c → leave_kept (shifted (head p m c w t) x) ≡ strayed t (stray_after t.stray (w / byte_place))
  unfolding u v
  kept_after_lem c l =
      let b = bump_more c in
      kept_full c (omega arith)
      ∙ ap (λ k. kept_at p (bump c - 8) v k) (kept_late p (c - 8) u t (omega arith))
      ∙ kept_late p (bump c - 8) v (strayed t (t.stray || not (eqb u 15))) (omega arith)
      ∙ ap (strayed t) (stray_two w t.stray small)

  at_code : (q : Profile) → kept_at q 1 v (kept_at q 0 u t) ≡ t
  unfolding kept_at byte_at stray_at
  at_code VV5404 = ap (strayed t) (simp or_false)
  at_code VV5300 = ap (strayed t) (simp or_false)

  whole : 16 * u / 16 * 16 + v ≡ w / byte_place
  unfolding u v
  whole = omega arith

  stray_by : (q : Profile) (k : ℕ) → 2 ≤ k → k < 5 → stray_at q (k + 1) v (stray_at q k u t.stray) ≡ stray_kept q t.stray (w / byte_place)
  unfolding stray_at u v
  stray_by VV5404 k l n = simp (le-leb 2 k l, le-leb 2 (k + 1) (omega arith)) (stray_two w t.stray small)
  stray_by VV5300 k l n = simp (lt-leb 6 k (omega arith), lt-leb 6 (k + 1) (omega arith), or_false)

  at_first : kept_at p 3 v (kept_at p 2 u t) ≡ byte_kept p 10 (w / byte_place) t
  unfolding kept_at byte_at byte_kept
  at_first = ap₂ (λ f s. record { first = f; second = t.second; stray = s }) whole (stray_by p 2 (omega arith) (omega arith))

  at_second : kept_at p 5 v (kept_at p 4 u t) ≡ byte_kept p 12 (w / byte_place) t
  unfolding kept_at byte_at byte_kept
  at_second = ap₂ (λ f s. record { first = t.first; second = f; stray = s }) whole (stray_by p 4 (omega arith) (omega arith))

  early : (c : ℕ) → c < 7 → leave_kept (shifted (head p m c w t) x) ≡ byte_kept p c (w / byte_place) t
  unfolding leave_kept byte_kept
  early c a = simp (lt-leb 8 c (omega arith), bump_one c (omega arith), lt-leb 8 (c + 1) (omega arith), lt-ltb c 10 (omega arith))

  at_eight : kept_at p 1 v (kept_at p 0 u t) ≡ byte_kept p 8 (w / byte_place) t
  unfolding byte_kept
  at_eight = at_code p

  at_count : (c n : ℕ) → n ≡ c → 8 ≤ n → n < count_stop → kept_at p (n + 1 - 8) v (kept_at p (n - 8) u t) ≡ byte_kept p n (w / byte_place) t
      → leave_kept (shifted (head p m c w t) x) ≡ byte_kept p c (w / byte_place) t
  at_count c n e a b q =
      subst (λ (k : ℕ). leave_kept (shifted (head p m k w t) x) ≡ byte_kept p k (w / byte_place) t) e
      (kept_full n a ∙ ap (λ (k : ℕ). kept_at p (k - 8) v (kept_at p (n - 8) u t)) (bump_one n b) ∙ q)

  pub kept_before : (c : ℕ) → c < 14 → c % 2 ≡ 0 → leave_kept (shifted (head p m c w t) x) ≡ byte_kept p c (w / byte_place) t
  kept_before c l even =
      ⊎_elim (λ (a : c < 8). early c (omega arith))
      (λ (a : 8 ≤ c). ⊎_elim (λ (d : c < 10). at_count c 8 (omega arith) (omega arith) (omega arith) at_eight)
      (λ (d : 10 ≤ c). ⊎_elim (λ (f : c < 12). at_count c 10 (omega arith) (omega arith) (omega arith) at_first)
      (λ (f : 12 ≤ c). at_count c 12 (omega arith) (omega arith) (omega arith) at_second)
      (lt_or_ge c 12))
      (lt_or_ge c 10))
      (lt_or_ge c 8)

-- the body

-- before the body's first byte nothing is put there, and past its last neither
early_body : (h : Head) (B : List ℕ) → h.count < 14 → leave_body h B ≡ B
unfolding leave_body body_at
early_body h B l = go (leb 8 h.count)
  where
    go : (b : Bool) → cond b (body_at (h.count - 8) (h.window / top_place) B) B ≡ B
    go true = simp (lt-leb body_place (h.count - 8) (omega arith))
    go false = refl

late_body : (h : Head) (B : List ℕ) → 726 ≤ h.count → leave_body h B ≡ B
unfolding leave_body body_at
late_body h B l = simp (le-leb 8 h.count (omega arith), le-leb body_place (h.count - 8) (omega arith), le-ltb ((h.count - 8 - body_place) / 2) longest (omega arith))

-- within it two nibbles are a byte
body_high : (j u : ℕ) (B : List ℕ) → j < longest → body_at (6 + 2 * j) u B ≡ set B j (16 * u)
unfolding body_at
body_high j u B l =
    let e : (6 + 2 * j - body_place) / 2 ≡ j = omega arith in
    let f : (6 + 2 * j) % 2 ≡ 0 = omega arith in
    simp (le-leb body_place (6 + 2 * j) (omega arith), e, lt-ltb j longest l, f)

body_low : (j v : ℕ) (B : List ℕ) → j < longest → body_at (7 + 2 * j) v B ≡ set B j (get_or B j 0 / 16 * 16 + v)
unfolding body_at
body_low j v B l =
    let e : (7 + 2 * j - body_place) / 2 ≡ j = omega arith in
    let f : (7 + 2 * j) % 2 ≡ 1 = omega arith in
    simp (le-leb body_place (7 + 2 * j) (omega arith), e, lt-ltb j longest l, f)

body_two : (j u v : ℕ) (B : List ℕ) → j < longest → longest ≤ length B → body_at (7 + 2 * j) v (body_at (6 + 2 * j) u B) ≡ set B j (16 * u + v)
body_two j u v B l k =
    ap (body_at (7 + 2 * j) v) (body_high j u B l)
    ∙ body_low j v (set B j (16 * u)) l
    ∙ ap (λ (n : ℕ). set (set B j (16 * u)) j (n / 16 * 16 + v)) (get_or-set_same B j (16 * u) 0 (omega arith))
    ∙ set-set B j (16 * u) (16 * u / 16 * 16 + v)
    ∙ ap (set B j) (let z : 16 * u / 16 * 16 + v ≡ 16 * u + v = omega arith in z)

-- Where a pair leads.

module _ (p : Profile) (m : Mark) (c : ℕ) {w : ℕ} (t : Kept) (B : List ℕ) {s : List ℕ} {from end i : ℕ} (q : Turn s from end w i) where
  abbrev h₀ : Head
  h₀ = head p m c w t

  -- by what the count, what is kept and the body are then
  leads_to : (c' : ℕ) (t' : Kept) (B' : List ℕ) → bump (bump c) ≡ c' → leave_kept (shifted h₀ (high s i)) ≡ t' → leave_body (shifted h₀ (high s i)) (leave_body h₀ B) ≡ B'
      → Leads s h₀ B i (head p m c' (slide_byte w (high s i) (low s i)) t') B' (i + 2)
  unfolding Leads
  leads_to c' t' B' e f g =
      two_on h₀ B q
      ∙ ap₂ (λ n k. take_pairs (head p m n (slide (slide w (high s i)) (low s i)) k) (leave_body (shifted h₀ (high s i)) (leave_body h₀ B)) (drop (i + 2) s) (i + 2)) e f
      ∙ ap₂ (λ n b. take_pairs (head p m c' n t') b (drop (i + 2) s) (i + 2)) (slide_two w (high s i) (low s i) q.high_small q.low_small) g

  pub leads_before : c < 14 → c % 2 ≡ 0 → Leads s h₀ B i (head p m (c + 2) (slide_byte w (high s i) (low s i)) (byte_kept p c (w / byte_place) t)) B (i + 2)
  leads_before a even =
      let b = bump_one c (omega arith) in
      let d = bump_one (c + 1) (omega arith) in
      leads_to (c + 2) (byte_kept p c (w / byte_place) t) B
      (ap bump b ∙ d ∙ plus_two c) (kept_before p m w t (high s i) q.stands.small q.high_small c a even)
      (early_body (shifted h₀ (high s i)) (leave_body h₀ B) (omega (arith, b)) ∙ early_body h₀ B a)

  stored_two : (j : ℕ) → c ≡ 14 + 2 * j → j < longest → longest ≤ length B → bump c ≡ c + 1
      → leave_body (shifted h₀ (high s i)) (leave_body h₀ B) ≡ set B j (w / byte_place)
  unfolding leave_body
  stored_two j e a k b =
      simp (le-leb 8 c (omega arith), b, le-leb 8 (c + 1) (omega arith), next_top w (high s i) q.high_small)
      (ap₂ (λ (n k : ℕ). body_at n (w / byte_place % 16) (body_at k (w / top_place) B)) (let z : c + 1 - 8 ≡ 7 + 2 * j = omega arith in z) (let z : c - 8 ≡ 6 + 2 * j = omega arith in z)
      ∙ body_two j (w / top_place) (w / byte_place % 16) B a k
      ∙ ap (set B j) (let z : 16 * (w / top_place) + w / byte_place % 16 ≡ w / byte_place = omega arith in z))

  -- what is put into the body is the byte that leaves the window
  pub leads_in : (j v : ℕ) → c ≡ 14 + 2 * j → j < longest → longest ≤ length B → v ≡ w / byte_place
      → Leads s h₀ B i (head p m (14 + 2 * (j + 1)) (slide_byte w (high s i) (low s i)) (strayed t (stray_after t.stray (w / byte_place)))) (set B j v) (i + 2)
  leads_in j v e a k f =
      let b = bump_one c (omega arith) in
      let d = bump_one (c + 1) (omega arith) in
      leads_to (14 + 2 * (j + 1)) (strayed t (stray_after t.stray (w / byte_place))) (set B j v)
      (ap bump b ∙ d ∙ (let z : c + 1 + 1 ≡ 14 + 2 * (j + 1) = omega arith in z)) (kept_after_lem p m w t (high s i) q.stands.small q.high_small c (omega arith)) (stored_two j e a k b ∙ ap (set B j) (sym f))

  pub leads_past : 726 ≤ c
      → Leads s h₀ B i (head p m (bump (bump c)) (slide_byte w (high s i) (low s i)) (strayed t (stray_after t.stray (w / byte_place)))) B (i + 2)
  leads_past a =
      let b = bump_more c in
      leads_to (bump (bump c)) (strayed t (stray_after t.stray (w / byte_place))) B
      refl (kept_after_lem p m w t (high s i) q.stands.small q.high_small c (omega arith))
      (late_body (shifted h₀ (high s i)) (leave_body h₀ B) (omega arith) ∙ late_body h₀ B a)

-- from one place to the next, and on
pub leads_here : (s : List ℕ) (h : Head) (B : List ℕ) (i : ℕ) → Leads s h B i h B i
unfolding Leads
leads_here s h B i = refl

pub leads_on : (s : List ℕ) (h : Head) (B : List ℕ) (i : ℕ) (h' : Head) (B' : List ℕ) (i' : ℕ) (h'' : Head) (B'' : List ℕ) (i'' : ℕ)
    → Leads s h B i h' B' i' → Leads s h' B' i' h'' B'' i'' → Leads s h B i h'' B'' i''
unfolding Leads
leads_on s h B i h' B' i' h'' B'' i'' e f = e ∙ f

-- up to a place where no pair stands
pub leads_to_end : (s : List ℕ) (h : Head) (B : List ℕ) (i : ℕ) (h' : Head) (B' : List ℕ) (i' : ℕ)
    → Leads s h B i h' B' i' → is_pair h'.window s i' (length s) ≡ false → LeadsTo s h B i h' B' i'
unfolding Leads LeadsTo
leads_to_end s h B i h' B' i' e f = e ∙ none_there s h' B' i' f

pub nothing_ahead : (s : List ℕ) (h : Head) (B : List ℕ) (i : ℕ) → length s ≤ i → LeadsTo s h B i h B i
unfolding LeadsTo
nothing_ahead s h B i l = ap (λ (w : List ℕ). take_pairs h B w i) (drop_of_length-le s l)

pub led_to_lem : (s : List ℕ) (h : Head) (B : List ℕ) (i : ℕ) (h' : Head) (B' : List ℕ) (i' : ℕ) (h'' : Head) (B'' : List ℕ) (i'' : ℕ)
    → Leads s h B i h' B' i' → LeadsTo s h' B' i' h'' B'' i'' → LeadsTo s h B i h'' B'' i''
unfolding Leads LeadsTo
led_to_lem s h B i h' B' i' h'' B'' i'' e f = e ∙ f

-- A part of a text.

-- that does not begin here
not_here : (bound : ℕ) (s : List ℕ) (h : Head) (i : ℕ) → Through bound s h i → h.count < bound → is_pair h.window s i (length s) ≡ false
not_here bound s h i (inl a) l = absurd (omega (arith, a, l))
not_here bound s h i (inr e) l = e

-- where two inputs stand that are no pair, none stands up to a later end either
shorter : (s : List ℕ) (w end i : ℕ) → is_pair w s i end ≡ false → 2 ≤ end - i → end ≤ length s → is_pair w s i (length s) ≡ false
unfolding is_pair
shorter s w end i g b l =
    let z : are_pair w (high s i) (low s i) ≡ false = simp (le-leb 2 (end - i) b) at g in
    simp (le-leb 2 (length s - i) (omega arith), z)

-- whose loop ends: its end is the run's or the part's, whose nibbles are whole bytes
pub ended : {s : List ℕ} {from end w i : ℕ} {t : Bool} (bound count : ℕ) → Stands s from end w i → t ≡ is_pair w s i end → t ≡ false → bound % 2 ≡ count % 2
    → (end ≡ length s) ⊎ (end + count ≡ i + bound) → (bound ≤ count) ⊎ (is_pair w s i (length s) ≡ false)
ended {s} {w = w} {i} bound count st e f even (inl a) = inr (ap (is_pair w s i) (sym a) ∙ sym e ∙ f)
ended {s} {end = end} {w} {i} bound count st e f even (inr a) =
    ⊎_elim
    (λ (b : end - i < 2). inl (omega (arith, st.up_to)))
    (λ (b : 2 ≤ end - i). inr (shorter s w end i (sym e ∙ f) b st.within))
    (lt_or_ge (end - i) 2)

-- what it gives where it takes nothing, and where its loop ends
pub here : {bound : ℕ} (s : List ℕ) (h : Head) (B : List ℕ) (i : ℕ) → i ≤ length s → Through bound s h i → Reaches bound s h B i (record { head = h; at = i }) B
here s h B i l t = record { leads = leads_here s h B i; within = l; through = t }

pub reaches : {bound : ℕ} {s : List ℕ} {h : Head} {B : List ℕ} {from end w i : ℕ} {h' : Head} {B' : List ℕ} → Leads s h B from h' B' i → Stands s from end w i
    → Through bound s h' i → Reaches bound s h B from (record { head = h'; at = i }) B'
reaches e st t = record { leads = e; within = omega (arith, st.up_to, st.within); through = t }

-- where it stops before its end, no pair stands
pub reached_end : {bound : ℕ} {s : List ℕ} {h : Head} {B : List ℕ} {from : ℕ} {r : Reached} {B' : List ℕ} → Reaches bound s h B from r B' → r.head.count < bound
    → LeadsTo s h B from r.head B' r.at
reached_end {bound} {s} {h} {B} {from} {r} {B'} e l = leads_to_end s h B from r.head B' r.at e.leads (not_here bound s r.head r.at e.through l)

-- All of it.

module _ (s : List ℕ) (h : Head) (B : List ℕ) (from : ℕ) where
  pub wrong_body : (length B ≡ longest → ⊥) → ahead_of h B s from ≡ ahead_to h B from
  unfolding ahead_of
  wrong_body e = simp (ne_eqb (length B) longest e)

  pub odd_count : h.count < past_body → h.count % 2 ≡ 1 → ahead_of h B s from ≡ ahead_to h B from
  unfolding ahead_of
  odd_count l e = simp (lt-leb past_body h.count l, e) (both (eqb (length B) longest))
    where
      both : (b : Bool) → cond (b && false) (take_pairs h B (drop from s) from) (ahead_to h B from) ≡ ahead_to h B from
      both true = refl
      both false = refl

  pub past_it : {h' : Head} {B' : List ℕ} {i' : ℕ} → length B ≡ longest → past_body ≤ h.count → LeadsTo s h B from h' B' i' → ahead_of h B s from ≡ ahead_to h' B' i'
  unfolding ahead_of LeadsTo
  past_it e l f = simp (eq-eqb (length B) longest e, le-leb past_body h.count l) f

  pub even_count : {h' : Head} {B' : List ℕ} {i' : ℕ} → length B ≡ longest → h.count % 2 ≡ 0 → LeadsTo s h B from h' B' i' → ahead_of h B s from ≡ ahead_to h' B' i'
  unfolding ahead_of LeadsTo
  even_count e l f = simp (eq-eqb (length B) longest e, l, or_true) f

  -- whatever the count and the body
  pub wherever : LeadsTo s h B from h B from → ahead_of h B s from ≡ ahead_to h B from
  unfolding ahead_of LeadsTo
  wherever f = go (eqb (length B) longest && (leb past_body h.count || eqb (h.count % 2) 0))
    where
      go : (b : Bool) → cond b (take_pairs h B (drop from s) from) (ahead_to h B from) ≡ ahead_to h B from
      go true = f
      go false = refl

-- what the call then gives
pub gives_ahead : {t : TakenAhead} {r : Reached} {B : List ℕ} → t ≡ ahead_to r.head B r.at → AheadGives t r B
gives_ahead e =
    record {
      next = ap (λ (t : TakenAhead). t.head) (sym e);
      keeps = ap (λ (t : TakenAhead). t.body) (sym e);
      place = ap (λ (t : TakenAhead). t.at) (sym e);
    }
