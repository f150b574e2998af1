-- The window of the last eight nibbles, as a number: what leaves it, and that its test is the mark's.
use Rattle.std.specs.Prelude.{◌≡◌, refl, Bool, true, false, cond, List, [], ◌∷◌, ℕ, zero, suc, ◌+◌, ◌*◌, ◌/◌, ◌%◌, ◌<◌, eqb, length, take, drop, get_or}
use Rattle.std.proofs.Common.{◌∙◌, ap, sym, subst, true≢false, arith, eqb-true, ne_eqb, eq-eqb}
use Rattle.std.proofs.Math.Option.{Option, none, some}
use Rattle.std.proofs.lemmas.Bool.{eqb-false}
use Rattle.stream.specs.Stream.{group, strip, not_yet, mark, mark_if, detect}
use Rattle.stream.specs.Nibbles.{AllNibbles, and_nibble}
use Rattle.reader_head.specs.Head.{top_place, group_number, shows_mark, slide}
use Rattle.refinement.specs.Window.{num}

-- 16 ^ k
unfoldable pub pow : ℕ → ℕ
pow zero = 1
pow (suc k) = 16 * pow k

-- What leaves the window.

num_below : (k : ℕ) (t : List ℕ) → AllNibbles t → num (take k t) < pow k
unfolding pow
num_below zero t s = omega arith
num_below (suc k) [] s = omega (arith, num_below k [] s)
num_below (suc k) (n ∷ t) (and_nibble h s) = omega (arith, num_below k t s)

num_top : (k : ℕ) (t : List ℕ) → num (take (suc k) t) ≡ num (take k t) + pow k * get_or t k 0
unfolding pow
num_top zero [] = refl
num_top zero (n ∷ t) = omega arith
num_top (suc k) [] = omega arith
num_top (suc k) (n ∷ t) = omega (arith, num_top k t)

pow_seven : pow 7 ≡ top_place
unfolding pow
pow_seven = refl

-- a full window is its oldest nibble, then seven others
split_top : (t : List ℕ) → num (take 8 t) ≡ num (take 7 t) + top_place * get_or t 7 0
split_top t = rw (← pow_seven) (num_top 7 t)

seven_below : (t : List ℕ) → AllNibbles t → num (take 7 t) < top_place
seven_below t s = subst (λ (n : ℕ). num (take 7 t) < n) pow_seven (num_below 7 t s)

pub oldest : (t : List ℕ) → AllNibbles t → num (take 8 t) / top_place ≡ get_or t 7 0
oldest t s = go (num (take 8 t)) (num (take 7 t)) (get_or t 7 0) (split_top t) (seven_below t s)
  where
    go : (x y d : ℕ) → x ≡ y + top_place * d → y < top_place → x / top_place ≡ d
    go x y d e h = omega arith

newer : (t : List ℕ) → AllNibbles t → num (take 8 t) % top_place ≡ num (take 7 t)
newer t s = go (num (take 8 t)) (num (take 7 t)) (get_or t 7 0) (split_top t) (seven_below t s)
  where
    go : (x y d : ℕ) → x ≡ y + top_place * d → y < top_place → x % top_place ≡ y
    go x y d e h = omega arith

-- the window with one nibble more
pub slide_num : (t : List ℕ) → AllNibbles t → (n : ℕ) → slide (num (take 8 t)) n ≡ num (take 8 (n ∷ t))
unfolding slide
slide_num t s n = ap (λ (w : ℕ). w * 16 + n) (newer t s) ∙ (let z : num (take 7 t) * 16 + n ≡ n + 16 * num (take 7 t) = omega arith in z)

-- The window's test for a mark.

-- a pattern whose oldest digit is not 0: it stands at the newest end of a text exactly if as many newest digits of the text are its number
data Pattern : List ℕ → Type 0 where
  pattern_end : Pattern []
  pattern_more : (n : ℕ) (ps : List ℕ) → n < 16 → 0 < num (n ∷ ps) → Pattern ps → Pattern (n ∷ ps)

abbrev found : Bool → List ℕ → Option (List ℕ)
found b t = cond b (some t) none

strip_num : {ps : List ℕ} → Pattern ps → (t : List ℕ) → AllNibbles t
    → strip ps t ≡ found (eqb (num (take (length ps) t)) (num ps)) (drop (length ps) t)
strip_num pattern_end t s = refl
strip_num (pattern_more n ps h g q) [] s = ap (λ b. found b []) (sym (ne_eqb 0 (num (n ∷ ps)) (λ e. omega arith)))
strip_num (pattern_more n ps h g q) (a ∷ t) (and_nibble k s) = go (eqb n a) refl (strip_num q t s)
  where
    X : ℕ
    X = num (take (length ps) t)

    rest : List ℕ
    rest = drop (length ps) t

    go : (b : Bool) → eqb n a ≡ b → strip ps t ≡ found (eqb X (num ps)) rest
        → cond b (strip ps t) none ≡ found (eqb (a + 16 * X) (n + 16 * num ps)) rest
    go false e ih = ap (λ b. found b rest) (sym (ne_eqb (a + 16 * X) (n + 16 * num ps) (λ z. eqb-false n a e (omega arith))))
    go true e ih = ih ∙ ap (λ b. found b rest) (same (eqb X (num ps)) refl)
      where
        same : (b : Bool) → eqb X (num ps) ≡ b → b ≡ eqb (a + 16 * X) (n + 16 * num ps)
        same true f = let u = eqb-true n a e in let v = eqb-true X (num ps) f in sym (eq-eqb (a + 16 * X) (n + 16 * num ps) (omega arith))
        same false f =
            let u = eqb-true n a e in sym (ne_eqb (a + 16 * X) (n + 16 * num ps) (λ z. eqb-false X (num ps) f (omega arith)))

group_pattern : Pattern group
group_pattern =
    pattern_more 0 (0 ∷ 15 ∷ 15 ∷ 15 ∷ 15 ∷ []) (omega arith) (omega arith)
    (pattern_more 0 (15 ∷ 15 ∷ 15 ∷ 15 ∷ []) (omega arith) (omega arith)
    (pattern_more 15 (15 ∷ 15 ∷ 15 ∷ []) (omega arith) (omega arith)
    (pattern_more 15 (15 ∷ 15 ∷ []) (omega arith) (omega arith)
    (pattern_more 15 (15 ∷ []) (omega arith) (omega arith)
    (pattern_more 15 [] (omega arith) (omega arith) pattern_end)))))

six : (y x n : ℕ) → y < 16 → x < 16 → (y + 16 * (x + 16 * n)) / 256 ≡ n
six y x n hy hx = omega arith

code_of : (y x n : ℕ) → y < 16 → x < 16 → 16 * x + y ≡ (y + 16 * (x + 16 * n)) % 256
code_of y x n hy hx = omega arith

detect_num : (y x : ℕ) (u : List ℕ) → AllNibbles (y ∷ x ∷ u)
    → detect (y ∷ x ∷ u) ≡ mark_if x y (found (shows_mark (num (take 8 (y ∷ x ∷ u)))) (drop 6 u))
unfolding shows_mark
detect_num y x u (and_nibble hy (and_nibble hx s)) =
    ap (mark_if x y) (strip_num group_pattern u s ∙ ap (λ (n : ℕ). found (eqb n group_number) (drop 6 u)) (sym (six y x (num (take 6 u)) hy hx)))

-- the newest nibble completes no mark
pub no_mark_yet : (t : List ℕ) → AllNibbles t → shows_mark (num (take 8 t)) ≡ false → detect t ≡ not_yet
no_mark_yet [] s e = refl
no_mark_yet (y ∷ []) s e = refl
no_mark_yet (y ∷ x ∷ u) s e = detect_num y x u s ∙ ap (λ b. mark_if x y (found b (drop 6 u))) e

-- the newest nibble completes a mark: its code is the newest byte of the window, and its text is what the window has let go
pub record Complete (t : List ℕ) : Type 0 where
  pub high : ℕ
  pub low : ℕ
  pub high_small : high < 16
  pub low_small : low < 16
  pub is_mark : detect t ≡ mark high low (drop 8 t)
  pub is_code : 16 * high + low ≡ num (take 8 t) % 256

pub complete : (t : List ℕ) → AllNibbles t → shows_mark (num (take 8 t)) ≡ true → Complete t
unfolding shows_mark
complete [] s e = absurd (true≢false (sym e))
complete (y ∷ []) (and_nibble h s) e = absurd (true≢false (sym e ∙ ne_eqb ((y + 16 * 0) / 256) group_number (λ z. omega arith)))
complete (y ∷ x ∷ u) (and_nibble hy (and_nibble hx s)) e =
    record {
      high = x;
      low = y;
      high_small = hx;
      low_small = hy;
      is_mark = detect_num y x u (and_nibble hy (and_nibble hx s)) ∙ ap (λ b. mark_if x y (found b (drop 6 u))) e;
      is_code = code_of y x (num (take 6 u)) hy hx;
    }
