-- Nibbles that begin with a mark, taken apart; and the bytes of a text at their places.
use Rattle.std.specs.Prelude.{◌≡◌, refl, Bool, true, false, cond, List, [], ◌∷◌, ◌++◌, ℕ, zero, suc, ◌+◌, ◌*◌, ◌<◌, eqb, length, drop, get_or, None}
use Rattle.std.proofs.Common.{◌∙◌, ap, ap₂, sym, true≢false, arith, not-suc-le-zero, le_of_suc-le-suc, get_or-drop}
use Rattle.std.proofs.Math.Option.{Option, none, some}
use Rattle.stream.specs.Stream.{strip}
use Rattle.stream.specs.TextLaws.{strip_found}
use Rattle.reason.specs.Explanation.{opener, code_after, code_at, is_code, begins_mark, pair_at, bytes_in}

-- Marks.

-- nibbles that begin with a mark, taken apart
pub record Begun (w : List ℕ) : Type 0 where
  pub high : ℕ
  pub low : ℕ
  pub rest : List ℕ
  pub is : w ≡ opener ++ (high ∷ low ∷ rest)

-- what stands after a pattern is shorter by the pattern
strip_rest : (ps u rest : List ℕ) → strip ps u ≡ some rest → length u ≡ length ps + length rest
strip_rest [] u rest h = let e : u ≡ rest = cc in ap length e ∙ omega arith
strip_rest (q ∷ ps) [] rest h = cc
strip_rest (q ∷ ps) (n ∷ u) rest h = go (eqb q n) h (strip_rest ps u rest)
  where
    go : (b : Bool) → cond b (strip ps u) none ≡ some rest → (strip ps u ≡ some rest → length u ≡ length ps + length rest)
        → length (n ∷ u) ≡ length (q ∷ ps) + length rest
    go true k f = let e = f k in omega arith
    go false k f = cc

pub code_short : (u : List ℕ) → length u < 8 → code_at u ≡ None
unfolding code_at
code_short u h = go (strip opener u) (strip_rest opener u)
  where
    go : (o : Option (List ℕ)) → ((rest : List ℕ) → o ≡ some rest → length u ≡ length opener + length rest) → code_after o ≡ None
    go none f = refl
    go (some []) f = refl
    go (some (x ∷ [])) f = refl
    go (some (x ∷ y ∷ w)) f = absurd (let e = f (x ∷ y ∷ w) refl in omega arith)

pub begun : (w : List ℕ) → begins_mark w ≡ true → Begun w
unfolding code_at
begun w h = go (strip opener w) refl h
  where
    go : (o : Option (List ℕ)) → strip opener w ≡ o → is_code (code_after o) ≡ true → Begun w
    go none e k = absurd (true≢false (sym k))
    go (some []) e k = absurd (true≢false (sym k))
    go (some (x ∷ [])) e k = absurd (true≢false (sym k))
    go (some (x ∷ y ∷ v)) e k = record { high = x; low = y; rest = v; is = strip_found opener w (x ∷ y ∷ v) e }

pub begun_begins : (w : List ℕ) → Begun w → begins_mark w ≡ true
unfolding code_at
begun_begins w g = ap begins_mark g.is

-- Bytes.

pub bytes_length : (t : List ℕ) (n : ℕ) → length t ≡ 2 * n → length (bytes_in t) ≡ n
bytes_length [] n h = omega arith
bytes_length (x ∷ []) zero h = omega arith
bytes_length (x ∷ []) (suc n) h = omega arith
bytes_length (x ∷ y ∷ t) zero h = omega arith
bytes_length (x ∷ y ∷ t) (suc n) h = ap suc (bytes_length t n (omega arith))

pub bytes_at : (t : List ℕ) (j : ℕ) → j < length (bytes_in t) → get_or (bytes_in t) j 0 ≡ pair_at t (2 * j)
bytes_at [] j h = absurd (not-suc-le-zero h)
bytes_at (x ∷ []) j h = absurd (not-suc-le-zero h)
bytes_at (x ∷ y ∷ t) zero h = refl
bytes_at (x ∷ y ∷ t) (suc j) h =
    bytes_at t j (le_of_suc-le-suc h)
    ∙ ap₂ (λ (a b : ℕ). 16 * get_or (x ∷ y ∷ t) a 0 + get_or (x ∷ y ∷ t) b 0)
    (let e : suc (suc (2 * j)) ≡ 2 * suc j = omega arith in e)
    (let e : suc (suc (2 * j + 1)) ≡ 2 * suc j + 1 = omega arith in e)

pub byte_drop : (k : ℕ) (t : List ℕ) (i : ℕ) → pair_at (drop k t) i ≡ pair_at t (k + i)
byte_drop k t i =
    ap₂ (λ (a b : ℕ). 16 * a + b) (get_or-drop k t i 0)
    (get_or-drop k t (i + 1) 0 ∙ ap (λ (n : ℕ). get_or t n 0) (let e : k + (i + 1) ≡ k + i + 1 = omega arith in e))

pub bytes_body : (t : List ℕ) (j : ℕ) → j < length (bytes_in (drop 6 t)) → get_or (bytes_in (drop 6 t)) j 0 ≡ pair_at t (6 + 2 * j)
bytes_body t j h = bytes_at (drop 6 t) j h ∙ byte_drop 6 t (2 * j)
