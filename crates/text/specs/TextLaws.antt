-- The digits of a number one at a time, from the last, and how many they can be.
use Rattle.std.specs.Prelude.{◌≡◌, refl, Bool, true, false, cond, ◌&&◌, List, [], ◌∷◌, ◌++◌, ℕ, zero, suc, ◌-◌, ◌/◌, ◌%◌, ◌<◌, ◌≤◌, ltb, leb, length, drop, set}
use Rattle.std.proofs.Common.{sym, ap, subst, ◌∙◌, true≢false, append_assoc, arith, length-append, length-set, drop-cons, get_or-set_same, drop-set-lt, lt-ltb, le-ltb, ltb-true, leb-true, leb-false}
use Rattle.text.specs.Text.{digit, digits, decimal}
use Rattle.text.specs.Parts.{is_more}

-- From the last digit on: the digits that are left to put, then those that were put behind a place.

both : (a b : Bool) → (a && b) ≡ true → (a ≡ true) × (b ≡ true)
both true b h = (refl, h)
both false b h = absurd (true≢false (sym h))

second : (a b : Bool) → a ≡ true → (a && b) ≡ false → b ≡ false
second true b e h = h
second false b e h = absurd (true≢false (sym e))

drop_set : (d : List ℕ) (i x : ℕ) → i < length d → drop i (set d i x) ≡ x ∷ drop (suc i) d
drop_set d i x h =
    let l = length-set d i x in
    drop-cons (set d i x) i 0 (omega (arith, l))
    ∙ ap (λ (y : ℕ). y ∷ drop (suc i) (set d i x)) (get_or-set_same d i x 0 h)
    ∙ ap (λ (r : List ℕ). x ∷ r) (drop-set-lt (suc i) d i x (omega arith))

more_digits : (k n : ℕ) → is_more k n ≡ true → digits k n ≡ digits (k - 1) (n / 10) ++ (digit (n % 10) ∷ [])
more_digits zero n m = absurd (true≢false (sym m))
more_digits (suc k) n m =
    let e : suc k - 1 ≡ k = omega arith in
    simp (le-ltb n 10 (leb-true 10 n (both (ltb 1 (suc k)) (leb 10 n) m).1), e)

single : (k n : ℕ) → n < 10 → digits (suc k) n ≡ digit (n % 10) ∷ []
single k n h =
    let s : n % 10 ≡ n = omega (arith, h) in
    simp (lt-ltb n 10 h, s)

one_left : (k n : ℕ) → 0 < k → is_more k n ≡ false → digits k n ≡ digit (n % 10) ∷ []
one_left zero n h m = absurd (omega (arith, h))
one_left (suc zero) n h m = go (ltb n 10) refl
  where
    go : (b : Bool) → ltb n 10 ≡ b → digits 1 n ≡ digit (n % 10) ∷ []
    go true e = single 0 n (ltb-true n 10 e)
    go false e = simp e
one_left (suc (suc k)) n h m = single (suc k) n (leb-false 10 n (second (ltb 1 (suc (suc k))) (leb 10 n) (lt-ltb 1 (suc (suc k)) (omega arith)) m))

pub more_places : (k n : ℕ) → is_more k n ≡ true → 1 < k
more_places k n m = ltb-true 1 k (both (ltb 1 k) (leb 10 n) m).0

-- one digit more is put
pub digit_put :
    (k n : ℕ) (d t : List ℕ)
    → is_more k n ≡ true → k ≤ length d → digits k n ++ drop k d ≡ t
    → digits (k - 1) (n / 10) ++ drop (k - 1) (set d (k - 1) (digit (n % 10))) ≡ t
digit_put k n d t m h e =
    let g = more_places k n m in
    let s : suc (k - 1) ≡ k = omega (arith, g) in
    let put : drop (k - 1) (set d (k - 1) (digit (n % 10))) ≡ digit (n % 10) ∷ drop k d =
    subst (λ (j : ℕ). drop (k - 1) (set d (k - 1) (digit (n % 10))) ≡ digit (n % 10) ∷ drop j d) s (drop_set d (k - 1) (digit (n % 10)) (omega (arith, g))) in
    ap (λ (r : List ℕ). digits (k - 1) (n / 10) ++ r) put
    ∙ sym (append_assoc (digits (k - 1) (n / 10)) (digit (n % 10) ∷ []) (drop k d))
    ∙ ap (λ (r : List ℕ). r ++ drop k d) (sym (more_digits k n m))
    ∙ e

-- the last one is put
pub last_put :
    (k n : ℕ) (d t : List ℕ)
    → is_more k n ≡ false → 0 < k → k ≤ length d → digits k n ++ drop k d ≡ t
    → drop (k - 1) (set d (k - 1) (digit (n % 10))) ≡ t
last_put k n d t m g h e =
    let s : suc (k - 1) ≡ k = omega (arith, g) in
    subst (λ (j : ℕ). drop (k - 1) (set d (k - 1) (digit (n % 10))) ≡ digit (n % 10) ∷ drop j d) s (drop_set d (k - 1) (digit (n % 10)) (omega (arith, g)))
    ∙ ap (λ (r : List ℕ). r ++ drop k d) (sym (one_left k n g m))
    ∙ e

-- How many digits.

-- one more than of a tenth, or one alone
digits_step : (k n : ℕ) → length (digits (suc k) n) ≤ suc (length (digits k (n / 10)))
digits_step k n = either (ltb n 10)
  where
    either : (b : Bool) → length (cond b (digit n ∷ []) (digits k (n / 10) ++ (digit (n % 10) ∷ []))) ≤ suc (length (digits k (n / 10)))
    either true = omega arith
    either false = simp length-append (omega arith)

digits_short : (k n : ℕ) → length (digits k n) ≤ k
digits_short zero n = omega arith
digits_short (suc k) n = omega (arith, digits_step k n, digits_short k (n / 10))

pub decimal_short : (n : ℕ) → length (decimal n) ≤ 20
unfolding decimal
decimal_short n = digits_short 20 n

one_digit : (n : ℕ) → n < 10 → length (digits 18 n) ≤ 1
one_digit n h = simp (lt-ltb n 10 h) (omega arith)

-- a number below 1,000
pub three_digits_lem : (n : ℕ) → n < 1000 → length (decimal n) ≤ 3
unfolding decimal
three_digits_lem n h = omega (arith, digits_step 19 n, digits_step 18 (n / 10), one_digit (n / 10 / 10) (omega arith))
