-- Laws of line codes: which bytes are clean, which are repaired to which, how many of each; and demand 2's flipped bits.
-- Each is one test, computed at all 256 bytes or at all flips of the eight clean ones, and a law that gives the rule at each.
use Rattle.std.specs.Prelude.{◌≡◌, refl, Bool, true, false, ◌||◌, not, ℕ, ◌+◌, ◌*◌, ◌/◌, ◌%◌, ◌<◌, ◌≤◌, eqb, ltb, None}
use Rattle.std.proofs.Common.{sym, ap, subst, ◌∙◌, true≢false, arith, eqb-true, eq-eqb, ne_eqb, lt-ltb, ltb-true, ltb-false}
use Rattle.std.specs.Bool.{beq}
use Rattle.std.proofs.lemmas.Bool.{not-true}
use Rattle.bits.specs.Bits.{flipped}
use Rattle.bits.specs.Every.{every, each, count}
use Rattle.bits.specs.Tests.{or_other}
use Rattle.line_code.specs.declared.Kind.{Kind}
use Rattle.line_code.specs.declared.Kind.TheVariants.{BL, BK, VL, SOF, EOF}
use Rattle.line_code.specs.declared.Meaning.{Meaning}
use Rattle.line_code.specs.declared.Meaning.TheVariants.{EndOfLine, Line, ReservedEC, ReservedF1}
use Rattle.line_code.specs.declared.Repair.{Repair}
use Rattle.line_code.specs.declared.Repair.TheVariants.{Clean, Bit}
use Rattle.line_code.specs.declared.Reading.{Reading}
use Rattle.line_code.specs.declared.Reading.TheVariants.{Says, Damaged}
use Rattle.line_code.specs.LineCode.{kind_number, kind_numbered, code_of, reserved_of, meaning_of, clean_byte, reading_of, repair_number, repair_numbered, reading_number, reading_numbered, kind_of, is_end, is_clean, is_repaired, is_damaged}

-- The code of a meaning.

pub meaning_code : (m : Meaning) → meaning_of (code_of m) ≡ m
unfolding meaning_of kind_numbered reserved_of
meaning_code EndOfLine = refl
meaning_code (Line BL) = refl
meaning_code (Line BK) = refl
meaning_code (Line VL) = refl
meaning_code (Line SOF) = refl
meaning_code (Line EOF) = refl
meaning_code ReservedEC = refl
meaning_code ReservedF1 = refl

kind_small : (k : Kind) → kind_number k < 8
kind_small BL = omega arith
kind_small BK = omega arith
kind_small VL = omega arith
kind_small SOF = omega arith
kind_small EOF = omega arith

code_small : (m : Meaning) → code_of m < 8
code_small EndOfLine = omega arith
code_small (Line k) = kind_small k
code_small ReservedEC = omega arith
code_small ReservedF1 = omega arith

-- a test at all meanings
abbrev at_all : (Meaning → Bool) → Bool
at_all f = every (λ (c : ℕ). f (meaning_of c)) 8

at_each : (f : Meaning → Bool) → at_all f ≡ true → (m : Meaning) → f m ≡ true
at_each f h m = subst (λ (x : Meaning). f x ≡ true) (meaning_code m) (each (λ (c : ℕ). f (meaning_of c)) 8 h (code_of m) (code_small m))

-- Two readings are compared by their numbers.

repair_back : (r : Repair) → repair_numbered (repair_number r) ≡ r
unfolding repair_numbered
repair_back Clean = refl
repair_back (Bit i) = simp (ne_eqb (i + 1) 0 (λ e. omega arith)) (ap Bit (omega arith))

pub number_back : (r : Reading) → reading_numbered (reading_number r) ≡ r
unfolding reading_numbered
number_back (Says m r) =
    let s = code_small m in
    let q : (16 * repair_number r + code_of m) / 16 ≡ repair_number r = omega arith in
    let c : (16 * repair_number r + code_of m) % 16 ≡ code_of m = omega arith in
    simp (c, q, lt-ltb (code_of m) 8 s, meaning_code m, repair_back r)
number_back Damaged = refl

-- two readings are one
abbrev pub same : Reading → Reading → Bool
same r s = eqb (reading_number r) (reading_number s)

pub same_eq : (r s : Reading) → same r s ≡ true → r ≡ s
same_eq r s h = sym (number_back r) ∙ ap reading_numbered (eqb-true (reading_number r) (reading_number s) h) ∙ number_back s

pub eq_same : (r s : Reading) → r ≡ s → same r s ≡ true
eq_same r s e = eq-eqb (reading_number r) (reading_number s) (ap reading_number e)

agree : (x y : Bool) → beq x y ≡ true → x ≡ y
agree true true h = refl
agree true false h = absurd (true≢false (sym h))
agree false true h = absurd (true≢false (sym h))
agree false false h = refl

-- Clean and repaired bytes.

-- 01's table
pub clean_table : (clean_byte EndOfLine ≡ 0x80)
    × (clean_byte (Line BL) ≡ 0x9D)
    × (clean_byte (Line BK) ≡ 0xAB)
    × (clean_byte (Line VL) ≡ 0xB6)
    × (clean_byte (Line SOF) ≡ 0xC7)
    × (clean_byte (Line EOF) ≡ 0xDA)
    × (clean_byte ReservedEC ≡ 0xEC)
    × (clean_byte ReservedF1 ≡ 0xF1)
unfolding clean_byte
clean_table = (refl, refl, refl, refl, refl, refl, refl, refl)

abbrev clean_test : ℕ → Meaning → Bool
clean_test b m = beq (same (reading_of b) (Says m Clean)) (eqb b (clean_byte m))

clean_test_lem : (b : ℕ) (m : Meaning) → b < 256 → same (reading_of b) (Says m Clean) ≡ eqb b (clean_byte m)
unfolding clean_byte reading_of meaning_of kind_numbered reserved_of
clean_test_lem b m h =
    agree (same (reading_of b) (Says m Clean)) (eqb b (clean_byte m))
    (at_each (clean_test b) (each (λ (n : ℕ). at_all (clean_test n)) 256 refl b h) m)

-- a byte reads clean with a meaning exactly if it is that meaning's clean byte
pub clean_is : (b : ℕ) (m : Meaning) → b < 256 → reading_of b ≡ Says m Clean → b ≡ clean_byte m
clean_is b m h e = eqb-true b (clean_byte m) (sym (clean_test_lem b m h) ∙ eq_same (reading_of b) (Says m Clean) e)

clean_small : (m : Meaning) → ltb (clean_byte m) 256 ≡ true
unfolding clean_byte meaning_of kind_numbered reserved_of
clean_small = at_each (λ (m : Meaning). ltb (clean_byte m) 256) refl

pub clean_reading : (m : Meaning) → reading_of (clean_byte m) ≡ Says m Clean
clean_reading m =
    same_eq (reading_of (clean_byte m)) (Says m Clean)
    (clean_test_lem (clean_byte m) m (ltb-true (clean_byte m) 256 (clean_small m)) ∙ eq-eqb (clean_byte m) (clean_byte m) refl)

abbrev repaired_test : ℕ → Meaning → ℕ → Bool
repaired_test b m i = beq (same (reading_of b) (Says m (Bit i))) (eqb b (flipped (clean_byte m) i))

repaired_test_lem : (b : ℕ) (m : Meaning) (i : ℕ) → b < 256 → i < 8 → same (reading_of b) (Says m (Bit i)) ≡ eqb b (flipped (clean_byte m) i)
unfolding clean_byte reading_of meaning_of kind_numbered reserved_of
repaired_test_lem b m i h g =
    agree (same (reading_of b) (Says m (Bit i))) (eqb b (flipped (clean_byte m) i))
    (each (repaired_test b m) 8 (at_each (λ (x : Meaning). every (repaired_test b x) 8) (each (λ (n : ℕ). at_all (λ (x : Meaning). every (repaired_test n x) 8)) 256 refl b h) m) i g)

-- a bit that is named is one of the eight
abbrev bit_named : Reading → Bool
bit_named (Says m Clean) = true
bit_named (Says m (Bit i)) = ltb i 8
bit_named Damaged = true

bit_named_lem : (b : ℕ) (m : Meaning) (i : ℕ) → b < 256 → reading_of b ≡ Says m (Bit i) → i < 8
unfolding reading_of meaning_of kind_numbered reserved_of
bit_named_lem b m i h e = ltb-true i 8 (sym (ap bit_named e) ∙ each (λ (n : ℕ). bit_named (reading_of n)) 256 refl b h)

-- a byte is repaired to a clean byte exactly if it differs from it in one of its eight bits, and that is the bit named
pub repaired_is : (b : ℕ) (m : Meaning) (i : ℕ) → b < 256 → reading_of b ≡ Says m (Bit i) → (i < 8) × (b ≡ flipped (clean_byte m) i)
repaired_is b m i h e =
    let g = bit_named_lem b m i h e in
    (g, eqb-true b (flipped (clean_byte m) i) (sym (repaired_test_lem b m i h g) ∙ eq_same (reading_of b) (Says m (Bit i)) e))

pub repaired_reading : (b : ℕ) (m : Meaning) (i : ℕ) → b < 256 → i < 8 → b ≡ flipped (clean_byte m) i → reading_of b ≡ Says m (Bit i)
repaired_reading b m i h g e = same_eq (reading_of b) (Says m (Bit i)) (repaired_test_lem b m i h g ∙ eq-eqb b (flipped (clean_byte m) i) e)

-- of 256 there are 8 clean, 64 repaired, 184 damaged
pub counts : (count (λ b. is_clean (reading_of b)) 256 ≡ 8) × (count (λ b. is_repaired (reading_of b)) 256 ≡ 64) × (count (λ b. is_damaged (reading_of b)) 256 ≡ 184)
unfolding reading_of meaning_of kind_numbered reserved_of
counts = (refl, refl, refl)

-- Demand 2: flipped bits.

abbrev mended : Meaning → ℕ → Bool
mended m i = same (reading_of (flipped (clean_byte m) i)) (Says m (Bit i))

-- any one of the eight bits of a clean byte flipped is read as the same meaning, that bit repaired
pub one_flip : (m : Meaning) (i : ℕ) → i < 8 → reading_of (flipped (clean_byte m) i) ≡ Says m (Bit i)
unfolding clean_byte reading_of meaning_of kind_numbered reserved_of
one_flip m i h =
    same_eq (reading_of (flipped (clean_byte m) i)) (Says m (Bit i))
    (each (mended m) 8 (at_each (λ (x : Meaning). every (mended x) 8) refl m) i h)

damaged_is : (r : Reading) → is_damaged r ≡ true → r ≡ Damaged
damaged_is (Says m r) h = absurd (true≢false (sym h))
damaged_is Damaged h = refl

-- the byte with two of its bits flipped is damaged
abbrev apart : Meaning → ℕ → ℕ → Bool
apart m i j = eqb i j || is_damaged (reading_of (flipped (flipped (clean_byte m) i) j))

-- any two different bits among the eight of a clean byte flipped are damage
pub two_damaged : (m : Meaning) (i j : ℕ) → i < 8 → j < 8 → (i ≡ j → ⊥) → reading_of (flipped (flipped (clean_byte m) i) j) ≡ Damaged
unfolding clean_byte reading_of meaning_of kind_numbered reserved_of
two_damaged m i j h g d =
    damaged_is (reading_of (flipped (flipped (clean_byte m) i) j))
    (or_other (eqb i j) _
    (each (apart m i) 8 (each (λ (n : ℕ). every (apart m n) 8) 8 (at_each (λ (x : Meaning). every (λ (n : ℕ). every (apart x n) 8) 8) refl m) i h) j g)
    (ne_eqb i j d))

-- so they are never read as a line kind
pub two_flips : (m : Meaning) (i j : ℕ) → i < 8 → j < 8 → (i ≡ j → ⊥) → kind_of (reading_of (flipped (flipped (clean_byte m) i) j)) ≡ None
two_flips m i j h g d = ap kind_of (two_damaged m i j h g d)

-- Codes that end in F.

-- a number that is no byte is damaged: a flipped bit leaves it none
pub damaged_far : (b : ℕ) → 256 ≤ b → reading_of b ≡ Damaged
unfolding reading_of
damaged_far b h =
    simp (
      ne_eqb (b / 128) 1 (λ e. omega arith),
      ne_eqb (flipped b 0 / 128) 1 (λ e. omega arith),
      ne_eqb (flipped b 1 / 128) 1 (λ e. omega arith),
      ne_eqb (flipped b 2 / 128) 1 (λ e. omega arith),
      ne_eqb (flipped b 3 / 128) 1 (λ e. omega arith),
      ne_eqb (flipped b 4 / 128) 1 (λ e. omega arith),
      ne_eqb (flipped b 5 / 128) 1 (λ e. omega arith),
      ne_eqb (flipped b 6 / 128) 1 (λ e. omega arith),
      ne_eqb (flipped b 7 / 128) 1 (λ e. omega arith),
    )

-- a byte that ends in F is no end of line: so a code that lies on the next mark's F never is
pub no_end_f : (b : ℕ) → b % 16 ≡ 15 → is_end (reading_of b) ≡ false
unfolding reading_of meaning_of kind_numbered reserved_of
no_end_f b e = go (ltb b 256) refl
  where
    go : (x : Bool) → ltb b 256 ≡ x → is_end (reading_of b) ≡ false
    go true h =
        not-true (is_end (reading_of b))
        (or_other (not (eqb (b % 16) 15)) _ (each (λ (n : ℕ). not (eqb (n % 16) 15) || not (is_end (reading_of n))) 256 refl b (ltb-true b 256 h)) (ap not (eq-eqb (b % 16) 15 e)))
    go false h = ap is_end (damaged_far b (ltb-false b 256 h))
