-- Bits flipped in the nibbles of a line as written: what then stands there is the line with other code bytes, and how those are read.
use Rattle.std.specs.Prelude.{◌≡◌, refl, Bool, true, false, ◌||◌, ◌&&◌, cond, List, [], ◌∷◌, ◌++◌, ℕ, suc, ◌+◌, ◌-◌, ◌/◌, ◌%◌, ◌≤◌, ◌<◌, eqb, leb, ltb, length}
use Rattle.std.proofs.Common.{◌∙◌, ap, ap₂, sym, append_assoc, zero-add, arith, length-append, leb-true, eqb-true, ne_eqb}
use Rattle.std.proofs.Math.Option.{Option, none, some}
use Rattle.bits.specs.Bits.{flipped}
use Rattle.bits.specs.Every.{every, each, and_left, and_right}
use Rattle.bits.specs.Tests.{or_other}
use Rattle.line_code.specs.declared.Kind.TheVariants.{BL, BK, VL, SOF, EOF}
use Rattle.line_code.specs.declared.Meaning.{Meaning}
use Rattle.line_code.specs.declared.Meaning.TheVariants.{EndOfLine, Line, ReservedEC, ReservedF1}
use Rattle.line_code.specs.declared.Reading.{Reading}
use Rattle.line_code.specs.declared.Reading.TheVariants.{Says, Damaged}
use Rattle.line_code.specs.declared.Repair.{Repair}
use Rattle.line_code.specs.declared.Repair.TheVariants.{Clean, Bit}
use Rattle.line_code.specs.LineCode.{clean_byte, reading_of}
use Rattle.line_code.specs.LineCodeLaws.{clean_reading, one_flip, two_damaged}
use Rattle.line_number.specs.LineNumber.{number_byte}
use Rattle.profile.specs.declared.Profile.{Profile}
use Rattle.profile.specs.Layout.{rules}
use Rattle.profile.specs.LayoutLaws.{rules_length, fits_length}
use Rattle.stream.specs.Written.{Sent, Writable, mark_of, content, end_mark, tail, written}
use Rattle.stream.specs.NibblesLaws.{nibbles_length}
use Rattle.recovery.specs.ReadBack.{written_with}
use Rattle.recovery.specs.ReadBackLaws.{read_small}
use Rattle.flip_laws.specs.Flips.{Flips, no_bit, one_bit, two_bits, flip_nibble, flip_bit, flip_bits, end_code_place, Arrived, with_flips, repair_by}
use Rattle.flip_laws.specs.FlippedCodes.{flipped_code, start_code, ending_code}

-- Code bytes.

-- the reading of a code of which so much is repaired
abbrev pub reading_by : Meaning → Option Repair → Reading
reading_by m none = Damaged
reading_by m (some r) = Says m r

-- two flipped bits of a clean byte never make FF
abbrev not_ff : Meaning → ℕ → ℕ → Bool
not_ff m i j = eqb i j || leb (flipped (flipped (clean_byte m) i) j) 254

never_ff : (m : Meaning) → every (λ (i : ℕ). every (not_ff m i) 8) 8 ≡ true
unfolding clean_byte
never_ff EndOfLine = refl
never_ff (Line BL) = refl
never_ff (Line BK) = refl
never_ff (Line VL) = refl
never_ff (Line SOF) = refl
never_ff (Line EOF) = refl
never_ff ReservedEC = refl
never_ff ReservedF1 = refl

-- a clean byte with bits flipped is a byte other than FF, and is read as its meaning or as damaged
pub flipped_small : (m : Meaning) (f : Flips) → flipped_code f (clean_byte m) ≤ 254
flipped_small m no_bit = read_small (clean_byte m) Clean m (clean_reading m)
flipped_small m (one_bit i l) = read_small (flipped (clean_byte m) i) (Bit i) m (one_flip m i l)
flipped_small m (two_bits i j l k d) =
    leb-true _ 254 (or_other (eqb i j) _ (each (not_ff m i) 8 (each (λ (n : ℕ). every (not_ff m n) 8) 8 (never_ff m) i l) j k) (ne_eqb i j d))

pub flipped_reads : (m : Meaning) (f : Flips) → reading_of (flipped_code f (clean_byte m)) ≡ reading_by m (repair_by f)
flipped_reads m no_bit = clean_reading m
flipped_reads m (one_bit i l) = one_flip m i l
flipped_reads m (two_bits i j l k d) = two_damaged m i j l k d

-- Nibbles.

-- a bit of a byte is a bit of one of its nibbles
abbrev in_nibbles : ℕ → ℕ → Bool
in_nibbles b i =
    cond (ltb i 4) (eqb (b / 16) (flipped b i / 16) && eqb (flipped (b % 16) i) (flipped b i % 16))
    (eqb (flipped (b / 16) (i - 4)) (flipped b i / 16) && eqb (b % 16) (flipped b i % 16))

in_nibbles_lem : (b i : ℕ) → b < 256 → i < 8 → in_nibbles b i ≡ true
in_nibbles_lem b i h l = each (in_nibbles b) 8 (each (λ (n : ℕ). every (in_nibbles n) 8) 256 refl b h) i l

flip_byte : (b i : ℕ) (w : List ℕ) → b < 256 → i < 8 → flip_bit 0 i (b / 16 ∷ b % 16 ∷ w) ≡ flipped b i / 16 ∷ flipped b i % 16 ∷ w
flip_byte b i w h l = go (ltb i 4) (in_nibbles_lem b i h l)
  where
    both : (x y x₂ y₂ : ℕ) → (eqb x x₂ && eqb y y₂) ≡ true → x ∷ y ∷ w ≡ x₂ ∷ y₂ ∷ w
    both x y x₂ y₂ e = ap₂ (λ (u v : ℕ). u ∷ v ∷ w) (eqb-true x x₂ (and_left (eqb x x₂) (eqb y y₂) e)) (eqb-true y y₂ (and_right (eqb x x₂) (eqb y y₂) e))

    go : (c : Bool)
        → cond c (eqb (b / 16) (flipped b i / 16) && eqb (flipped (b % 16) i) (flipped b i % 16))
        (eqb (flipped (b / 16) (i - 4)) (flipped b i / 16) && eqb (b % 16) (flipped b i % 16))
        ≡ true
        → cond c (b / 16 ∷ flipped (b % 16) i ∷ w) (flipped (b / 16) (i - 4) ∷ b % 16 ∷ w) ≡ flipped b i / 16 ∷ flipped b i % 16 ∷ w
    go true e = both (b / 16) (flipped (b % 16) i) (flipped b i / 16) (flipped b i % 16) e
    go false e = both (flipped (b / 16) (i - 4)) (b % 16) (flipped b i / 16) (flipped b i % 16) e

-- a flip past a front leaves the front
nibble_past : (u v : List ℕ) (n i : ℕ) → flip_nibble (length u + n) i (u ++ v) ≡ u ++ flip_nibble n i v
nibble_past [] v n i = ap (λ (k : ℕ). flip_nibble k i v) (zero-add n)
nibble_past (x ∷ u) v n i =
    let e : suc (length u) + n ≡ suc (length u + n) = omega arith in
    ap (λ (k : ℕ). flip_nibble k i (x ∷ (u ++ v))) e ∙ ap {B = List ℕ} (λ l. x ∷ l) (nibble_past u v n i)

bit_past : (u v : List ℕ) (i : ℕ) → flip_bit (length u) i (u ++ v) ≡ u ++ flip_bit 0 i v
bit_past u v i = go (ltb i 4)
  where
    go : (c : Bool) → cond c (flip_nibble (length u + 1) i (u ++ v)) (flip_nibble (length u) (i - 4) (u ++ v)) ≡ u ++ cond c (flip_nibble 1 i v) (flip_nibble 0 (i - 4) v)
    go true = nibble_past u v 1 i
    go false = let e : length u ≡ length u + 0 = omega arith in ap (λ (k : ℕ). flip_nibble k (i - 4) (u ++ v)) e ∙ nibble_past u v 0 (i - 4)

-- a bit flipped in the two nibbles of a byte, wherever it stands
bit_flipped : (u : List ℕ) (b i : ℕ) (w : List ℕ) → b ≤ 254 → i < 8 → flip_bit (length u) i (u ++ (b / 16 ∷ b % 16 ∷ w)) ≡ u ++ (flipped b i / 16 ∷ flipped b i % 16 ∷ w)
bit_flipped u b i w h l = bit_past u (b / 16 ∷ b % 16 ∷ w) i ∙ ap (λ (v : List ℕ). u ++ v) (flip_byte b i w (omega arith) l)

code_flipped : (u : List ℕ) (m : Meaning) (f : Flips) (w : List ℕ)
    → flip_bits (length u) f (u ++ (clean_byte m / 16 ∷ clean_byte m % 16 ∷ w)) ≡ u ++ (flipped_code f (clean_byte m) / 16 ∷ flipped_code f (clean_byte m) % 16 ∷ w)
code_flipped u m no_bit w = refl
code_flipped u m (one_bit i l) w = bit_flipped u (clean_byte m) i w (flipped_small m no_bit) l
code_flipped u m (two_bits i j l k d) w =
    ap (flip_bit (length u) j) (bit_flipped u (clean_byte m) i w (flipped_small m no_bit) l) ∙ bit_flipped u (flipped (clean_byte m) i) j w (flipped_small m (one_bit i l)) k

-- Lines.

abbrev six_nibbles : List ℕ
six_nibbles = 15 ∷ 15 ∷ 15 ∷ 15 ∷ 0 ∷ 0 ∷ []

-- what stands before the end code
abbrev before_end : ℕ → Sent → List ℕ
before_end c s = mark_of c ++ (content s ++ six_nibbles)

before_end_lem : (p : Profile) (s : Sent) → Writable p s → (c : ℕ) → length (before_end c s) ≡ end_code_place p
before_end_lem p s g c =
    omega (
      arith,
      length-append (content s) six_nibbles,
      nibbles_length (number_byte (s.number / 64) ∷ number_byte (s.number % 64) ∷ s.body),
      fits_length (rules p s.kind) s.body g.body_fits,
      rules_length p s.kind,
    )

-- bits flipped in what was written of a line: the line with other code bytes
pub flips_are_codes : (p : Profile) (a : Arrived) → Writable p a.sent → with_flips p a (written a.sent) ≡ written_with (start_code a) (ending_code a) a.sent
flips_are_codes p a g =
    let s = a.sent in
    let c = start_code a in
    let e = clean_byte EndOfLine in
    let x = ending_code a in
    ap (flip_bits (end_code_place p) a.end)
    (code_flipped six_nibbles (Line s.kind) a.start (content s ++ (end_mark ++ tail s))
    ∙ ap (λ (w : List ℕ). mark_of c ++ w) (sym (append_assoc (content s) six_nibbles (e / 16 ∷ e % 16 ∷ tail s))))
    ∙ ap (λ (n : ℕ). flip_bits n a.end (before_end c s ++ (e / 16 ∷ e % 16 ∷ tail s))) (sym (before_end_lem p s g c))
    ∙ code_flipped (before_end c s) EndOfLine a.end (tail s)
    ∙ ap (λ (w : List ℕ). mark_of c ++ w) (append_assoc (content s) six_nibbles (x / 16 ∷ x % 16 ∷ tail s))
