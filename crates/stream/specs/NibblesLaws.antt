-- Laws of nibbles: put together, and some of them, they stay nibbles; bytes as nibbles are twice as many, and go piece by piece.
use Rattle.std.specs.Prelude.{◌≡◌, refl, true, List, [], ◌∷◌, ◌++◌, ℕ, zero, suc, ◌*◌, ◌/◌, ◌%◌, leb, length, take, drop}
use Rattle.std.proofs.Common.{ap, arith, leb-true}
use Rattle.bits.specs.Every.{and_left, and_right}
use Rattle.stream.specs.Nibbles.{AllNibbles, no_nibble, and_nibble, nibbles_only}
use Rattle.stream.specs.Written.{nibbles}

-- Each is a nibble.

pub all_nibbles_append : {v w : List ℕ} → AllNibbles v → AllNibbles w → AllNibbles (v ++ w)
all_nibbles_append no_nibble q = q
all_nibbles_append (and_nibble h p) q = and_nibble h (all_nibbles_append p q)

pub all_nibbles_take : {w : List ℕ} → AllNibbles w → (i : ℕ) → AllNibbles (take i w)
all_nibbles_take q zero = no_nibble
all_nibbles_take no_nibble (suc i) = no_nibble
all_nibbles_take (and_nibble h q) (suc i) = and_nibble h (all_nibbles_take q i)

pub all_nibbles_drop : {w : List ℕ} → AllNibbles w → (i : ℕ) → AllNibbles (drop i w)
all_nibbles_drop q zero = q
all_nibbles_drop no_nibble (suc i) = no_nibble
all_nibbles_drop (and_nibble h q) (suc i) = all_nibbles_drop q i

-- as the test says
pub only_nibbles : (w : List ℕ) → nibbles_only w ≡ true → AllNibbles w
only_nibbles [] h = no_nibble
only_nibbles (n ∷ w) h =
    let k = leb-true n 15 (and_left (leb n 15) (nibbles_only w) h) in
    and_nibble {n = n} (omega arith) (only_nibbles w (and_right (leb n 15) (nibbles_only w) h))

-- Bytes as nibbles.

pub nibbles_length : (bs : List ℕ) → length (nibbles bs) ≡ 2 * length bs
nibbles_length [] = refl
nibbles_length (b ∷ bs) = omega (arith, nibbles_length bs)

pub nibbles_append : (bs cs : List ℕ) → nibbles (bs ++ cs) ≡ nibbles bs ++ nibbles cs
nibbles_append [] cs = refl
nibbles_append (b ∷ bs) cs = ap (λ (w : List ℕ). b / 16 ∷ b % 16 ∷ w) (nibbles_append bs cs)
