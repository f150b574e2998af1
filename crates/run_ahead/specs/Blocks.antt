-- What the contracts of the private functions cite of blocks: many pairs that are taken at once.
use Rattle.std.specs.Prelude.{◌≡◌, Bool, true, List, ◌⊎◌, ℕ, zero, suc, ◌+◌, ◌-◌, ◌*◌, ◌≤◌, ◌<◌, get_or, set}
use Rattle.reader_head.specs.Head.{bump}

-- the n inputs from the place k on are nibbles
abbrev pub NibblesFrom : List ℕ → ℕ → ℕ → Type 0
NibblesFrom s k n = (x : ℕ) → k ≤ x → x < k + n → get_or s x 0 < 16

-- the window of the eight nibbles at the place k is as far as this from one that a mark may follow, with F at k + 2, k + 3 and k + 4, and 0 at k + 6
abbrev pub Apart : ℕ → List ℕ → ℕ → Type 0
Apart r s k = get_or s (k + 2) 0 + get_or s (k + 3) 0 + get_or s (k + 4) 0 + r ≤ 45 + get_or s (k + 6) 0

-- behind eight nibbles at the place k stand n in which no mark can end; and the n that leave the window meanwhile make nothing stray that was not
pub record Far (stray : Bool) (s : List ℕ) (k n : ℕ) : Type 0 where
  pub small : NibblesFrom s k (n + 8)
  pub apart : (x : ℕ) → k ≤ x → x < k + n → Apart 1 s x
  pub same : (stray ≡ true) ⊎ ((x : ℕ) → k ≤ x → x < k + n → 15 ≤ get_or s x 0)

-- the eight nibbles from a place on, as a window
abbrev pub window_from : List ℕ → ℕ → ℕ
window_from s k =
    268435456 * get_or s k 0 + 16777216 * get_or s (k + 1) 0 + 1048576 * get_or s (k + 2) 0 + 65536 * get_or s (k + 3) 0
    + 4096 * get_or s (k + 4) 0 + 256 * get_or s (k + 5) 0 + 16 * get_or s (k + 6) 0 + get_or s (k + 7) 0

-- n such pairs stand at a place, up to an end, behind the eight nibbles that the window shows
pub record FarOn (w : ℕ) (stray : Bool) (s : List ℕ) (from end n : ℕ) : Type 0 where
  pub behind : 8 ≤ from
  pub up_to : from + 2 * n ≤ end
  pub shown : w ≡ window_from s (from - 8)
  pub far : Far stray s (from - 8) (2 * n)

-- the byte of the two nibbles at a place
abbrev pub byte_from : List ℕ → ℕ → ℕ
byte_from s i = 16 * get_or s i 0 + get_or s (i + 1) 0

-- a body with n bytes from the place i on, put there from its place j on
abbrev pub packed_into : List ℕ → ℕ → List ℕ → ℕ → ℕ → List ℕ
packed_into B j s i zero = B
packed_into B j s i (suc n) = set (packed_into B j s i n) (j + n) (byte_from s (i + 2 * n))

-- the count of a text's nibbles with so many pairs more
abbrev pub later_count : ℕ → ℕ → ℕ
later_count zero c = c
later_count (suc n) c = bump (bump (later_count n c))
