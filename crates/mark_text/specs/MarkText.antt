-- What the reader keeps of a mark's text: two bytes, one flag, and the body. Nibbles of a text are numbered from its code's first, 0.
use Rattle.std.specs.Prelude.{Bool, false, ◌&&◌, ◌||◌, not, cond, List, ℕ, ◌+◌, ◌-◌, ◌*◌, ◌/◌, ◌%◌, eqb, leb, ltb, set, get_or}
use Rattle.profile.specs.declared.Profile.{Profile}
use Rattle.profile.specs.Profile.{longest, gap_start}
use Rattle.mark_text.specs.declared.Kept.{Kept}

-- the place of a line's first body nibble: code and number stand before it
abbrev pub body_place : ℕ
body_place = 6

-- nothing kept yet
abbrev pub nothing_kept : Kept
nothing_kept = record { first = 0; second = 0; stray = false }

-- a byte with the nibble v of number k put in, if it is the byte of the nibbles from and from + 1
unfoldable pub byte_at : ℕ → ℕ → ℕ → ℕ → ℕ
byte_at from k v x = cond (eqb k from) (16 * v) (cond (eqb k (from + 1)) (x / 16 * 16 + v) x)

-- whether a nibble where a gap has nothing but F was another
unfoldable pub stray_at : Profile → ℕ → ℕ → Bool → Bool
stray_at p k v stray = stray || (leb (gap_start p) k && not (eqb v 15))

-- what is kept besides the body, with the nibble v of number k
unfoldable pub kept_at : Profile → ℕ → ℕ → Kept → Kept
kept_at p k v t = record { first = byte_at 2 k v t.first; second = byte_at 4 k v t.second; stray = stray_at p k v t.stray }

-- the body, with the nibble v of number k
unfoldable pub body_at : ℕ → ℕ → List ℕ → List ℕ
body_at k v b =
    let i : ℕ = (k - body_place) / 2 in
    cond (leb body_place k && ltb i longest) (cond (eqb (k % 2) 0) (set b i (16 * v)) (set b i (get_or b i 0 / 16 * 16 + v))) b
