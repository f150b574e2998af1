-- A nibble stored in a body leaves the body as long as it was.
use Rattle.std.specs.Prelude.{◌≡◌, refl, Bool, true, false, ◌&&◌, cond, List, ℕ, ◌+◌, ◌-◌, ◌*◌, ◌/◌, ◌%◌, eqb, leb, ltb, length, get_or, set}
use Rattle.std.proofs.Common.{length-set}
use Rattle.profile.specs.Profile.{longest}
use Rattle.mark_text.specs.MarkText.{body_place, body_at}

-- by whether the nibble is in the body, and whether it is a high one
abbrev pub body_by : Bool → Bool → ℕ → ℕ → List ℕ → List ℕ
body_by x y i v b = cond x (cond y (set b i (16 * v)) (set b i (get_or b i 0 / 16 * 16 + v))) b

pub length_body : (k v : ℕ) (b : List ℕ) → length (body_at k v b) ≡ length b
unfolding body_at
length_body k v b = go (leb body_place k && ltb i longest) (eqb (k % 2) 0)
  where
    i : ℕ
    i = (k - body_place) / 2

    go : (x y : Bool) → length (body_by x y i v b) ≡ length b
    go false y = refl
    go true true = length-set b i (16 * v)
    go true false = length-set b i (get_or b i 0 / 16 * 16 + v)
