-- What the contracts of the private functions cite besides.
use Rattle.std.specs.Prelude.{◌≡◌, Bool, true, false, ◌&&◌, cond, List, ◌⊎◌, ℕ, ◌+◌, ◌-◌, ◌*◌, ◌%◌, ◌≤◌, ◌<◌, eqb, leb, ltb, length, drop, get_or}
use Rattle.profile.specs.declared.Profile.{Profile}
use Rattle.profile.specs.declared.Profile.TheVariants.{VV5404, VV5300}
use Rattle.mark_text.specs.declared.Kept.{Kept}
use Rattle.reader_head.specs.declared.Head.{Head}
use Rattle.run_ahead.specs.declared.Reached.{Reached}
use Rattle.run_ahead.specs.Ahead.{are_pair, take_pairs, ahead_to, past_body, ahead_of}

-- two nibbles stand at the place i, before the end, and no mark can end in them
unfoldable pub is_pair : ℕ → List ℕ → ℕ → ℕ → Bool
is_pair w s i end = leb 2 (end - i) && are_pair w (get_or s i 0) (get_or s (i + 1) 0)

-- the pairs from the place i on, and from the place i' with what is read up to there, lead to the same place
unfoldable pub Leads : List ℕ → Head → List ℕ → ℕ → Head → List ℕ → ℕ → Type 0
Leads s h body i h' body' i' = take_pairs h body (drop i s) i ≡ take_pairs h' body' (drop i' s) i'

-- the pairs from the place i on lead to the place i'
unfoldable pub LeadsTo : List ℕ → Head → List ℕ → ℕ → Head → List ℕ → ℕ → Type 0
LeadsTo s h body i h' body' i' = take_pairs h body (drop i s) i ≡ ahead_to h' body' i'

-- the count is as far as this, or no pair stands at the place
abbrev pub Through : ℕ → List ℕ → Head → ℕ → Type 0
Through bound s h i = (bound ≤ h.count) ⊎ (is_pair h.window s i (length s) ≡ false)

-- what one part of a text gives, up to such a count: it leads on to a place within the run, and is through
pub record Reaches (bound : ℕ) (s : List ℕ) (h : Head) (body : List ℕ) (from : ℕ) (r : Reached) (body' : List ℕ) : Type 0 where
  pub leads : Leads s h body from r.head body' r.at
  pub within : r.at ≤ length s
  pub through : Through bound s r.head r.at

-- what the parts up to the body's end give: where that is not reached, it is all; and where it is, what leads on from there ends it
pub record UpToPast (s : List ℕ) (h : Head) (body : List ℕ) (from : ℕ) (r : Reached) (body' : List ℕ) : Type 0 where
  pub within : r.at ≤ length s
  pub all : r.head.count < past_body → ahead_of h body s from ≡ ahead_to r.head body' r.at
  pub rest : past_body ≤ r.head.count → (h' : Head) (i' : ℕ) → LeadsTo s r.head body' r.at h' body' i' → ahead_of h body s from ≡ ahead_to h' body' i'

-- the weight of the oldest byte in a window of eight nibbles: 16 ^ 6
abbrev pub byte_place : ℕ
byte_place = 16777216

-- a window with two nibbles more, and its oldest two gone
abbrev pub slide_byte : ℕ → ℕ → ℕ → ℕ
slide_byte w high low = w % byte_place * 256 + 16 * high + low

-- whether a nibble where a gap has nothing but F was another, with a byte more
unfoldable pub stray_after : Bool → ℕ → Bool
stray_after stray b = cond (ltb b 255) true stray

-- the same of the two bytes after the code: in profile 1 they are a gap's own
abbrev pub stray_kept : Profile → Bool → ℕ → Bool
stray_kept VV5404 stray b = stray_after stray b
stray_kept VV5300 stray b = stray

-- what is kept with the byte that leaves the window at an even count below 14: the code's, or one of the two after it
unfoldable pub byte_kept : Profile → ℕ → ℕ → Kept → Kept
byte_kept p c b t =
    cond (ltb c 10) t
    (cond (eqb c 10)
    (record { first = b; second = t.second; stray = stray_kept p t.stray b })
    (record { first = t.first; second = b; stray = stray_kept p t.stray b }))

-- what is kept with a byte more of a text's body, or past it
abbrev pub strayed : Kept → Bool → Kept
strayed t s = record { first = t.first; second = t.second; stray = s }
