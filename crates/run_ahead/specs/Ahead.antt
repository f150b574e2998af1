-- Nibbles of a run taken two a turn, as far as no mark can end in them. It is derived: `ahead-reaches` in run/specs/AheadLaws.antt shows that none of
-- them brings an answer, and that the run goes on from there as if they had been taken one by one.
use Rattle.std.specs.Prelude.{◌≡◌, Bool, ◌&&◌, ◌||◌, not, cond, List, [], ◌∷◌, ℕ, ◌+◌, ◌*◌, ◌/◌, ◌%◌, eqb, leb, length, drop}
use Rattle.profile.specs.Profile.{longest}
use Rattle.mark_text.specs.MarkText.{body_place}
use Rattle.reader_head.specs.declared.Head.{Head}
use Rattle.reader_head.specs.Head.{leave_body, shifted}
use Rattle.run_ahead.specs.declared.Reached.{Reached}

-- a head and a body after nibbles that are taken, and the place of the next
pub record TakenAhead : Type 0 where
  pub head : Head
  pub body : List ℕ
  pub at : ℕ

-- of these parts
abbrev pub ahead_to : Head → List ℕ → ℕ → TakenAhead
ahead_to h body i = record { head = h; body = body; at = i }

-- a mark may end at one of the next two nibbles: F at a window's nibbles 5, 4 and 3, and 0 at nibble 1
unfoldable pub is_near : ℕ → Bool
is_near w = eqb (w / 4096 % 4096) 4095 && eqb (w / 16 % 16) 0

-- two inputs are a pair after such a window: nibbles in which no mark can end
abbrev pub are_pair : ℕ → ℕ → ℕ → Bool
are_pair w high low = not (is_near w) && (leb high 15 && leb low 15)

-- as many pairs as come one after another, from the place i on: each nibble of them as one that completes no mark
abbrev pub take_pairs : Head → List ℕ → List ℕ → ℕ → TakenAhead
take_pairs h body [] i = ahead_to h body i
take_pairs h body (x ∷ []) i = ahead_to h body i
take_pairs h body (x ∷ (y ∷ w)) i =
    cond (are_pair h.window x y)
    (take_pairs (shifted (shifted h x) y) (leave_body (shifted h x) (leave_body h body)) w (i + 2))
    (ahead_to h body i)

-- the count of a text's nibbles from which none of its body is left to leave the window of eight
abbrev pub past_body : ℕ
past_body = 8 + body_place + 2 * longest

-- the pairs of a run from a place on: up to the body's end only where the count is even, so that each is one byte of the text; none where the body is
-- not as long as the longest
unfoldable pub ahead_of : Head → List ℕ → List ℕ → ℕ → TakenAhead
ahead_of h body s from =
    cond (eqb (length body) longest && (leb past_body h.count || eqb (h.count % 2) 0)) (take_pairs h body (drop from s) from) (ahead_to h body from)

-- what is given back and what is left in the lent body, as the definition has them
pub record AheadGives (t : TakenAhead) (r : Reached) (body : List ℕ) : Type 0 where
  pub next : r.head ≡ t.head
  pub keeps : body ≡ t.body
  pub place : r.at ≡ t.at
