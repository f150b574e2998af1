-- Messages written from a list of index and value pairs (02, A6): each pair one message of 32, index without increment, value.
use Rattle.std.specs.Prelude.{Bool, true, false, not, ◌||◌, cond, List, [], ◌∷◌, ◌++◌, ℕ, eqb, ltb}
use Rattle.refusal.specs.Refusal.{short_message, past_last_register}
use Rattle.lent_buffer.specs.Filled.{Output, require, fitted}
use Rattle.message_data.specs.Registers.{last_index}
use Rattle.two_wire.specs.Messages.{message}

-- A list of pairs is index, value, index, value, ..

-- it ends within a pair
abbrev pub ends_within_pair : List ℕ → Bool
ends_within_pair [] = false
ends_within_pair (i ∷ []) = true
ends_within_pair (i ∷ v ∷ pairs) = ends_within_pair pairs

-- some index is above 127
abbrev pub some_index_past : List ℕ → Bool
some_index_past [] = false
some_index_past (i ∷ []) = false
some_index_past (i ∷ v ∷ pairs) = ltb last_index i || some_index_past pairs

-- the messages of the pairs
abbrev pub messages : List ℕ → List (List ℕ)
messages [] = []
messages (i ∷ []) = []
messages (i ∷ v ∷ pairs) = message i v ∷ messages pairs

-- lists end to end: the messages stand in the buffer one straight after another, three bytes each
abbrev pub joined : List (List ℕ) → List ℕ
joined [] = []
joined (m ∷ ms) = m ++ joined ms

-- 24 where the list ends within a pair, then 28, then 12, or the messages; of the list and the room
unfoldable pub write_of : List ℕ → ℕ → Output
write_of pairs room =
    require (not (ends_within_pair pairs)) short_message
    (require (not (some_index_past pairs)) past_last_register (fitted (joined (messages pairs)) room))

-- Reading what was written.

-- messages of three bytes, cut apart again
abbrev pub in_threes : List ℕ → List (List ℕ)
in_threes [] = []
in_threes (a ∷ []) = []
in_threes (a ∷ b ∷ []) = []
in_threes (a ∷ b ∷ c ∷ bytes) = (a ∷ b ∷ c ∷ []) ∷ in_threes bytes

-- the last value listed for a register; its own where none is
abbrev pub last_listed : ℕ → List ℕ → ℕ → ℕ
last_listed r [] own = own
last_listed r (i ∷ []) own = own
last_listed r (i ∷ v ∷ pairs) own = last_listed r pairs (cond (eqb i r) v own)
