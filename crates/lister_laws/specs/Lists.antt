-- A text told of nibbles, one after another, into lent buffers: what a lister becomes at each nibble, its text, and how far a buffer lasts.
-- Definitions only.
use Rattle.std.specs.Prelude.{cond, ◌≡◌, List, [], ◌∷◌, ◌++◌, ℕ, suc, ◌+◌, ◌-◌, ltb, length, take, drop}
use Rattle.stream.specs.Written.{nibbles}

-- how listers of a type list: the lister after a nibble, the nibble's text, and the room that is asked for a text
pub record Lists (L : Type 0) : Type 0 where
  pub step : L → ℕ → L
  pub text : L → ℕ → List ℕ
  pub most : ℕ

-- Many nibbles.

-- the lister after them
abbrev pub lister_after : {L : Type 0} → Lists L → L → List ℕ → L
lister_after f l [] = l
lister_after f l (n ∷ w) = lister_after f (f.step l n) w

-- their text
abbrev pub text_after : {L : Type 0} → Lists L → L → List ℕ → List ℕ
text_after f l [] = []
text_after f l (n ∷ w) = f.text l n ++ text_after f (f.step l n) w

-- With a buffer.

-- how many nibbles are taken: as long as there is room for the text of one more
abbrev pub taken_from : {L : Type 0} → Lists L → L → ℕ → List ℕ → ℕ
taken_from f l room [] = 0
taken_from f l room (n ∷ w) = cond (ltb room f.most) 0 (suc (taken_from f (f.step l n) (room - length (f.text l n)) w))

-- a lister after a call, how many nibbles it took, and the text it put
pub record ListedText (L : Type 0) : Type 0 where
  pub lister : L
  pub taken : ℕ
  pub text : List ℕ

-- the lister after so many nibbles, and their text
abbrev pub listed_up_to : {L : Type 0} → Lists L → L → List ℕ → ℕ → ListedText L
listed_up_to f l w k = record { lister = lister_after f l (take k w); taken = k; text = text_after f l (take k w) }

-- In pieces.

-- the bytes of a capture's pieces, one piece straight after another
abbrev pub end_to_end : List (List ℕ) → List ℕ
end_to_end [] = []
end_to_end (piece ∷ pieces) = piece ++ end_to_end pieces

-- calls one after another over pieces, from a place of the first piece on: each with a buffer of some length, and from where the call before
-- stopped; a piece of which no nibble is left makes way for the next. What a call gives is the parameter's: of a lister, a buffer's length and
-- the nibbles. The lister after them, and their texts end to end
pub data PieceCalls {L : Type 0} (listed : L → ℕ → List ℕ → ListedText L) : L → List (List ℕ) → ℕ → L → List ℕ → Type 0 where
  no_piece : (l : L) (from : ℕ) → PieceCalls listed l [] from l []
  next_piece : (l : L) (piece : List ℕ) (pieces : List (List ℕ)) (from : ℕ) (m : L) (text : List ℕ) → drop from (nibbles piece) ≡ []
      → PieceCalls listed l pieces 0 m text → PieceCalls listed l (piece ∷ pieces) from m text
  one_call : (l : L) (piece : List ℕ) (pieces : List (List ℕ)) (from room : ℕ) (m : L) (text : List ℕ)
      → PieceCalls listed (listed l room (drop from (nibbles piece))).lister (piece ∷ pieces) (from + (listed l room (drop from (nibbles piece))).taken) m text
      → PieceCalls listed l (piece ∷ pieces) from m ((listed l room (drop from (nibbles piece))).text ++ text)
