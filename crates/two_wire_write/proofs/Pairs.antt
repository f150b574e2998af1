-- A list of pairs, one pair after another.
use Rattle.std.specs.Prelude.{◌≡◌, refl, false, ◌||◌, List, [], ◌∷◌, ◌++◌, ℕ, ◌+◌, ◌<◌, ltb, length, get_or}
use Rattle.std.proofs.Common.{ap, ◌∙◌, arith}
use Rattle.std.proofs.Math.Numerals.{unary_clauses}
use Rattle.std.proofs.lemmas.List.Edits.{sets}
use Rattle.message_data.specs.Registers.{last_index}
use Rattle.two_wire.specs.Messages.{message}
use Rattle.two_wire_write.specs.Writing.{some_index_past, messages, joined}

pair_is : (pair : List ℕ) → length pair ≡ 2 → pair ≡ get_or pair 0 0 ∷ get_or pair 1 0 ∷ []
pair_is [] two = absurd (omega arith)
pair_is (i ∷ []) two = absurd (omega arith)
pair_is (i ∷ v ∷ []) two = refl
pair_is (i ∷ v ∷ n ∷ more) two = absurd (omega arith)

module _ (pair rest : List ℕ) (two : length pair ≡ 2) where
  pub past_ahead : some_index_past (pair ++ rest) ≡ (ltb last_index (get_or pair 0 0) || some_index_past rest)
  past_ahead = ap (λ (l : List ℕ). some_index_past (l ++ rest)) (pair_is pair two)

  messages_ahead : joined (messages (pair ++ rest)) ≡ message (get_or pair 0 0) (get_or pair 1 0) ++ joined (messages rest)
  messages_ahead = ap (λ (l : List ℕ). joined (messages (l ++ rest))) (pair_is pair two)

  pub length_ahead : length (joined (messages (pair ++ rest))) ≡ 3 + length (joined (messages rest))
  length_ahead = ap length messages_ahead ∙ omega arith

  pub sets_ahead : (buffer : List ℕ) (at : ℕ)
      → sets (sets buffer at (message (get_or pair 0 0) (get_or pair 1 0))) (at + 3) (joined (messages rest)) ≡ sets buffer at (joined (messages (pair ++ rest)))
  sets_ahead buffer at = rw messages_ahead (simp unary_clauses)

-- of fewer than a pair

pub past_end : (rest : List ℕ) → length rest < 2 → some_index_past rest ≡ false
past_end [] h = refl
past_end (i ∷ []) h = refl
past_end (i ∷ v ∷ rest) h = absurd (omega arith)

pub messages_end : (rest : List ℕ) → length rest < 2 → messages rest ≡ []
messages_end [] h = refl
messages_end (i ∷ []) h = refl
messages_end (i ∷ v ∷ rest) h = absurd (omega arith)
