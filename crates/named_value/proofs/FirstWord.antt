-- A line's first word is one that it starts with and that ends there.
use Rattle.std.specs.Prelude.{◌≡◌, refl, Bool, true, false, ◌&&◌, List, [], ◌∷◌, ℕ, eqb, length, drop}
use Rattle.std.specs.List.{starts_with}
use Rattle.std.proofs.Common.{sym, eq-eqb, ne_eqb, eqb-true}
use Rattle.std.proofs.Math.Bool.{and_assoc}
use Rattle.std.proofs.lemmas.Bool.{eqb-false}
use Rattle.named_value.specs.Number.{ends_word, first_word_is}

turned : (a b : ℕ) → eqb a b ≡ eqb b a
turned a b = go (eqb b a) refl
  where
    go : (x : Bool) → eqb b a ≡ x → eqb a b ≡ x
    go true e = eq-eqb a b (sym (eqb-true b a e))
    go false e = ne_eqb a b (λ q. eqb-false b a e (sym q))

pub first_word_starts : (word line : List ℕ) → first_word_is word line ≡ (starts_with eqb line word && ends_word (drop (length word) line))
unfolding first_word_is
first_word_starts [] line = refl
first_word_starts (w ∷ word) [] = refl
first_word_starts (w ∷ word) (c ∷ line) = rw (turned c w, first_word_starts word line) (sym (and_assoc (eqb w c) (starts_with eqb line word) (ends_word (drop (length word) line))))
