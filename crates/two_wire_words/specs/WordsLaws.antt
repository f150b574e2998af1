-- Laws of the words: how long they are, and those of an accepted message by its parts.
use Rattle.std.specs.Prelude.{◌≡◌, refl, Bool, true, false, cond, List, [], ◌∷◌, ◌++◌, ℕ, suc, ◌-◌, ◌<◌, ◌≤◌, eqb, length, get_or}
use Rattle.std.proofs.Common.{arith, length-append}
use Rattle.text.specs.Text.{ascii, space, decimal}
use Rattle.text.specs.TextLaws.{decimal_short}
use Rattle.refusal.specs.Refusal.{no_room, short_message, wrong_address, wrong_index, wrong_data, past_last_register}
use Rattle.two_wire.specs.Messages.{write_address, index_in}
use Rattle.two_wire_words.specs.Words.{direction_word, accepted_text, refusal_words, refused_text}

shorter : (t : Bool) (v w : List ℕ) (n : ℕ) → length v ≤ n → length w ≤ n → length (cond t v w) ≤ n
shorter true v w n h g = h
shorter false v w n h g = g

pub direction_short : (address : ℕ) → length (direction_word address) ≤ 6
unfolding direction_word
direction_short address = shorter (eqb address write_address) _ _ 6 (omega arith) (omega arith)

pub accepted_short : (bytes : List ℕ) → length bytes < 2 → accepted_text bytes ≡ []
unfolding accepted_text
accepted_short [] h = refl
accepted_short (a ∷ []) h = refl
accepted_short (a ∷ b ∷ bytes) h = absurd (omega arith)

pub accepted_parts : (bytes : List ℕ) → 2 ≤ length bytes
    → accepted_text bytes
    ≡ direction_word (get_or bytes 0 0) ++ (decimal (index_in (get_or bytes 1 0)) ++ (space ∷ (decimal (length bytes - 2) ++ ascii " ok\n")))
unfolding accepted_text
accepted_parts [] h = absurd (omega arith)
accepted_parts (a ∷ []) h = absurd (omega arith)
accepted_parts (a ∷ b ∷ bytes) h =
    let e : suc (suc (length bytes)) - 2 ≡ length bytes = omega arith in
    rw e

words_short : (n : ℕ) → length (refusal_words n) ≤ 31
unfolding refusal_words
words_short n =
    shorter (eqb n no_room) _ _ 31 (omega arith)
    (shorter (eqb n short_message) _ _ 31 (omega arith)
    (shorter (eqb n wrong_address) _ _ 31 (omega arith)
    (shorter (eqb n wrong_index) _ _ 31 (omega arith)
    (shorter (eqb n wrong_data) _ _ 31 (omega arith) (shorter (eqb n past_last_register) _ _ 31 (omega arith) (omega arith))))))

pub refused_short : (n : ℕ) → length (refused_text n) ≤ 64
unfolding refused_text
refused_short n = simp (length-append) (omega (arith, decimal_short n, words_short n))
