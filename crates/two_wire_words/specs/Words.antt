-- What is said of a message: accepted, or refused and why.
use Rattle.std.specs.Prelude.{cond, List, [], ◌∷◌, ◌++◌, ℕ, eqb, length}
use Rattle.refusal.specs.Refusal.{no_room, short_message, wrong_address, wrong_index, wrong_data, past_last_register}
use Rattle.text.specs.Text.{ascii, space, decimal}
use Rattle.two_wire.specs.Messages.{write_address, index_in}

-- an accepted message, of two bytes and more: its direction, index and count of data bytes
unfoldable pub direction_word : ℕ → List ℕ
direction_word address = cond (eqb address write_address) (ascii "WRITE ") (ascii "READ ")

-- the text of a message that is accepted
unfoldable pub accepted_text : List ℕ → List ℕ
accepted_text [] = []
accepted_text (address ∷ []) = []
accepted_text (address ∷ second ∷ bytes) =
    direction_word address ++ (decimal (index_in second) ++ (space ∷ (decimal (length bytes) ++ ascii " ok\n")))

-- what a refusal means; of those that a message can have only 11 is left
unfoldable pub refusal_words : ℕ → List ℕ
refusal_words n =
    cond (eqb n no_room) (ascii ", longer than 256 bytes\n")
    (cond (eqb n short_message) (ascii ", shorter than two bytes\n")
    (cond (eqb n wrong_address) (ascii ", address other than 20 and 21\n")
    (cond (eqb n wrong_index) (ascii ", index or increment differs\n")
    (cond (eqb n wrong_data) (ascii ", read data differs\n")
    (cond (eqb n past_last_register) (ascii ", past register 127\n") (ascii ", index above 127 held\n"))))))

-- the text of one that is refused
unfoldable pub refused_text : ℕ → List ℕ
refused_text n = ascii "REFUSED " ++ (decimal n ++ refusal_words n)
