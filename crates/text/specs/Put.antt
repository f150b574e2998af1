-- A text put into a buffer.
use Rattle.std.specs.Prelude.{◌≡◌, List, ◌++◌, ℕ, ◌+◌, ◌-◌, ◌≤◌, min, length, drop}
use Rattle.std.proofs.lemmas.List.Edits.{sets}

-- a text put at a place of a buffer, as far as there is room: the place after that; and the buffer afterwards, with the text's bytes stored
-- there one after another, those beyond its end left out
pub record Puts (buffer : List ℕ) (at : ℕ) (text : List ℕ) (next : ℕ) (after : List ℕ) : Type 0 where
  pub place : next ≡ at + min (length text) (length buffer - at)
  pub stored : after ≡ sets buffer at text

-- a text put whole: it has room at its place
pub record Put (buffer : List ℕ) (at : ℕ) (text : List ℕ) (next : ℕ) (after : List ℕ) : Type 0 where
  pub room : at + length text ≤ length buffer
  pub place : next ≡ at + length text
  pub stored : after ≡ sets buffer at text

-- a buffer with a text at its front, and the rest as it was
abbrev pub on_front : List ℕ → List ℕ → List ℕ
on_front text buffer = text ++ drop (length text) buffer

-- a call that puts a text at the front of a buffer, and answers its length
pub record AtFront (text : List ℕ) (r : ℕ) (before after : List ℕ) : Type 0 where
  pub count : r ≡ length text
  pub leaves : after ≡ on_front text before
