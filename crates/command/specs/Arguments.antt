-- What is read of a program's arguments. No contract says what they are: whatever they are, it is what a list of words asks for, with a word
-- for each argument.
use Rattle.std.specs.Prelude.{◌≡◌, false, List, ℕ, length}
use Rattle.command_words.specs.declared.Usage.{Usage}
use Rattle.command_words.specs.declared.Asked.{Asked}
use Rattle.command_words.specs.Asked.{asked_by}

-- a sensor and a file, and nothing besides
abbrev pub sensor_and_file : Usage
sensor_and_file = record { mark = false; odd = false; output = false; second = false }

-- what n words ask for
pub record AskedByAll (u : Usage) (n : ℕ) (asked : Asked) : Type 0 where
  pub texts : List (List ℕ)
  pub counted : length texts ≡ n
  pub is : asked ≡ asked_by u texts

-- what some words ask for
pub record AskedBySome (u : Usage) (asked : Asked) : Type 0 where
  pub count : ℕ
  pub all : AskedByAll u count asked
