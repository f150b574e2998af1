-- A run at its stop, and the reader that its nibbles lead to. Definitions only.
use Rattle.std.specs.Prelude.{cond, List, [], ◌∷◌, ℕ, ◌+◌, leb}
use Rattle.refusal.specs.Refusal.{not_a_nibble}
use Rattle.stream.specs.Answers.{nothing, refused}
use Rattle.reader.specs.declared.Reader.{Reader}
use Rattle.reader.specs.Reader.{taking}
use Rattle.run.specs.Run.{Ran, ran}

-- the reader after nibbles that are taken one by one
abbrev pub taking_all : Reader → List ℕ → Reader
taking_all r [] = r
taking_all r (n ∷ w) = taking_all (taking r n).reader w

-- a run at its stop: the reader there, the inputs from there on, and the place. An input that brings an answer is taken, and one above 15
-- is not
abbrev pub stopping : Reader → List ℕ → ℕ → Ran
stopping r [] i = ran r nothing i
stopping r (n ∷ w) i = cond (leb n 15) (ran (taking r n).reader (taking r n).outcome (i + 1)) (ran r (refused not_a_nibble) i)
