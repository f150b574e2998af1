-- Who calls the table of readers (02, A12), and what they are refused of a place.
use Rattle.std.specs.Prelude.{Bool, ◌||◌, cond, ℕ, zero, suc, eqb, None, Option, Some}
use Rattle.refusal.specs.Refusal.{no_such_technician, place_not_held}
use Rattle.refusal.specs.declared.Refusal.{Refusal}

-- technicians are 1 and 2
unfoldable pub is_technician : ℕ → Bool
is_technician who = eqb who 1 || eqb who 2

-- what a technician is refused of a place, by its owner: 32, 34, or nothing, 0
unfoldable pub denial_by : ℕ → ℕ → ℕ
denial_by who owner = cond (is_technician who) (cond (eqb owner who) 0 place_not_held) no_such_technician

-- the program's answer that says this: 0 is nothing
abbrev pub denial_for : ℕ → Option Refusal
denial_for zero = None
denial_for (suc n) = Some (record { 0 = suc n })
