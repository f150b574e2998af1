-- Which calls take their nibble (01): one answered 10 or 12 takes none; one refused with any other number takes the nibble it was given.
use Rattle.std.specs.Prelude.{◌≡◌, refl, List, ◌∷◌, ℕ}
use Rattle.std.proofs.Common.{ne_eqb}
use Rattle.refusal.specs.Refusal.{not_a_nibble, no_room}
use Rattle.stream.specs.declared.Answer.TheVariants as answers
use Rattle.recovery.specs.Calls.{takes}

pub ten_takes_none : (n : ℕ) (w : List ℕ) → takes (answers.Refused (record { 0 = not_a_nibble })) n w ≡ w
ten_takes_none n w = refl

pub twelve_takes_none : (n : ℕ) (w : List ℕ) → takes (answers.Refused (record { 0 = no_room })) n w ≡ w
twelve_takes_none n w = refl

pub others_take : (r n : ℕ) (w : List ℕ) → (r ≡ not_a_nibble → ⊥) → (r ≡ no_room → ⊥) → takes (answers.Refused (record { 0 = r })) n w ≡ n ∷ w
others_take r n w a b = simp (ne_eqb r not_a_nibble a, ne_eqb r no_room b)
