-- Laws of a message's parts.
use Rattle.std.specs.Prelude.{◌≡◌, refl, List, [], ◌∷◌, ℕ, ◌-◌, ◌<◌, ◌≤◌, length, get_or, take, drop}
use Rattle.std.proofs.Common.{arith, length-drop, take_all}
use Rattle.refusal.specs.Refusal.{short_message}
use Rattle.two_wire.specs.declared.Sensor.{Sensor}
use Rattle.two_wire.specs.Messages.{refused, addressed, laid_out}

pub too_short : (s : Sensor) (message : List ℕ) → length message < 2 → laid_out s message ≡ refused short_message
too_short s [] h = refl
too_short s (address ∷ []) h = refl
too_short s (address ∷ second ∷ bytes) h = absurd (omega arith)

pub three_parts : (s : Sensor) (message : List ℕ) → 2 ≤ length message
    → laid_out s message ≡ addressed s (get_or message 0 0) (get_or message 1 0) (drop 2 message)
three_parts s [] h = absurd (omega arith)
three_parts s (address ∷ []) h = absurd (omega arith)
three_parts s (address ∷ second ∷ bytes) h = refl

pub rest : (message : List ℕ) → take (length message - 2) (drop 2 message) ≡ drop 2 message
rest message = take_all (length message - 2) (drop 2 message) (omega (arith, length-drop 2 message))
