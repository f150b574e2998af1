-- Laws of exported calls: a call that fills a buffer, told in numbers; a bool is read back from its byte.
use Rattle.std.specs.Prelude.{◌≡◌, refl, Bool, true, false, List, ℕ, eqb, leb, Result}
use Rattle.std.proofs.Common.{ap, ◌∙◌}
use Rattle.lent_buffer.specs.Filled.{Output, Gives}
use Rattle.lent_buffer.specs.FilledLaws.{answered}
use Rattle.exported_call.specs.LentCall.{written_number, written_count, WriteGives, bit_of}
use Rattle.refusal.specs.declared.Refusal.{Refusal}

pub bit_back : (b : Bool) → eqb (bit_of b) 1 ≡ b
bit_back true = refl
bit_back false = refl

pub bit_tag : (b : Bool) → leb (bit_of b) 1 ≡ true
bit_tag true = refl
bit_tag false = refl

pub in_numbers : (o : Output) (f : Result ℕ Refusal) (before after : List ℕ) (answer written : ℕ)
    → Gives o f before after → (answer ≡ written_number f) × (written ≡ written_count f) → WriteGives o answer written before after
in_numbers o f before after answer written g n =
    let e = answered o f before after g in
    record { says = n.0 ∙ ap written_number e; count = n.1 ∙ ap written_count e; leaves = g.leaves }
