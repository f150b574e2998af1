-- Laws of lent buffers: how an answer is reached, that the output determines it, and what a filled buffer tells of the tests before it.
use Rattle.std.specs.Prelude.{◌≡◌, refl, Bool, true, false, List, ◌++◌, ℕ, ◌≤◌, length, take, drop, leb, Err, Ok, Result}
use Rattle.std.proofs.Common.{sym, ap, ◌∙◌, le-leb, leb-true, take_at}
use Rattle.lent_buffer.specs.Filled.{Output, used, refused, output_of, answer_for, buffer_after, Gives, require, fitted}
use Rattle.refusal.specs.declared.Refusal.{Refusal}

-- Reaching an answer.

pub refuses : (o : Output) (n : ℕ) (b : List ℕ) → o ≡ refused n → Gives o (Err (record { 0 = n })) b b
refuses o n b e = record { says = sym e; leaves = ap (λ (x : Output). buffer_after x b) (sym e) }

pub fills : (o : Output) (n : ℕ) (bytes b after : List ℕ) → o ≡ used n bytes → length bytes ≡ n → after ≡ bytes ++ drop n b → Gives o (Ok n) b after
fills o n bytes b after e h f =
    record {
      says = ap (used n) (ap (take n) f ∙ take_at bytes _ n h) ∙ sym e;
      leaves = f ∙ ap (λ (x : Output). buffer_after x b) (sym e);
    }

pub fitted_used : (bytes : List ℕ) (room : ℕ) → length bytes ≤ room → fitted bytes room ≡ used (length bytes) bytes
unfolding require
fitted_used bytes room h = simp (le-leb _ _ h)

-- What an answer and a filled buffer tell.

answer_back : (r : Result ℕ Refusal) (after : List ℕ) → answer_for (output_of r after) ≡ r
answer_back (Ok n) after = refl
answer_back (Err r) after = refl

-- the output determines the answer
pub answered : (o : Output) (r : Result ℕ Refusal) (b after : List ℕ) → Gives o r b after → r ≡ answer_for o
answered o r b after g = sym (answer_back r after) ∙ ap answer_for g.says

pub passed : (t : Bool) (n : ℕ) (o : Output) {m : ℕ} {w : List ℕ} → require t n o ≡ used m w → (t ≡ true) × (o ≡ used m w)
unfolding require
passed true n o h = (refl, h)
passed false n o h = (cc, cc)

pub used_fitted : (bytes : List ℕ) (room : ℕ) {m : ℕ} {w : List ℕ} → fitted bytes room ≡ used m w → (w ≡ bytes) × (m ≡ length bytes) × (length bytes ≤ room)
used_fitted bytes room h =
    let p = passed (leb (length bytes) room) _ _ h in
    (cc, cc, leb-true _ _ p.0)
