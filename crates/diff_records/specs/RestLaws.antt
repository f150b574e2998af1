-- A text put a part at a time: what is put so far, with the rest to come, is all of it.
use Rattle.std.specs.Prelude.{◌≡◌, refl, List, [], ◌++◌, ℕ, length}
use Rattle.std.proofs.Common.{sym, subst, ◌∙◌}
use Rattle.text.specs.Put.{Puts}
use Rattle.text.specs.PutLaws.{then, puts_none, puts_length}

-- once the rest is put, all of the text is
pub record Rest (buffer : List ℕ) (at : ℕ) (all rest : List ℕ) (next : ℕ) (after : List ℕ) : Type 0 where
  pub kept : length after ≡ length buffer
  pub onward : (r : ℕ) (d : List ℕ) → Puts after next rest r d → Puts buffer at all r d

pub rest_all : (buffer : List ℕ) (at : ℕ) (all : List ℕ) → Rest buffer at all all at buffer
rest_all buffer at all = record { kept = refl; onward = λ r d p. p }

pub rest_put : {b c d all : List ℕ} {at n r : ℕ} (whole u rest : List ℕ) → whole ≡ u ++ rest → Rest b at all whole n c → Puts c n u r d → Rest b at all rest r d
rest_put {b} {c} {d} {all} {at} {n} {r} whole u rest e l p =
    record {
      kept = puts_length p ∙ l.kept;
      onward = λ s f q. l.onward s f (subst (λ (t : List ℕ). Puts c n t s f) (sym e) (then p q));
    }

pub rest_none : {b c all : List ℕ} {at n : ℕ} (rest : List ℕ) → rest ≡ [] → Rest b at all rest n c → Puts b at all n c
rest_none {b} {c} {all} {at} {n} rest e l = l.onward n c (subst (λ (t : List ℕ). Puts c n t n c) (sym e) (puts_none c n))

pub puts_is : {b d u v : List ℕ} {at r : ℕ} → u ≡ v → Puts b at u r d → Puts b at v r d
puts_is {b} {d} {u} {v} {at} {r} e = subst (λ (t : List ℕ). Puts b at t r d) e
