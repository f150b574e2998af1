-- Bytes put one after another are put at once; and what is put at the front of a buffer.
use mathlib.Core.Path.{◌≡◌, refl, sym, ap, subst, ◌∙◌}
use mathlib.Core.List.{List, [], ◌∷◌, ◌++◌}
use Prim.Native.Nat.{ℕ, ◌+◌, ◌*◌, ◌≤◌, ◌<◌}
use native.Mathlib.Numerals.{add-one}
use native.Mathlib.Omega.{arith}
use lib.ListN.{length, get_or, take, drop, replicate, length-append, replicate-append-replicate}
use lib.Seq.{sets, take-suc, take_all}
use Rattle.lent_buffer.specs.StoringLaws.{sets_append, sets_front}
use Rattle.stream.specs.Written.{nibbles}
use Rattle.stream.specs.NibblesLaws.{nibbles_length, nibbles_append}
use Rattle.writer.specs.Parts.{PutNibbles}

pub put_none : (b : List ℕ) (at : ℕ) → PutNibbles [] b at at b
put_none b at = record { place = omega arith; kept = refl; stored = refl }

module _ {b c d : List ℕ} {at m n : ℕ} where
  pub put_then : {u v : List ℕ} → PutNibbles u b at m c → PutNibbles v c m n d → PutNibbles (u ++ v) b at n d
  put_then {u} {v} p q =
      let e : m ≡ at + length (nibbles u) = omega (arith, nibbles_length u) in
      record {
        place = omega (arith, length-append u v);
        kept = q.kept ∙ p.kept;
        stored =
            q.stored
            ∙ ap (λ (l : List ℕ). sets l m (nibbles v)) p.stored
            ∙ ap (λ (k : ℕ). sets (sets b at (nibbles u)) k (nibbles v)) e
            ∙ sets_append (nibbles u) (nibbles v) b at
            ∙ ap (sets b at) (sym (nibbles_append u v));
      }

  pub put_next : (bytes : List ℕ) (i : ℕ) → i < length bytes → PutNibbles (take i bytes) b at m c → PutNibbles (get_or bytes i 0 ∷ []) c m n d → PutNibbles (take (i + 1) bytes) b at n d
  put_next bytes i h p q =
      subst (λ (u : List ℕ). PutNibbles u b at n d) (sym (ap (λ (k : ℕ). take k bytes) (add-one i) ∙ take-suc bytes i 0 h)) (put_then p q)

  pub put_again : (x i : ℕ) → PutNibbles (replicate i x) b at m c → PutNibbles (x ∷ []) c m n d → PutNibbles (replicate (i + 1) x) b at n d
  put_again x i p q = subst (λ (u : List ℕ). PutNibbles u b at n d) (replicate-append-replicate i 1 x) (put_then p q)

pub put_all : {b d : List ℕ} {at n : ℕ} (bytes : List ℕ) (i : ℕ) → length bytes ≤ i → PutNibbles (take i bytes) b at n d → PutNibbles bytes b at n d
put_all {b} {d} {at} {n} bytes i h = subst (λ (u : List ℕ). PutNibbles u b at n d) (take_all i bytes h)

-- bytes put at the front of a buffer that has room for them
pub put_front : {bytes b d : List ℕ} {n : ℕ} → PutNibbles bytes b 0 n d → 2 * length bytes ≤ length b → d ≡ nibbles bytes ++ drop (length (nibbles bytes)) b
put_front {bytes} {b} p room = p.stored ∙ sets_front (nibbles bytes) b (omega (arith, nibbles_length bytes))
