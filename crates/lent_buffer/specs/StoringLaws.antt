-- Bytes stored in a buffer from a place on: one text after another, and a text at the front.
use Rattle.std.specs.Prelude.{◌≡◌, List, [], ◌∷◌, ◌++◌, ℕ, suc, ◌+◌, ◌≤◌, length, set, drop}
use Rattle.std.proofs.Common.{ap, ◌∙◌, arith}
use Rattle.std.proofs.lemmas.List.Edits.{sets, sets-eq}

pub sets_append : (v w b : List ℕ) (at : ℕ) → sets (sets b at v) (at + length v) w ≡ sets b at (v ++ w)
sets_append [] w b at =
    let e : at + 0 ≡ at = omega arith in
    ap (λ (k : ℕ). sets b k w) e
sets_append (x ∷ v) w b at =
    let e : at + suc (length v) ≡ suc at + length v = omega arith in
    ap (λ (k : ℕ). sets (sets (set b at x) (suc at) v) k w) e ∙ sets_append v w (set b at x) (suc at)

pub sets_front : (v b : List ℕ) → length v ≤ length b → sets b 0 v ≡ v ++ drop (length v) b
sets_front v b h =
    let z : 0 + length v ≡ length v = omega arith in
    sets-eq v b 0 (omega arith) ∙ ap (λ (k : ℕ). v ++ drop k b) z
