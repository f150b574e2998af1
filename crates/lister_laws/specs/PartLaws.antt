-- A text put at the front of what follows a place of a buffer, where it is put only with so much room.
use Rattle.std.specs.Prelude.{◌≡◌, cond, List, [], ◌++◌, ℕ, ◌+◌, ◌-◌, ◌≤◌, ltb, length, take, drop}
use Rattle.std.proofs.Common.{append-nil, arith, length-drop, drop_of_length-le, take_all, le-ltb}
use Rattle.text.specs.Put.{Put, on_front, AtFront}
use Rattle.text.specs.PutLaws.{in_rest}

pub part_put :
    (need : ℕ) (d t last : List ℕ) (at r : ℕ)
    → at + need ≤ length d → length t ≤ need
    → r ≡ length (cond (ltb (length (take (length d - at) (drop at d))) need) [] t)
    → last ≡ on_front (cond (ltb (length (take (length d - at) (drop at d))) need) [] t) (take (length d - at) (drop at d))
    → Put d at t (at + r) (take at d ++ (last ++ drop (length d - at) (drop at d)))
part_put need d t last at r room short e put =
    let q : length (drop at d) ≤ length d - at = omega (arith, length-drop at d) in
    let h : need ≤ length (drop at d) = omega (arith, length-drop at d) in
    let e₁ = simp (take_all (length d - at) (drop at d) q, le-ltb _ _ h) at e in
    let p₁ = simp (take_all (length d - at) (drop at d) q, le-ltb _ _ h) at put in
    simp (drop_of_length-le (drop at d) {i = length d - at} q, append-nil, e₁, p₁) (in_rest d t at (omega arith))

-- a text at the front of what follows a place is put there
pub part_front :
    (d t last : List ℕ) (at r : ℕ) → at + length t ≤ length d → AtFront t r (take (length d - at) (drop at d)) last
    → Put d at t (at + r) (take at d ++ (last ++ drop (length d - at) (drop at d)))
part_front d t last at r h p =
    let q : length (drop at d) ≤ length d - at = omega (arith, length-drop at d) in
    let e = p.count in
    let l = simp (take_all (length d - at) (drop at d) q) at p.leaves in
    simp (drop_of_length-le (drop at d) {i = length d - at} q, append-nil, e, l) (in_rest d t at h)
