-- A header copied to the front of a buffer, and rows copied to what follows it.
use mathlib.Core.Path.{◌≡◌, sym, ap, ◌∙◌}
use mathlib.Core.List.{List, ◌++◌, append_assoc}
use Prim.Native.Nat.{ℕ, ◌+◌}
use lib.ListN.{length, drop}
use lib.Seq.{take_at, drop_at, drop-drop}
use borrow.Rule.Slice.PartMut.{put_mid}

-- the buffer has the header at its front when the rows take the place of the n bytes behind it
pub copied : (k n : ℕ) (head rows buffer : List ℕ) → length head ≡ k → n ≡ length rows
    → put_mid k n (head ++ drop k buffer) rows ≡ (head ++ rows) ++ drop (k + length rows) buffer
copied k n head rows buffer h e =
    let rest : List ℕ = drop k buffer in
    ap (λ (l : List ℕ). l ++ (rows ++ drop n (drop k (head ++ rest)))) (take_at head rest k h)
    ∙ ap (λ (l : List ℕ). head ++ (rows ++ drop n l)) (drop_at head rest k h)
    ∙ ap (λ (l : List ℕ). head ++ (rows ++ l)) (drop-drop n k buffer ∙ ap (λ (m : ℕ). drop (k + m) buffer) e)
    ∙ sym (append_assoc head rows (drop (k + length rows) buffer))
