-- What a copy leaves: a state with a reader's head and body put into it.
use Rattle.std.proofs.Common.{◌≡◌, ap, ap₂, ◌∙◌, ℕ, ◌≤◌, length, List, ◌++◌, take_at, drop_at, drop-drop, le-leb, arith}
use Rattle.std.specs.Prelude.{take, drop}
use Rattle.std.proofs.Math.Path.{refl}
use Rattle.profile.specs.Profile.{longest}
use Rattle.reader_head.specs.declared.Head.{Head}
use Rattle.reader.specs.declared.Reader.{Reader}
use Rattle.exported_state.specs.State.{head_length, state_length, head_bytes, head_stored, stored}

head_full : (h : Head) → length (head_bytes h) ≡ head_length
unfolding head_bytes
head_full h = refl

head_front : (h : Head) (s : List ℕ) → head_length ≤ length s → head_stored h s ≡ head_bytes h ++ drop head_length s
unfolding head_stored
head_front h s room = simp (le-leb head_length (length s) room)

-- `after` is the state once the head is stored, and `filled` the 356 bytes that are copied behind it
pub reader_stored : (r : Reader) (s after filled : List ℕ) → state_length ≤ length s → after ≡ head_stored r.head s → filled ≡ r.body
    → take head_length after ++ (filled ++ drop longest (drop head_length after)) ≡ stored r s
unfolding stored
reader_stored r s after filled room e whole =
    let head : List ℕ = head_bytes r.head in
    ap₂ (λ (x y : List ℕ). take head_length x ++ (y ++ drop longest (drop head_length x))) (e ∙ head_front r.head s (omega (arith, room))) whole
    ∙ ap₂ (λ (x y : List ℕ). x ++ (r.body ++ drop longest y))
    (take_at head (drop head_length s) head_length (head_full r.head))
    (drop_at head (drop head_length s) head_length (head_full r.head))
    ∙ ap (λ (l : List ℕ). head ++ (r.body ++ l)) (drop-drop longest head_length s)
