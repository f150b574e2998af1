-- How much of the nibbles is taken; and a capture in pieces is listed as it is whole, whatever the pieces and the buffers.
use Rattle.std.specs.Prelude.{◌≡◌, refl, Bool, true, false, cond, List, [], ◌∷◌, ◌++◌, ℕ, suc, ◌+◌, ◌-◌, ◌≤◌, ltb, length, take, drop}
use Rattle.std.proofs.Common.{◌∙◌, ap, ap₂, sym, append_assoc, arith, take-append-drop, drop-drop}
use Rattle.stream.specs.Written.{nibbles}
use Rattle.stream.specs.NibblesLaws.{nibbles_append}
use Rattle.lister_laws.specs.Lists.{Lists, lister_after, text_after, taken_from, ListedText, listed_up_to, end_to_end, PieceCalls, no_piece, next_piece, one_call}

-- no more than there are
pub from_within : {L : Type 0} (f : Lists L) (l : L) (room : ℕ) (w : List ℕ) → taken_from f l room w ≤ length w
from_within f l room [] = omega arith
from_within f l room (n ∷ w) = either (ltb room f.most) (from_within f (f.step l n) (room - length (f.text l n)) w)
  where
    either : (full : Bool) {k : ℕ} → k ≤ length w → cond full 0 (suc k) ≤ suc (length w)
    either true h = omega arith
    either false h = omega arith

-- or none, where a call takes nothing
pub none_within : (b : Bool) (w : List ℕ) {k : ℕ} → k ≤ length w → cond b k 0 ≤ length w
none_within true w h = h
none_within false w h = omega arith

-- nibbles, and nibbles after them
module _ {L : Type 0} (f : Lists L) where
  pub after_append : (v w : List ℕ) (l : L) → lister_after f l (v ++ w) ≡ lister_after f (lister_after f l v) w
  after_append [] w l = refl
  after_append (n ∷ v) w l = after_append v w (f.step l n)

  pub text_append : (v w : List ℕ) (l : L) → text_after f l (v ++ w) ≡ text_after f l v ++ text_after f (lister_after f l v) w
  text_append [] w l = refl
  text_append (n ∷ v) w l =
      ap (λ (x : List ℕ). f.text l n ++ x) (text_append v w (f.step l n)) ∙ sym (append_assoc (f.text l n) (text_after f (f.step l n) v) _)

-- the nibbles of pieces from a place of the first on
abbrev ahead : List (List ℕ) → ℕ → List ℕ
ahead [] from = []
ahead (piece ∷ pieces) from = drop from (nibbles piece) ++ ahead pieces 0

ahead_bytes : (pieces : List (List ℕ)) → ahead pieces 0 ≡ nibbles (end_to_end pieces)
ahead_bytes [] = refl
ahead_bytes (piece ∷ pieces) = ap (λ (w : List ℕ). nibbles piece ++ w) (ahead_bytes pieces) ∙ sym (nibbles_append piece (end_to_end pieces))

-- calls that list up to as many nibbles as they take
module _ {L : Type 0} (f : Lists L) {listed : L → ℕ → List ℕ → ListedText L}
    (up : (l : L) (room : ℕ) (w : List ℕ) → listed l room w ≡ listed_up_to f l w (listed l room w).taken) where
  calls_list : {l m : L} {pieces : List (List ℕ)} {from : ℕ} {text : List ℕ} → PieceCalls listed l pieces from m text
      → (m ≡ lister_after f l (ahead pieces from)) × (text ≡ text_after f l (ahead pieces from))
  calls_list (no_piece l from) = (refl, refl)
  calls_list (next_piece l piece pieces from m text e c) =
      let q = calls_list c in
      let d : ahead pieces 0 ≡ drop from (nibbles piece) ++ ahead pieces 0 = ap (λ (v : List ℕ). v ++ ahead pieces 0) (sym e) in
      (q.0 ∙ ap (lister_after f l) d, q.1 ∙ ap (text_after f l) d)
  calls_list (one_call l piece pieces from room m text c) =
      let w : List ℕ = drop from (nibbles piece) in
      let k : ℕ = (listed l room w).taken in
      let rest : List ℕ = drop (from + k) (nibbles piece) ++ ahead pieces 0 in
      let q = calls_list c in
      let then : (listed l room w).lister ≡ lister_after f l (take k w) = ap (λ (x : ListedText L). x.lister) (up l room w) in
      let told : (listed l room w).text ≡ text_after f l (take k w) = ap (λ (x : ListedText L). x.text) (up l room w) in
      let e : take k w ++ rest ≡ w ++ ahead pieces 0 =
      ap (λ (v : List ℕ). take k w ++ (v ++ ahead pieces 0)) (sym (drop-drop k from (nibbles piece)))
      ∙ sym (append_assoc (take k w) (drop k w) (ahead pieces 0))
      ∙ ap (λ (v : List ℕ). v ++ ahead pieces 0) (take-append-drop k w) in (
        q.0 ∙ ap (λ (x : L). lister_after f x rest) then ∙ sym (after_append f (take k w) rest l) ∙ ap (lister_after f l) e,
        ap₂ (λ (v x : List ℕ). v ++ x) told (q.1 ∙ ap (λ (x : L). text_after f x rest) then)
            ∙ sym (text_append f (take k w) rest l)
            ∙ ap (text_after f l) e,
      )

  -- the lister after the calls over a capture's pieces, and their texts, are those of its bytes' nibbles one by one
  pub pieces_listed : {l m : L} {pieces : List (List ℕ)} {text : List ℕ} → PieceCalls listed l pieces 0 m text
      → (m ≡ lister_after f l (nibbles (end_to_end pieces))) × (text ≡ text_after f l (nibbles (end_to_end pieces)))
  pieces_listed {l} {m} {pieces} c =
      let q = calls_list c in
      (q.0 ∙ ap (lister_after f l) (ahead_bytes pieces), q.1 ∙ ap (text_after f l) (ahead_bytes pieces))
