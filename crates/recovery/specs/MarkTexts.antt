-- The text of a mark by places (01, 'Marks and line codes'): from just after its 0 0 up to the next mark's first F, or to the end. Definitions only.
use Rattle.std.specs.Prelude.{◌≡◌, List, [], ◌∷◌, ◌++◌, ℕ, ◌+◌, ◌-◌, ◌*◌, length, take, drop}
use Rattle.std.proofs.Math.Option.{none, some}
use Rattle.profile.specs.declared.Profile.{Profile}
use Rattle.stream.specs.Answers.{group_nibbles}
use Rattle.stream.specs.Stream.{fresh, answer_at, step, finish, run}
use Rattle.recovery.specs.Marks.{onto}
use Rattle.recovery.specs.MarkPlaces.{Noted}

-- the text of the mark whose first F is at the place i, up to the place j, of the nibbles w
abbrev pub text_up_to : ℕ → ℕ → List ℕ → List ℕ
text_up_to i j w = take (j - (i + group_nibbles)) (drop (i + group_nibbles) w)

-- and to the end of them
abbrev pub text_to_end : ℕ → List ℕ → List ℕ
text_to_end i w = drop (i + group_nibbles) w

-- what is claimed of the newest mark m of the nibbles w, which a fresh reader took (the meaning keeps a text newest nibble first)
pub record TextByPlaces (p : Profile) (w : List ℕ) (m : Noted) : Type 0 where
  -- where F F F F 0 0 x stand last, from the place after the nibbles v on, and n makes a mark of them, m is answered with its text up to there
  pub up_to_mark : (v : List ℕ) (x n : ℕ) → w ≡ v ++ (15 ∷ 15 ∷ 15 ∷ 15 ∷ 0 ∷ 0 ∷ x ∷ [])
      → (step p (run p fresh w) n).outcome ≡ answer_at p (run p fresh w).at (onto [] (text_up_to m.place (length v) w)) (some (16 * x + n))
  -- finish answers it with its text to the end
  pub to_end : (finish p (run p fresh w)).outcome ≡ answer_at p (run p fresh w).at (onto [] (text_to_end m.place w)) none
