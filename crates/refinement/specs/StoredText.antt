-- What is kept of a text, newest first, that has all left the window: the number of a nibble is the count of those older. Definitions only.
use Rattle.std.specs.Prelude.{List, [], ◌∷◌, ℕ, length}
use Rattle.profile.specs.declared.Profile.{Profile}
use Rattle.mark_text.specs.declared.Kept.{Kept}
use Rattle.mark_text.specs.MarkText.{nothing_kept, kept_at, body_at}

-- what is kept besides the body
abbrev pub stored_kept : Profile → List ℕ → Kept
stored_kept p [] = nothing_kept
stored_kept p (v ∷ c) = kept_at p (length c) v (stored_kept p c)

-- the body, from the one that stood there at the mark
abbrev pub stored_body : List ℕ → List ℕ → List ℕ
stored_body b [] = b
stored_body b (v ∷ c) = body_at (length c) v (stored_body b c)
