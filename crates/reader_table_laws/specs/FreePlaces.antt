-- Free places of a table, and what an opening and a close do with them (02, A12): definitions only.
use Rattle.std.specs.Prelude.{◌≡◌, true, ℕ, ◌<◌, length, Some}
use Rattle.refusal.specs.Refusal.{no_place_free}
use Rattle.profile.specs.declared.Profile.{Profile}
use Rattle.profile.specs.Profile.{profile_numbered}
use Rattle.reader_table.specs.declared.ReaderTable.{ReaderTable}
use Rattle.technician.specs.Technician.{is_technician}
use Rattle.reader_table.specs.Table.{nobody, place_at, Placing, at_place, not_placed, opens_at, open_place_of, close_place_of}

-- a place that is there and free
pub record Free (t : ReaderTable) (i : ℕ) : Type 0 where
  pub is_there : i < length t.places
  pub is_free : (place_at t i).owner ≡ nobody

-- an opening, by a technician and of a profile that there is: 33 where no place is free, or the lowest that is
pub data OpensLowest (t : ReaderTable) : Placing → Type 0 where
  all_taken : ((i : ℕ) → Free t i → ⊥) → OpensLowest t (not_placed no_place_free)
  lowest_one : (i : ℕ) → Free t i → ((j : ℕ) → j < i → Free t j → ⊥) → OpensLowest t (at_place i)

-- a place that who closed: it is free again, the others are as they were, and where it is the lowest free one the next opening gives it, with
-- a fresh reader
pub record ClosedAgain (t : ReaderTable) (who i : ℕ) : Type 0 where
  pub is_free : Free (close_place_of t who i).table i
  pub others_stay : (j : ℕ) → (j ≡ i → ⊥) → place_at (close_place_of t who i).table j ≡ place_at t j
  pub opens_fresh : (next n : ℕ) (p : Profile) → is_technician next ≡ true → profile_numbered n ≡ Some p
      → ((j : ℕ) → j < i → Free t j → ⊥)
      → open_place_of (close_place_of t who i).table next n
      ≡ opens_at (close_place_of t who i).table next p i
