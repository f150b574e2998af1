-- A table of readers as bytes of a lent buffer: eight places in a row, each its owner's byte, 0 where it is free, and a reader's state.
use Rattle.std.specs.Prelude.{cond, List, ◌++◌, ℕ, zero, suc, ◌+◌, ◌*◌, eqb, leb, ltb, length, get_or, take, drop}
use Rattle.refusal.specs.Refusal.{bad_state}
use Rattle.technician.specs.Technician.{denial_by}
use Rattle.reader_table.specs.Table.{nobody, place_count}
use Rattle.exported_state.specs.State.{state_length}

-- the bytes of a place, and of a table
abbrev pub place_length : ℕ
place_length = 1 + state_length

-- how many bytes a table has
abbrev pub table_length : ℕ
table_length = place_count * place_length

-- where a place begins, and its reader's state
unfoldable pub place_start : ℕ → ℕ
place_start i = place_length * i

-- where a place's reader begins among the bytes
abbrev pub state_start : ℕ → ℕ
state_start i = place_start i + 1

-- whose a place is; one that is not there counts as free
unfoldable pub owner_at : List ℕ → ℕ → ℕ
owner_at s i = cond (ltb i place_count) (get_or s (place_start i) 0) nobody

-- the state of a place's reader
unfoldable pub state_at : List ℕ → ℕ → List ℕ
state_at s i = take state_length (drop (state_start i) s)

-- the table with another state there
unfoldable pub with_state : List ℕ → ℕ → List ℕ → List ℕ
with_state s i state = take (state_start i) s ++ (state ++ drop state_length (drop (state_start i) s))

-- the lowest free of k places from the place i on; where none is, the place after them
abbrev pub lowest_from : ℕ → ℕ → List ℕ → ℕ
lowest_from zero i s = i
lowest_from (suc k) i s = cond (eqb (get_or s (place_start i) 0) nobody) i (lowest_from k (suc i) s)

-- what a technician is refused of a place: 11 where the bytes are too few for a table, 32, 34, or nothing, 0
unfoldable pub denial_at : List ℕ → ℕ → ℕ → ℕ
denial_at s who i = cond (leb table_length (length s)) (denial_by who (owner_at s i)) bad_state
