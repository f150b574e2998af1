-- The exported calls of a table: what each answers and leaves, of the bytes lent to it.
use Rattle.std.specs.Prelude.{cond, List, ℕ, zero, suc, eqb, leb, ltb, length, set, None, Option, Some}
use Rattle.refusal.specs.Refusal.{bad_state, no_room, no_such_technician, no_place_free}
use Rattle.exported_call.specs.LentCall.{Called}
use Rattle.profile.specs.Profile.{profile_numbered}
use Rattle.technician.specs.Technician.{is_technician}
use Rattle.reader_table.specs.Table.{nobody, place_count}
use Rattle.fluturenc.specs.Calls.{FeedCalled, open_call, feed_call, finish_call}
use Rattle.fluturenc_table.specs.TableBytes.{table_length, place_start, state_at, with_state, lowest_from, denial_at}
use Rattle.profile.specs.declared.Profile.{Profile}

-- a refused call: the table's bytes stay
abbrev pub refused_table : ℕ → List ℕ → Called
refused_table n s = record { answer = n; state = s }

-- the first k places freed
abbrev pub places_freed : ℕ → List ℕ → List ℕ
places_freed zero s = s
places_freed (suc k) s = set (places_freed k s) (place_start k) nobody

-- a table of free places: 12 where the bytes are too few, or 0
unfoldable pub new_table : List ℕ → Called
new_table s = cond (leb table_length (length s)) (record { answer = 0; state = places_freed place_count s }) (refused_table no_room s)

-- opening: 11 where the bytes are too few for a table, 32, 11, 33, or the place, with a fresh reader of its technician

-- a place opened: a fresh reader there, and its technician
unfoldable pub opened_at : List ℕ → ℕ → ℕ → ℕ → Called
opened_at s who n i = record { answer = i; state = set (with_state s i (open_call n (state_at s i)).state) (place_start i) who }

-- opening the lowest free place; 33 where there is none
unfoldable pub open_lowest : List ℕ → ℕ → ℕ → ℕ → Called
open_lowest s who n i = cond (ltb i place_count) (opened_at s who n i) (refused_table no_place_free s)

-- opening, by the profile that the number names; 11 for none
abbrev pub open_profile : List ℕ → ℕ → ℕ → Option Profile → Called
open_profile s who n (Some p) = open_lowest s who n (lowest_from place_count 0 s)
open_profile s who n None = refused_table bad_state s

-- an opening: 11 of too few bytes, 32, 11, 33, or the place's number
unfoldable pub open_table : List ℕ → ℕ → ℕ → Called
open_table s who n =
    cond (leb table_length (length s))
    (cond (is_technician who) (open_profile s who n (profile_numbered n)) (refused_table no_such_technician s))
    (refused_table bad_state s)

-- the others: 11 where the bytes are too few, 32, 34, or as the call of a reader's own state does

-- a run of nibbles into a place's reader, or the refusal of the place
unfoldable pub feed_table : List ℕ → ℕ → ℕ → List ℕ → List ℕ → FeedCalled
feed_table s who i w line =
    let c : FeedCalled = feed_call (state_at s i) w line in
    cond (eqb (denial_at s who i) 0)
    (record { answer = c.answer; taken = c.taken; state = with_state s i c.state; line = c.line })
    (record { answer = denial_at s who i; taken = 0; state = s; line = line })

-- the finish of a place's reader, or the refusal of the place
unfoldable pub finish_table : List ℕ → ℕ → ℕ → Called
finish_table s who i =
    let c : Called = finish_call (state_at s i) in
    cond (eqb (denial_at s who i) 0) (record { answer = c.answer; state = with_state s i c.state }) (refused_table (denial_at s who i) s)

-- a place closed, or refused
unfoldable pub close_table : List ℕ → ℕ → ℕ → Called
close_table s who i =
    cond (eqb (denial_at s who i) 0) (record { answer = 0; state = set s (place_start i) nobody }) (refused_table (denial_at s who i) s)
