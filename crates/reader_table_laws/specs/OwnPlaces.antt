-- Each feeds, finishes and closes only places they opened (02, A12), as a statement over histories. Definitions only.
use Rattle.std.specs.Prelude.{◌≡◌, Bool, false, ◌&&◌, ◌||◌, List, [], ◌∷◌, ◌++◌, ℕ, eqb}
use Rattle.refusal.specs.Refusal.{no_such_technician, place_not_held}
use Rattle.stream.specs.declared.Answer.{Answer}
use Rattle.stream.specs.declared.Answer.TheVariants as answers
use Rattle.refinement.specs.Runs.{RunCall}
use Rattle.reader_table.specs.declared.ReaderTable.{ReaderTable}
use Rattle.reader_table.specs.Table.{empty_table, at_place, open_place_of, call_place_of, close_place_of}
use Rattle.reader_table_laws.specs.History.{TableRequest, to_open, to_read, to_close, TableCall, table_after}

-- whether an answer is 32 or 34
abbrev pub is_denial : Answer → Bool
is_denial answers.Nothing = false
is_denial (answers.Line f) = false
is_denial (answers.Gap g) = false
is_denial (answers.Refused r) = eqb r.0 no_such_technician || eqb r.0 place_not_held

-- whether a request is to close the place i
abbrev pub is_close : ℕ → TableRequest → Bool
is_close i (to_open n) = false
is_close i (to_read j c) = false
is_close i (to_close j) = eqb j i

-- whether a technician closes it in a history
abbrev pub closes_in : ℕ → ℕ → List TableCall → Bool
closes_in who i [] = false
closes_in who i (c ∷ h) = (eqb c.who who && is_close i c.request) || closes_in who i h

-- a history from the table t on that has an opening by who, answered with the place i, and no later close of it by them
pub record OpenedIn (t : ReaderTable) (who i : ℕ) (h : List TableCall) : Type 0 where
  pub before : List TableCall
  pub profile : ℕ
  pub after : List TableCall
  pub has_opening : before ++ (record { who = who; request = to_open profile } ∷ after) ≡ h
  pub given : (open_place_of (table_after t before) who profile).placing ≡ at_place i
  pub not_closed : closes_in who i after ≡ false

-- after a history from an empty table, a call of a place is refused neither 32 nor 34 exactly when the history has an opening by its caller,
-- answered with that place, and no later close of it by them
pub record OnlyOpened (who i : ℕ) (h : List TableCall) : Type 0 where
  -- a feed, a run or a finish
  pub called_opened : (c : RunCall) → is_denial (call_place_of (table_after empty_table h) who i c).answer ≡ false → OpenedIn empty_table who i h
  pub opened_called : (c : RunCall) → OpenedIn empty_table who i h → is_denial (call_place_of (table_after empty_table h) who i c).answer ≡ false
  -- a close
  pub closed_opened : is_denial (close_place_of (table_after empty_table h) who i).answer ≡ false → OpenedIn empty_table who i h
  pub opened_closed : OpenedIn empty_table who i h → is_denial (close_place_of (table_after empty_table h) who i).answer ≡ false
