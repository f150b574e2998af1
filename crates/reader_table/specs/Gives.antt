-- What a call of the table gives back, each as one sentence: the table, the answer, and what was lent to it, as the definition has them.
use Rattle.std.specs.Prelude.{◌≡◌, List, ℕ}
use Rattle.reader_table.specs.declared.TableOpened.{TableOpened}
use Rattle.reader_table.specs.declared.TableFed.{TableFed}
use Rattle.reader_table.specs.declared.TableRunFed.{TableRunFed}
use Rattle.reader_table.specs.Table.{opening_for, PlaceOpened, PlaceCalled}

-- opening
pub record OpenGives (o : PlaceOpened) (r : TableOpened) : Type 0 where
  pub next : r.table ≡ o.table
  pub says : r.answer ≡ opening_for o.placing

-- finish and close: no buffer is lent
pub record PlaceGives (c : PlaceCalled) (r : TableFed) : Type 0 where
  pub next : r.table ≡ c.table
  pub says : r.answer ≡ c.answer

-- feeding
pub record FeedPlaceGives (c : PlaceCalled) (r : TableFed) (after : List ℕ) : Type 0 where
  pub next : r.table ≡ c.table
  pub says : r.answer ≡ c.answer
  pub leaves : after ≡ c.buffer

-- a run
pub record RunPlaceGives (c : PlaceCalled) (r : TableRunFed) (after : List ℕ) : Type 0 where
  pub next : r.table ≡ c.table
  pub says : r.answer ≡ c.answer
  pub count : r.taken ≡ c.taken
  pub leaves : after ≡ c.buffer
