-- 32 where the number is no technician's, then 11 where the other is no profile's; else the lowest free place is looked for.
use Rattle.reader_table.specs.Table.{open_place_of}
use Rattle.reader_table.proofs.ReaderTable.open_reader.Goals as goal

pub returns-in-Some : goal.returns-in-Some
unfolding open_place_of
returns-in-Some c =
    let who = c.is_technician.ensures in
    let taken = c.if-is_technician.true in
    let found = c.in-Some.ensures in
    let e = c.open_place.ensures in
    record { next = simp (← who, taken, ← found, e.next); says = simp (← who, taken, ← found, e.says) }

pub returns-in-None : goal.returns-in-None
unfolding open_place_of
returns-in-None c =
    let who = c.is_technician.ensures in
    let taken = c.if-is_technician.true in
    let none = c.in-None.ensures in
    let e = c.not_opened.ensures in
    record { next = simp (← who, taken, ← none, e.next); says = simp (← who, taken, ← none, e.says) }

pub returns : goal.returns
unfolding open_place_of
returns c =
    let who = c.is_technician.ensures in
    let left = c.if-is_technician.false in
    let e = c.not_opened-2.ensures in
    record { next = simp (← who, left, e.next); says = simp (← who, left, e.says) }
