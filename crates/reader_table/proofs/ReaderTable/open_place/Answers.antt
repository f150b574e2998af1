-- A fresh reader goes to the lowest free place where there is one; else 33.
use mathlib.Core.Path.{◌≡◌}
use borrow.Author.Tests.{lt-ltb, le-ltb}
use lib.ListN.{length}
use Rattle.reader_table.specs.Table.{open_place}
use Rattle.reader_table.proofs.Places.{length_of}
use borrow.Author.Rules.{rules}
use Rattle.reader_table.proofs.ReaderTable.open_place.Goals as goal

pub returns-then-place-lt-PLACES : goal.returns-then-place-lt-PLACES
unfolding open_place
returns-then-place-lt-PLACES c =
    let lowest = c.lowest_free-place.ensures in
    let l : length c.args.self.places ≡ 8 = search (rules, length_of) in
    let below = lt-ltb _ _ c.if-place-lt-PLACES.true in
    record { next = simp (← lowest, l, below, c.with_reader-table.ensures, c.fresh-reader.ensures); says = simp (← lowest, l, below) }

pub returns : goal.returns
unfolding open_place
returns c =
    let lowest = c.lowest_free-place.ensures in
    let l : length c.args.self.places ≡ 8 = search (rules, length_of) in
    let none = le-ltb _ _ c.if-place-lt-PLACES.false in
    let e = c.not_opened.ensures in
    record { next = simp (← lowest, l, none, e.next); says = simp (← lowest, l, none, e.says) }
