-- Within the eight the element is set; past them nothing is, as in the list.
use mathlib.Core.Path.{◌≡◌, refl, sym, ap}
use mathlib.Core.List.{List}
use native.Mathlib.Omega.{arith}
use lib.ListN.{length}
use Rattle.reader_table.specs.declared.TablePlace.{TablePlace}
use Rattle.reader_table.specs.declared.ReaderTable.{ReaderTable}
use Rattle.reader_table.specs.Table.{with_place}
use Rattle.reader_table.proofs.Places.{length_of, set_out}
use borrow.Author.Rules.{rules}
use Rattle.reader_table.proofs.ReaderTable.put_place.Goals as goal

pub returns-then-place-lt-PLACES : goal.returns-then-place-lt-PLACES
unfolding with_place
returns-then-place-lt-PLACES c = refl

pub returns-else-place-lt-PLACES : goal.returns-else-place-lt-PLACES
unfolding with_place
returns-else-place-lt-PLACES c =
    let a = c.args in
    let l : length a.self.places ≡ 8 = search (rules, length_of) in
    ap {B = ReaderTable} (λ (ps : List TablePlace). record { places = ps })
    (sym (set_out a.self.places a.place a.p (omega (arith, l, c.if-place-lt-PLACES.false))))
