-- Within the eight the element is the same whatever stands for an absent one; past them it is a free place.
use mathlib.Core.Path.{◌≡◌, ◌∙◌, sym}
use native.Mathlib.Omega.{arith}
use lib.ListN.{length, get_or-eq_default}
use Rattle.reader_table.specs.Table.{free_place, place_at}
use Rattle.reader_table.proofs.Places.{length_of, absent, any_default}
use borrow.Author.Rules.{rules}
use Rattle.reader_table.proofs.ReaderTable.place_at.Goals as goal

pub returns-then-place-lt-PLACES : goal.returns-then-place-lt-PLACES
unfolding place_at
returns-then-place-lt-PLACES c =
    let a = c.args in
    let l : length a.self.places ≡ 8 = search (rules, length_of) in
    any_default a.self.places a.place absent free_place (omega (arith, l, c.if-place-lt-PLACES.true))

pub returns : goal.returns
unfolding place_at
returns c =
    let a = c.args in
    let l : length a.self.places ≡ 8 = search (rules, length_of) in
    c.free.ensures ∙ sym (get_or-eq_default a.self.places free_place {n = a.place} (omega (arith, l, c.if-place-lt-PLACES.false)))
