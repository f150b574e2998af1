-- The kinds, then the places, are what differs between the lines.
use mathlib.Core.Path.{sym}
use Rattle.text.specs.PutLaws.{then}
use Rattle.diff_records.proofs.DifferenceLaws.{between_is}
use Rattle.diff_records.specs.RestLaws.{puts_is}
use Rattle.diff_records.proofs.put_between.Goals as goal

pub returns : goal.returns
returns c =
    let given = c.requires in
    let put_kinds = c.put_kinds-places_at in
    let a = c.args in
    puts_is (sym (between_is a.a.now a.b.now a.n given.2)) (then put_kinds.ensures c.put_places.ensures)
