-- `position` finds the lowest place whose owner is nobody.
use Rattle.std.proofs.Common.{◌≡◌, ◌∙◌, length, rules, tests}
use Rattle.std.proofs.lemmas.Iterator.{YieldsList-from_slice}
use Rattle.std.proofs.lemmas.Iterator.Search.{position_from_yields_List}
use Rattle.reader_table.proofs.Places.{length_of, is_free, lowest_found}
use Rattle.reader_table.proofs.ReaderTable.lowest_free.Goals as goal

pub returns : goal.returns
returns c =
    let ps = c.args.self.places in
    let l : length ps ≡ 8 = search (rules, length_of) in
    let e = position_from_yields_List is_free _ _ c.position.result c.position.ensures.ran (YieldsList-from_slice ps (cc)) (λ x b q k. search (rules, tests)) in
    c.unwrap_or.ensures ∙ lowest_found ps _ 8 l e
