-- Some line has a number above 4095 just where some part of the list does.
use Rattle.std.proofs.Common.{not, leb, sym, refl, ap, ◌∙◌, rules, tests}
use Rattle.std.proofs.lemmas.Iterator.Search.{any_from_yields_List}
use Rattle.line_number.specs.LineNumber.{greatest}
use Rattle.line_records.specs.Lines.{FullLine, numbers_small}
use Rattle.line_records.proofs.PartsLaws.{chunks_give, fails, parts_pass}
use Rattle.line_records.proofs.some_number_past.Goals as goal

pub returns : goal.returns
returns c =
    let small = λ (l : FullLine). leb l.number greatest in
    parts_pass small numbers_small refl (λ _ _. refl) c.args.list.now
    ∙ sym (ap not (any_from_yields_List (fails small) _ _ _ c.any.ensures.ran (chunks_give {s = c.chunks.result} c.args.list.now c.chunks.ensures.rest c.chunks.ensures.size) (λ x b q k. search (rules, tests))))
