-- Some line has a kind not 1 to 5 just where some part of the list does.
use Rattle.std.proofs.Common.{not, ◌&&◌, leb, sym, refl, ap, ◌∙◌, rules, tests}
use Rattle.std.proofs.lemmas.Iterator.Search.{any_from_yields_List}
use Rattle.line_code.specs.declared.Kind.TheVariants.{BL, EOF}
use Rattle.line_code.specs.LineCode.{kind_number}
use Rattle.line_records.specs.Lines.{FullLine, front_line, kinds_known}
use Rattle.line_records.proofs.PartsLaws.{chunks_give, fails, parts_pass}
use Rattle.line_records.proofs.some_kind_bad.Goals as goal

pub returns : goal.returns
unfolding front_line
returns c =
    let known = λ (l : FullLine). leb (kind_number BL) l.kind && leb l.kind (kind_number EOF) in
    parts_pass known kinds_known refl (λ _ _. refl) c.args.list.now
    ∙ sym (ap not (any_from_yields_List (fails known) _ _ _ c.any.ensures.ran (chunks_give {s = c.chunks.result} c.args.list.now c.chunks.ensures.rest c.chunks.ensures.size) (λ x b q k. search (rules, tests))))
