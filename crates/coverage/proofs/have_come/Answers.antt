-- `all` answers as the definition does, whichever end the places are taken from.
use Rattle.std.proofs.Common.{◌+◌, refl, ap, ◌∙◌, arith, rules, tests}
use Rattle.std.proofs.lemmas.Iterator.{YieldsList-from_range}
use Rattle.std.proofs.lemmas.Iterator.Search.{all_from_yields_List}
use Rattle.line_code.specs.LineCode.{kind_number}
use Rattle.frame_layout.specs.FrameLayout.{kind_at_place}
use Rattle.frame_layout.specs.PlaceLaws.{last_small, end_within}
use Rattle.coverage.specs.Coverage.{has_come, all_came}
use Rattle.coverage.proofs.Upward.{came_upward}
use Rattle.coverage.proofs.have_come.Goals as goal

pub overflow_add-lines : goal.overflow_add-lines
overflow_add-lines c = omega (arith, c.end_place-lines.ensures, end_within c.args.profile c.args.borders, last_small c.args.profile)

pub returns : goal.returns
returns c =
    let a = c.args in
    all_from_yields_List (λ place. has_come a.came.now (kind_number (kind_at_place a.profile a.borders place)) place) _ _ _ c.all.ensures.ran (YieldsList-from_range 0 _ (c.end_place-lines.result + 1) refl (omega arith)) (λ x b q k. search (rules, tests))
    ∙ came_upward a.profile a.borders a.came.now (c.end_place-lines.result + 1)
    ∙ ap (λ n. all_came a.profile a.borders a.came.now (n + 1)) c.end_place-lines.ensures
