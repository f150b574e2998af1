-- The kinds, then the places, are what differs between the lines.
use mathlib.Core.Path.{◌∙◌}
use Rattle.diff_summary.specs.SummaryLaws.{between_counted}
use Rattle.diff_summary.proofs.Summary.with_between.Goals as goal

pub returns : goal.returns
returns c =
    let a = c.args in
    c.with_places.ensures ∙ simp c.with_kinds-s.ensures (between_counted a.a.now a.b.now a.n c.requires.2 a.self)
