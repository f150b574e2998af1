-- The kind by ranges in the frame's layout is the kind in its list of kinds (PlaceLaws).
use mathlib.Core.Path.{sym, ap, ◌∙◌}
use Rattle.frame_layout.specs.declared.Layout.{Layout}
use Rattle.frame_layout.specs.Places.{kind_within}
use Rattle.frame_layout.specs.PlaceLaws.{kind_by_range}
use borrow.Author.Rules.{rules}
use Rattle.frame_layout.proofs.Borders.kind_at_place.Goals as goal

pub returns : goal.returns
returns c =
    c.kind_within.ensures ∙ ap (λ (l : Layout). kind_within l c.args.place) c.layout.ensures ∙ sym (kind_by_range _ _ _)
