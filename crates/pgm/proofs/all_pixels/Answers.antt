-- `all` answers as the definition does, which recurses as `list_all`.
use Rattle.std.proofs.Common.{◌&&◌, refl, ◌∙◌, rules, tests}
use Rattle.std.specs.List.{list_all}
use Rattle.std.proofs.lemmas.Iterator.{YieldsList-from_slice}
use Rattle.std.proofs.lemmas.Iterator.Search.{all_from_yields_List}
use Rattle.std.proofs.lemmas.List.Recursion.{same_from_clauses}
use Rattle.profile.specs.Layout.{is_pixel}
use Rattle.picture_file.specs.PictureFile.{pixels}
use Rattle.pgm.proofs.all_pixels.Goals as goal

pub returns : goal.returns
returns c =
    all_from_yields_List is_pixel _ _ _ c.all.ensures.ran (YieldsList-from_slice c.args.bytes.now cc) (λ x b q k. search (rules, tests))
    ∙ same_from_clauses (list_all is_pixel) pixels (λ x r. is_pixel x && r) refl (λ _ _. refl) (λ _ _. refl) c.args.bytes.now
