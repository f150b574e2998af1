-- The tests in the order of the definition: length, pixels, room; past them the rows are copied to the front.
use mathlib.Core.Path.{refl, sym, ap, ◌∙◌}
use mathlib.Core.List.{List, ◌++◌}
use Prim.Native.Nat.{ℕ}
use borrow.Author.Tests.{eq-eqb, ne_eqb, lt-leb, le-leb}
use lib.ListN.{length, drop}
use Rattle.lent_buffer.specs.Filled.{require}
use Rattle.lent_buffer.specs.FilledLaws.{refuses, fills}
use Rattle.picture_file.specs.PictureFile.{size}
use Rattle.pgm.proofs.read_as.Goals as goal

pub returns-then-body-size : goal.returns-then-body-size
unfolding require
returns-then-body-size c = refuses _ _ _ (simp (ne_eqb _ (size c.args.format) (λ e. c.if-body-size.true (e ∙ sym c.size.ensures))))

pub returns-then-rows-body : goal.returns-then-rows-body
unfolding require
returns-then-rows-body c =
    let args = c.args in
    refuses _ _ _
    (simp (eq-eqb _ (size args.format) (c.if-body-size.false ∙ c.size.ensures), ← c.all_pixels.ensures, c.if-all_pixels.true, lt-leb _ _ c.if-rows-body.true))

pub returns-then-all_pixels : goal.returns-then-all_pixels
unfolding require
returns-then-all_pixels c =
    let a = c.args in
    fills _ _ a.body.now _ _
    (simp (eq-eqb _ (size a.format) (c.if-body-size.false ∙ c.size.ensures), ← c.all_pixels.ensures, c.if-all_pixels.true, le-leb _ _ c.if-rows-body.false))
    refl
    (ap (λ (l : List ℕ). l ++ drop (length a.body.now) a.rows.now) c.copy_from_slice.ensures.after)

pub returns : goal.returns
unfolding require
returns c =
    refuses _ _ _
    (simp (eq-eqb _ (size c.args.format) (c.if-body-size.false ∙ c.size.ensures), ← c.all_pixels.ensures, c.if-all_pixels.false))
