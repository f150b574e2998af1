-- By the length of the rows: one of the two border settings has it, or 21.
use mathlib.Core.Path.{sym, ◌∙◌}
use borrow.Author.Tests.{eq-eqb, ne_eqb}
use Rattle.lent_buffer.specs.FilledLaws.{refuses}
use Rattle.picture_file.specs.declared.Format.TheVariants.{Bordered, Plain}
use Rattle.picture_file.specs.PictureFile.{size, either, write_of}
use Rattle.pgm.proofs.write.Goals as goal

pub returns-then-rows-size : goal.returns-then-rows-size
unfolding write_of either
returns-then-rows-size c = simp (eq-eqb _ (size Bordered) (c.if-rows-size.true ∙ c.size.ensures)) c.write_as.ensures

pub returns-then-rows-size-2 : goal.returns-then-rows-size-2
unfolding write_of either
returns-then-rows-size-2 c =
    let size_there = c.size in
    simp (ne_eqb _ (size Bordered) (λ e. c.if-rows-size.false (e ∙ sym size_there.ensures)), eq-eqb _ (size Plain) (c.if-rows-size-2.true ∙ c.size-2.ensures))
    c.write_as-then-rows-size-2.ensures

pub returns : goal.returns
unfolding write_of either
returns c =
    refuses _ _ _
    (simp (ne_eqb _ (size Bordered) (λ e. c.if-rows-size.false (e ∙ sym c.size.ensures)), ne_eqb _ (size Plain) (λ e. c.if-rows-size-2.false (e ∙ sym c.size-2.ensures))))
