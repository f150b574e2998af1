-- Only a gap's answer brings a row: what its halves are, or its refusal.
use mathlib.Core.Path.{refl}
use native.Mathlib.Omega.{arith}
use Rattle.text.specs.PutLaws.{none}
use Rattle.mean_rows.specs.MeanRows.{means_row}
use Rattle.list_means.specs.MeanLister.{answer_row}
use borrow.Author.Rules.{rules}
use Rattle.list_means.proofs.put_answer.Goals as goal

pub returns-in-Nothing : goal.returns-in-Nothing
unfolding answer_row
returns-in-Nothing c = simp c.in-Nothing.is (none _ _ _ (omega (arith, c.requires.1)) refl)

pub returns-in-Line : goal.returns-in-Line
unfolding answer_row
returns-in-Line c = simp c.in-Line.is (none _ _ _ (omega (arith, c.requires.1)) refl)

pub returns-in-Gap : goal.returns-in-Gap
unfolding answer_row
returns-in-Gap c = simp c.in-Gap.is c.put_gap.ensures

pub returns-in-Refused : goal.returns-in-Refused
unfolding answer_row means_row
returns-in-Refused c = simp c.in-Refused.is c.put_row.ensures
