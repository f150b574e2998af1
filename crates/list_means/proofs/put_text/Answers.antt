-- Where a line is awaited nothing is put; else what the gap's answer brings.
use mathlib.Core.Path.{refl}
use native.Mathlib.Omega.{arith}
use Rattle.text.specs.PutLaws.{none}
use Rattle.list_means.specs.MeanLister.{text_of}
use borrow.Author.Rules.{rules}
use Rattle.list_means.proofs.put_text.Goals as goal

pub returns-in-None : goal.returns-in-None
unfolding text_of
returns-in-None c = simp c.in-None.is (none _ _ _ (omega (arith, c.requires.1)) refl)

pub returns-in-Some : goal.returns-in-Some
unfolding text_of
returns-in-Some c = simp c.in-Some.is c.put_answer.ensures
