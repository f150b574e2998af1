-- By the one test.
use borrow.Author.Tests.{eq-eqb, ne_eqb}
use native.Mathlib.Omega.{arith}
use Rattle.saved_text.specs.SettingsText.{cover_of}
use Rattle.saved_text.proofs.covers.Goals as goal

pub returns-then-c-eq13 : goal.returns-then-c-eq13
unfolding cover_of
returns-then-c-eq13 c = (simp (eq-eqb _ _ c.if-c-eq13.true), omega arith)

pub returns : goal.returns
unfolding cover_of
returns c = (simp (ne_eqb _ _ c.if-c-eq13.false), omega arith)
