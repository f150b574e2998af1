-- Each test that fails makes it no number; past them one digit more stays within 65,535.
use borrow.Author.Tests.{lt-ltb, le-ltb}
use Rattle.named_value.specs.Number.{digit_onto}
use Rattle.named_value.proofs.digit_onto.Goals as goal

pub returns-then-c-lt48 : goal.returns-then-c-lt48
unfolding digit_onto
returns-then-c-lt48 c = simp (lt-ltb _ _ c.if-c-lt48.true)

pub returns-then-c-gt57 : goal.returns-then-c-gt57
unfolding digit_onto
returns-then-c-gt57 c = simp (le-ltb _ _ c.if-c-lt48.false, lt-ltb _ _ c.if-c-gt57.true)

pub returns-then-n-gt6553 : goal.returns-then-n-gt6553
unfolding digit_onto
returns-then-n-gt6553 c = simp (le-ltb _ _ c.if-c-lt48.false, le-ltb _ _ c.if-c-gt57.false, lt-ltb _ _ c.if-n-gt6553.true)

pub returns-then-more-gt65535 : goal.returns-then-more-gt65535
unfolding digit_onto
returns-then-more-gt65535 c = simp (le-ltb _ _ c.if-c-lt48.false, le-ltb _ _ c.if-c-gt57.false, le-ltb _ _ c.if-n-gt6553.false, lt-ltb _ _ c.if-more-gt65535.true)

pub returns : goal.returns
unfolding digit_onto
returns c = simp (le-ltb _ _ c.if-c-lt48.false, le-ltb _ _ c.if-c-gt57.false, le-ltb _ _ c.if-n-gt6553.false, le-ltb _ _ c.if-more-gt65535.false)
