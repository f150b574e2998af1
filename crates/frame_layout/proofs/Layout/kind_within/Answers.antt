-- The ranges are tested from the first place up: where one test holds all before it have failed, so the place lies in that range.
use borrow.Author.Tests.{lt-ltb, le-ltb, le-leb, lt-leb, eq-eqb, ne_eqb}
use Rattle.frame_layout.specs.Places.{kind_within}
use Rattle.frame_layout.proofs.Layout.kind_within.Goals as goal

pub returns-then-place-lt-FIRST_BLACK : goal.returns-then-place-lt-FIRST_BLACK
unfolding kind_within
returns-then-place-lt-FIRST_BLACK c = simp (lt-ltb _ _ c.if-place-lt-FIRST_BLACK.true)

pub returns-then-place-lt-FIRST_BLANK : goal.returns-then-place-lt-FIRST_BLANK
unfolding kind_within
returns-then-place-lt-FIRST_BLANK c = simp (le-ltb _ _ c.if-place-lt-FIRST_BLACK.false, lt-ltb _ _ c.if-place-lt-FIRST_BLANK.true)

pub returns-then-place-self : goal.returns-then-place-self
unfolding kind_within
returns-then-place-self c = simp (le-ltb _ _ c.if-place-lt-FIRST_BLACK.false, le-ltb _ _ c.if-place-lt-FIRST_BLANK.false, lt-ltb _ _ c.if-place-self.true)

pub returns-then-place-self-2 : goal.returns-then-place-self-2
unfolding kind_within
returns-then-place-self-2 c = simp (le-ltb _ _ c.if-place-lt-FIRST_BLACK.false, le-ltb _ _ c.if-place-lt-FIRST_BLANK.false, le-ltb _ _ c.if-place-self.false, le-leb _ _ c.if-place-self-2.true)

pub returns-then-place-self-3 : goal.returns-then-place-self-3
unfolding kind_within
returns-then-place-self-3 c =
    let test_1 = c.if-place-lt-FIRST_BLACK in
    simp (le-ltb _ _ test_1.false, le-ltb _ _ c.if-place-lt-FIRST_BLANK.false, le-ltb _ _ c.if-place-self.false, lt-leb _ _ c.if-place-self-2.false, eq-eqb _ _ c.if-place-self-3.true)

pub returns : goal.returns
unfolding kind_within
returns c =
    let test_1 = c.if-place-lt-FIRST_BLACK in
    simp (le-ltb _ _ test_1.false, le-ltb _ _ c.if-place-lt-FIRST_BLANK.false, le-ltb _ _ c.if-place-self.false, lt-leb _ _ c.if-place-self-2.false, ne_eqb _ _ c.if-place-self-3.false)
