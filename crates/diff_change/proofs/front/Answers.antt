-- By its first byte.
use borrow.Author.Tests.{eq-eqb, ne_eqb}
use Rattle.diff_records.specs.ReadBack.{front_of}
use borrow.Author.Rules.{rules}
use Rattle.diff_change.proofs.front.Goals as goal

pub returns-then-tag-eq-ONLY_FIRST : goal.returns-then-tag-eq-ONLY_FIRST
unfolding front_of
returns-then-tag-eq-ONLY_FIRST c = simp (← c.byte-tag.ensures, eq-eqb _ _ c.if-tag-eq-ONLY_FIRST.true, c.two-number.ensures.0)

pub returns-then-tag-eq-ONLY_SECOND : goal.returns-then-tag-eq-ONLY_SECOND
unfolding front_of
returns-then-tag-eq-ONLY_SECOND c = simp (← c.byte-tag.ensures, ne_eqb _ _ c.if-tag-eq-ONLY_FIRST.false, eq-eqb _ _ c.if-tag-eq-ONLY_SECOND.true, c.two-number.ensures.0)

pub returns-then-tag-eq-BOTH_KINDS : goal.returns-then-tag-eq-BOTH_KINDS
unfolding front_of
returns-then-tag-eq-BOTH_KINDS c = simp (← c.byte-tag.ensures, ne_eqb _ _ c.if-tag-eq-ONLY_FIRST.false, ne_eqb _ _ c.if-tag-eq-ONLY_SECOND.false, eq-eqb _ _ c.if-tag-eq-BOTH_KINDS.true, c.two-number.ensures.0, c.byte.ensures, c.byte-then-tag-eq-BOTH_KINDS.ensures)

pub returns : goal.returns
unfolding front_of
returns c =
    simp (← c.byte-tag.ensures, ne_eqb _ _ c.if-tag-eq-ONLY_FIRST.false, ne_eqb _ _ c.if-tag-eq-ONLY_SECOND.false, ne_eqb _ _ c.if-tag-eq-BOTH_KINDS.false, c.two-number.ensures.0, c.two.ensures.0, c.byte-2.ensures, c.byte-3.ensures)
