-- By its first byte.
use borrow.Author.Tests.{eq-eqb, ne_eqb}
use Rattle.diff_records.specs.ReadBack.{front_size}
use borrow.Author.Rules.{rules}
use Rattle.diff_change.proofs.front_size.Goals as goal

pub returns-then-tag-eq-ONLY_FIRST : goal.returns-then-tag-eq-ONLY_FIRST
unfolding front_size
returns-then-tag-eq-ONLY_FIRST c = simp (← c.byte-tag.ensures, eq-eqb _ _ c.if-tag-eq-ONLY_FIRST.true)

pub returns-then-tag-eq-ONLY_SECOND : goal.returns-then-tag-eq-ONLY_SECOND
unfolding front_size
returns-then-tag-eq-ONLY_SECOND c = simp (← c.byte-tag.ensures, ne_eqb _ _ c.if-tag-eq-ONLY_FIRST.false, eq-eqb _ _ c.if-tag-eq-ONLY_SECOND.true)

pub returns-then-tag-eq-BOTH_KINDS : goal.returns-then-tag-eq-BOTH_KINDS
unfolding front_size
returns-then-tag-eq-BOTH_KINDS c = simp (← c.byte-tag.ensures, ne_eqb _ _ c.if-tag-eq-ONLY_FIRST.false, ne_eqb _ _ c.if-tag-eq-ONLY_SECOND.false, eq-eqb _ _ c.if-tag-eq-BOTH_KINDS.true)

pub returns : goal.returns
unfolding front_size
returns c = simp (← c.byte-tag.ensures, ne_eqb _ _ c.if-tag-eq-ONLY_FIRST.false, ne_eqb _ _ c.if-tag-eq-ONLY_SECOND.false, ne_eqb _ _ c.if-tag-eq-BOTH_KINDS.false)
