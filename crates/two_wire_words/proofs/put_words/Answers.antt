-- One refusal after another is tried, in the order of the definition; the words of the one that it is are put.
use borrow.Author.Rules.{rules}
use Rattle.two_wire_words.specs.Words.{refusal_words}
use Rattle.two_wire_words.proofs.put_words.Goals as goal

pub returns-then-eq : goal.returns-then-eq
unfolding refusal_words
returns-then-eq c =
    simp (← c.eq.ensures, c.if-eq.true) c.put.ensures

pub returns-then-eq-2 : goal.returns-then-eq-2
unfolding refusal_words
returns-then-eq-2 c =
    simp (← c.eq.ensures, c.if-eq.false, ← c.eq-2.ensures, c.if-eq-2.true) c.put-then-eq-2.ensures

pub returns-then-eq-3 : goal.returns-then-eq-3
unfolding refusal_words
returns-then-eq-3 c =
    simp (← c.eq.ensures, c.if-eq.false, ← c.eq-2.ensures, c.if-eq-2.false, ← c.eq-3.ensures, c.if-eq-3.true) c.put-then-eq-3.ensures

pub returns-then-eq-4 : goal.returns-then-eq-4
unfolding refusal_words
returns-then-eq-4 c =
    simp (← c.eq.ensures, c.if-eq.false, ← c.eq-2.ensures, c.if-eq-2.false, ← c.eq-3.ensures, c.if-eq-3.false, ← c.eq-4.ensures, c.if-eq-4.true) c.put-then-eq-4.ensures

pub returns-then-eq-5 : goal.returns-then-eq-5
unfolding refusal_words
returns-then-eq-5 c =
    simp (← c.eq.ensures, c.if-eq.false, ← c.eq-2.ensures, c.if-eq-2.false, ← c.eq-3.ensures, c.if-eq-3.false, ← c.eq-4.ensures, c.if-eq-4.false, ← c.eq-5.ensures, c.if-eq-5.true) c.put-then-eq-5.ensures

pub returns-then-eq-6 : goal.returns-then-eq-6
unfolding refusal_words
returns-then-eq-6 c =
    simp (← c.eq.ensures, c.if-eq.false, ← c.eq-2.ensures, c.if-eq-2.false, ← c.eq-3.ensures, c.if-eq-3.false, ← c.eq-4.ensures, c.if-eq-4.false, ← c.eq-5.ensures, c.if-eq-5.false, ← c.eq-6.ensures, c.if-eq-6.true) c.put-then-eq-6.ensures

pub returns : goal.returns
unfolding refusal_words
returns c =
    simp (← c.eq.ensures, c.if-eq.false, ← c.eq-2.ensures, c.if-eq-2.false, ← c.eq-3.ensures, c.if-eq-3.false, ← c.eq-4.ensures, c.if-eq-4.false, ← c.eq-5.ensures, c.if-eq-5.false, ← c.eq-6.ensures, c.if-eq-6.false) c.put-2.ensures
