-- One refusal after another is tried, in the order of the definition; the words of the one that it is are put.
use Rattle.settings_replies.specs.SettingsWords.{settings_refusal}
use Rattle.settings_replies.proofs.put_words.Goals as goal

pub returns-then-eq : goal.returns-then-eq
unfolding settings_refusal
returns-then-eq c =
    simp (← c.eq.ensures, c.if-eq.true) c.put.ensures

pub returns-then-eq-2 : goal.returns-then-eq-2
unfolding settings_refusal
returns-then-eq-2 c =
    simp (← c.eq.ensures, c.if-eq.false, ← c.eq-2.ensures, c.if-eq-2.true) c.put-then-eq-2.ensures

pub returns-then-eq-3 : goal.returns-then-eq-3
unfolding settings_refusal
returns-then-eq-3 c =
    simp (← c.eq.ensures, c.if-eq.false, ← c.eq-2.ensures, c.if-eq-2.false, ← c.eq-3.ensures, c.if-eq-3.true) c.put-then-eq-3.ensures

pub returns : goal.returns
unfolding settings_refusal
returns c =
    simp (← c.eq.ensures, c.if-eq.false, ← c.eq-2.ensures, c.if-eq-2.false, ← c.eq-3.ensures, c.if-eq-3.false) c.put-2.ensures
