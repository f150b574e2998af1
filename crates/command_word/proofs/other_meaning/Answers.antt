-- The tests in order, each by its answer.
use Rattle.command_word.specs.Word.{other_word}
use Rattle.command_word.proofs.other_meaning.Goals as goal

pub returns-then-is : goal.returns-then-is
unfolding other_word
returns-then-is c = simp (← c.is.ensures, c.if-is.true)

pub returns-then-is-2 : goal.returns-then-is-2
unfolding other_word
returns-then-is-2 c =
    simp (← c.is.ensures, c.if-is.false, ← c.is-2.ensures, c.if-is-2.true)

pub returns-then-has_dash : goal.returns-then-has_dash
unfolding other_word
returns-then-has_dash c =
    simp (
      ← c.is.ensures,
      c.if-is.false,
      ← c.is-2.ensures,
      c.if-is-2.false,
      ← c.has_dash.ensures,
      c.if-has_dash.true,
    )

pub returns : goal.returns
unfolding other_word
returns c =
    simp (
      ← c.is.ensures,
      c.if-is.false,
      ← c.is-2.ensures,
      c.if-is-2.false,
      ← c.has_dash.ensures,
      c.if-has_dash.false,
    )
    c.mark_or_name.ensures
