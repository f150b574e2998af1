-- The tests in order, each by its answer; a word that names no sensor is told by the rest.
use Rattle.command_word.specs.Word.{word_of}
use Rattle.command_word.proofs.meaning.Goals as goal

pub returns-then-is : goal.returns-then-is
unfolding word_of
returns-then-is c = simp (← c.is.ensures, c.if-is.true)

pub returns-then-is-2 : goal.returns-then-is-2
unfolding word_of
returns-then-is-2 c =
    simp (← c.is.ensures, c.if-is.false, ← c.is-2.ensures, c.if-is-2.true)

pub returns-then-is-3 : goal.returns-then-is-3
unfolding word_of
returns-then-is-3 c =
    simp (
      ← c.is.ensures,
      c.if-is.false,
      ← c.is-2.ensures,
      c.if-is-2.false,
      ← c.is-3.ensures,
      c.if-is-3.true,
    )

pub returns : goal.returns
unfolding word_of
returns c =
    simp (
      ← c.is.ensures,
      c.if-is.false,
      ← c.is-2.ensures,
      c.if-is-2.false,
      ← c.is-3.ensures,
      c.if-is-3.false,
    )
    c.other_meaning.ensures
