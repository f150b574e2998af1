-- The line's first word is the word where the line starts with it and the word ends there.
use mathlib.Core.Path.{sym, ◌∙◌}
use Rattle.named_value.proofs.FirstWord.{first_word_starts}
use Rattle.named_value.proofs.begins.Goals as goal

pub returns-then-starts_with : goal.returns-then-starts_with
returns-then-starts_with c = c.ends_word.ensures ∙ sym (first_word_starts c.args.word.now c.args.line.now ∙ simp (← c.starts_with.ensures.value, c.if-starts_with.true))

pub returns-else-starts_with : goal.returns-else-starts_with
returns-else-starts_with c = sym (first_word_starts c.args.word.now c.args.line.now ∙ simp (← c.starts_with.ensures.value, c.if-starts_with.false))
