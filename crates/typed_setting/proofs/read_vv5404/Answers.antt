-- One word after another is tried, in the order of the definition; a word that begins the line settles which registers it names.
use borrow.Author.Rules.{rules}
use Rattle.typed_setting.specs.Setting.{setting_vv5404}
use Rattle.typed_setting.proofs.read_vv5404.Goals as goal

pub returns-then-begins : goal.returns-then-begins
unfolding setting_vv5404
returns-then-begins c =
    simp (← c.begins.ensures, c.if-begins.true, c.double.ensures)

pub returns-then-begins-2 : goal.returns-then-begins-2
unfolding setting_vv5404
returns-then-begins-2 c =
    simp (← c.begins.ensures, c.if-begins.false, ← c.begins-2.ensures, c.if-begins-2.true, c.double-then-begins-2.ensures)

pub returns-then-begins-3 : goal.returns-then-begins-3
unfolding setting_vv5404
returns-then-begins-3 c =
    simp (← c.begins.ensures, c.if-begins.false, ← c.begins-2.ensures, c.if-begins-2.false, ← c.begins-3.ensures, c.if-begins-3.true, c.gain_code.ensures, c.value.ensures)

pub returns-then-begins-4 : goal.returns-then-begins-4
unfolding setting_vv5404
returns-then-begins-4 c =
    simp (← c.begins.ensures, c.if-begins.false, ← c.begins-2.ensures, c.if-begins-2.false, ← c.begins-3.ensures, c.if-begins-3.false, ← c.begins-4.ensures, c.if-begins-4.true, c.single.ensures)

pub returns : goal.returns
unfolding setting_vv5404
returns c =
    simp (← c.begins.ensures, c.if-begins.false, ← c.begins-2.ensures, c.if-begins-2.false, ← c.begins-3.ensures, c.if-begins-3.false, ← c.begins-4.ensures, c.if-begins-4.false, c.read_shared.ensures)
