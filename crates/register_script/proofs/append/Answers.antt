-- Where there is room the character is stored after those kept; where there is none the buffer stays.
use borrow.Author.Rules.{rules}
use Rattle.register_script.specs.ScriptLaws.{keeps_one, keeps_none}
use Rattle.register_script.proofs.append.Goals as goal

pub returns-then-length-line : goal.returns-then-length-line
returns-then-length-line c = keeps_one _ _ _ c.if-length-line.true

pub returns : goal.returns
returns c = keeps_none _ _ _ c.if-length-line.false
