-- `==` answers as the definition does.
use Rattle.std.proofs.Common.{◌∙◌}
use Rattle.command_word.proofs.Equal.{equal_is}
use Rattle.command_word.proofs.is.Goals as goal

pub returns : goal.returns
returns c = c.eq.ensures ∙ equal_is c.args.text.now c.args.that.now
