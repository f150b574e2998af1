-- The first character is compared; an empty text has none.
use Rattle.std.proofs.Common.{◌∙◌, take}
use Rattle.text.specs.Text.{ascii}
use Rattle.command_word.proofs.Equal.{equal_is, same_turned}
use Rattle.command_word.proofs.has_dash.Goals as goal

pub returns : goal.returns
returns c =
    let text = c.args.text.now in
    c.starts_with.ensures.value ∙ equal_is (ascii "-") (take 1 text) ∙ same_turned (ascii "-") (take 1 text)
