-- A reader's own body is as long as the longest, so lending it refuses nothing more.
use lib.ListN.{length}
use borrow.Author.Rules.{rules}
use Rattle.run.proofs.Running.{lent_right, by_value}
use Rattle.run.proofs.run.Goals as goal

pub returns : goal.returns
returns c =
    let a = c.args in
    let e = c.run_lent-t.ensures in
    let q = lent_right a.reader.head a.reader.body a.nibbles.now (length a.buffer.now) (search rules) in
    by_value q e
