-- Where the test passes, feeding is taking a nibble with the body lent; else 11, and nothing moves.
use mathlib.Core.Path.{sym, ◌∙◌}
use lib.ListN.{length}
use borrow.Author.Rules.{rules}
use Rattle.reader.specs.ReaderLaws.{legible_feed}
use Rattle.reader.proofs.Taking.{feed_goes, feed_fails, feeds, feed_refuses}
use Rattle.reader.proofs.Reader.feed.Goals as goal

pub returns-then-passes : goal.returns-then-passes
returns-then-passes c =
    let a = c.args in
    let b = a.buffer.now in
    let q = feed_goes a.self a.nibble (length b) (sym c.passes.ensures ∙ c.if-passes.true) (search rules) in
    feeds q c.take-t.ensures (legible_feed a.self a.nibble (length b) b)

pub returns : goal.returns
returns c =
    let a = c.args in
    feed_refuses a.self a.buffer.now (feed_fails a.self a.nibble (length a.buffer.now) (sym c.passes.ensures ∙ c.if-passes.false))
