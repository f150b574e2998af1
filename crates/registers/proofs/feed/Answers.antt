-- The text for a line is within the buffer that it was put in, so the front that is written has its length.
use mathlib.Core.Path.{sym}
use lib.Seq.{length-take-le}
use Rattle.register_script.specs.ScriptLaws.{text_within}
use borrow.Author.Rules.{rules}
use Rattle.registers.proofs.feed.Goals as goal

pub slice_bounds-out-end : goal.slice_bounds-out-end
slice_bounds-out-end c =
    let feed = c.feed-fed in
    text_within _ _ feed.ensures.tells

pub slice_bounds-write-end : goal.slice_bounds-write-end
slice_bounds-write-end c =
    let feed = c.feed-fed in
    sym (length-take-le _ _ (text_within _ _ feed.ensures.tells))
