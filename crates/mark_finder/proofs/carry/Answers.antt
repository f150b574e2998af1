-- Four bytes, put at the front at once.
use mathlib.Core.Path.{sym, ap, ◌∙◌}
use mathlib.Core.List.{List}
use Prim.Native.Nat.{ℕ}
use lib.Seq.{sets}
use borrow.Author.Tests.{lt-ltb, le-ltb}
use Rattle.mark_finder.specs.MarkFinder.{last_four}
use Rattle.mark_finder.specs.MarkFinderLaws.{four_there}
use borrow.Author.Rules.{rules}
use Rattle.mark_finder.proofs.carry.Goals as goal

pub returns-then-n-lt-OVERLAP : goal.returns-then-n-lt-OVERLAP
unfolding last_four
returns-then-n-lt-OVERLAP c = simp (lt-ltb _ _ c.if-n-lt-OVERLAP.true)

pub returns-then-buf-n : goal.returns-then-buf-n
unfolding last_four
returns-then-buf-n c = simp (le-ltb _ _ c.if-n-lt-OVERLAP.false, lt-ltb _ _ c.if-buf-n.true)

pub returns : goal.returns
unfolding last_four
returns c =
    let buf = c.args.buf in
    let n = c.args.n in
    simp (le-ltb _ _ c.if-n-lt-OVERLAP.false, le-ltb _ _ c.if-buf-n.false)
    (c.put.ensures.stored ∙ ap (λ (w : List ℕ). sets buf.now 0 w) (sym (four_there buf.now n c.if-n-lt-OVERLAP.false c.if-buf-n.false)))
