-- Each refusal is one test that fails after those before it passed; else the differences are put, and fit.
use mathlib.Core.Path.{sym, ap, ◌∙◌}
use Prim.Native.Nat.{ℕ, ◌≤◌}
use borrow.Author.Tests.{leb-true}
use lib.ListN.{length, drop}
use Rattle.lent_buffer.specs.Filled.{used, require}
use Rattle.lent_buffer.specs.FilledLaws.{refuses, fills}
use Rattle.text.specs.PutLaws.{puts_front}
use Rattle.line_records.specs.Lines.{full_lines}
use Rattle.diff_records.specs.Difference.{differences, encoded_all}
use Rattle.diff_lines.specs.Compare.{compare_of}
use mathlib.Core.List.{◌++◌}
use Rattle.diff_lines.proofs.compare.Goals as goal

pub returns-then-either_falls : goal.returns-then-either_falls
unfolding compare_of require
returns-then-either_falls c = refuses _ _ _ (simp (c.either_falls.ensures, c.if-either_falls.true))

pub returns-then-either_past : goal.returns-then-either_past
unfolding compare_of require
returns-then-either_past c = refuses _ _ _ (simp (c.either_falls.ensures, c.if-either_falls.false, c.either_past.ensures, c.if-either_past.true))

pub returns-then-either_bad : goal.returns-then-either_bad
unfolding compare_of require
returns-then-either_bad c =
    refuses _ _ _ (simp (c.either_falls.ensures, c.if-either_falls.false, c.either_past.ensures, c.if-either_past.false, c.either_bad.ensures, c.if-either_bad.true))

pub returns-then-either_cut : goal.returns-then-either_cut
unfolding compare_of require
returns-then-either_cut c =
    refuses _ _ _ (simp (c.either_falls.ensures, c.if-either_falls.false, c.either_past.ensures, c.if-either_past.false, c.either_bad.ensures, c.if-either_bad.false, c.either_cut.ensures, c.if-either_cut.true))

pub returns-then-fits : goal.returns-then-fits
unfolding compare_of require
returns-then-fits c =
    let lists = c.args in
    let all = encoded_all (differences (full_lines lists.first.now) (full_lines lists.second.now)) in
    let h : length all ≤ length lists.buffer.now = leb-true (length all) (length lists.buffer.now) (sym c.fits.ensures ∙ c.if-fits.true) in
    let q = puts_front c.put_all-end.ensures h in
    fills _ _ all _ _ (simp (c.either_falls.ensures, c.if-either_falls.false, c.either_past.ensures, c.if-either_past.false, c.either_bad.ensures, c.if-either_bad.false, c.either_cut.ensures, c.if-either_cut.false, ← c.fits.ensures, c.if-fits.true) (ap (λ (n : ℕ). used n all) (sym q.count))) (sym q.count) (q.leaves ∙ ap (λ (n : ℕ). all ++ drop n lists.buffer.now) (sym q.count))

pub returns : goal.returns
unfolding compare_of require
returns c =
    refuses _ _ _ (simp (c.either_falls.ensures, c.if-either_falls.false, c.either_past.ensures, c.if-either_past.false, c.either_bad.ensures, c.if-either_bad.false, c.either_cut.ensures, c.if-either_cut.false, ← c.fits.ensures, c.if-fits.false))
