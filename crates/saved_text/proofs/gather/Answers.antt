-- At each turn what is gathered is that of the characters so far.
use mathlib.Core.Path.{◌≡◌, sym, ap, ◌∙◌}
use mathlib.Core.List.{List}
use Prim.Native.Nat.{ℕ}
use lib.ListN.{drop, drop_of_length-le}
use Rattle.saved_text.specs.declared.LinesGathered.{LinesGathered}
use Rattle.saved_text.specs.SettingsText.{with_setting_line, gathered_over, numbers_of}
use Rattle.saved_text.specs.SettingsTextLaws.{gathered_step}
use Rattle.saved_text.proofs.gather.Goals as goal

pub loop-c-init : goal.loop-c-init
loop-c-init c = simp c.nothing_gathered-gathered.ensures

pub loop-c-preserved : goal.loop-c-preserved
loop-c-preserved c =
    c.loop-c.invariant ∙ gathered_step _ _ c.loop-c-test.true _ ∙ simp c.gather_next-gathered.ensures

pub returns : goal.returns
unfolding numbers_of
returns c =
    let text : List ℕ = c.args.text.now in
    let over : gathered_over c.loop-c.gathered (drop c.loop-c.c-index text) ≡ c.loop-c.gathered = rw (drop_of_length-le text c.loop-c-test.false) in
    simp c.end_line-all.ensures (ap (λ (g : LinesGathered). (with_setting_line g).list) (sym (c.loop-c.invariant ∙ over)))
