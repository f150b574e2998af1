-- The first place that is not used takes the setting; where all are used, it stands behind all but the oldest.
use Rattle.std.proofs.Common.{◌≡◌, ◌∷◌, [], ◌++◌, List, sym, ap, ◌∙◌, arith, length, take_all, length-drop}
use Rattle.std.specs.Prelude.{drop, set, take}
use Rattle.saved_setting.specs.declared.SavedSetting.{SavedSetting}
use Rattle.saved_search.proofs.Looking.{absent, passed_none, passed_more, passed_at, passed_all}
use Rattle.saved_search.proofs.save_into.Goals as goal

pub returns-then-places-i-eq0 : goal.returns-then-places-i-eq0
returns-then-places-i-eq0 c =
    let same = c.loop-i.invariant.0 in
    rw same (sym (passed_at c.args.setting c.args.places c.loop-i.i absent (omega arith) (rw same at c.if-places-i-eq0.true) c.loop-i.invariant.1))

pub loop-i-preserved : goal.loop-i-preserved
loop-i-preserved c =
    let same = c.loop-i.invariant.0 in
    (same, passed_more c.args.setting c.args.places c.loop-i.i absent (omega arith) (rw same at c.if-places-i-eq0.false) c.loop-i.invariant.1)

pub returns : goal.returns
returns c =
    let rest : List SavedSetting = drop 1 c.args.places in
    let all : take 7 rest ≡ rest = take_all 7 rest (omega (arith, length-drop 1 c.args.places)) in
    let copied : c.copy_from_slice.new.self ≡ rest = rw c.loop-i.invariant.0 at c.copy_from_slice.ensures.after ∙ all in
    ap (λ (l : List SavedSetting). l ++ (c.args.setting ∷ [])) copied
    ∙ sym (passed_all c.args.setting c.args.places c.loop-i.i (omega arith) c.loop-i.invariant.1)
