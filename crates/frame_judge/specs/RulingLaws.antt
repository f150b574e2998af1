-- What a ruling says tells the ruling: so what a call gives is one judge and one ruling.
use Rattle.std.specs.Prelude.{◌≡◌, refl}
use Rattle.std.proofs.Common.{sym, ap, ◌∙◌}
use Rattle.frame_judge.specs.declared.Ruling.{Ruling}
use Rattle.frame_judge.specs.declared.Ruling.TheVariants.{Waiting, Going, Complete, Refused}
use Rattle.frame_judge.specs.declared.Judged.{Judged}
use Rattle.frame_judge.specs.Frame.{said_of, ruling_for, gives, JudgedAs}

ruling_back : (v : Ruling) → v ≡ ruling_for (said_of v)
ruling_back Waiting = refl
ruling_back Going = refl
ruling_back Complete = refl
ruling_back (Refused r) = refl

pub same_ruling : (v w : Ruling) → said_of v ≡ said_of w → v ≡ w
same_ruling v w h = ruling_back v ∙ ap ruling_for h ∙ sym (ruling_back w)

pub judge_given : (d r : Judged) → JudgedAs d r → r ≡ d
judge_given d r g = λ i. gives (g.leaves i) (same_ruling r.ruling d.ruling g.says i)

pub gives_judged : (d r : Judged) → r ≡ d → JudgedAs d r
gives_judged d r h = record { leaves = ap (λ (x : Judged). x.judge) h; says = ap (λ (x : Judged). said_of x.ruling) h }
