-- Laws of findings: no answer changes none.
use Rattle.std.specs.Prelude.{◌≡◌, refl, cond}
use Rattle.std.proofs.Common.{ap}
use Rattle.stream.specs.declared.Answer.TheVariants as answer
use Rattle.signal_tally.specs.Signal as signal
use Rattle.frame_judge.specs.declared.Judge.{Judge}
use Rattle.frame_judge.specs.declared.Judge.TheVariants.{Waiting, Due}
use Rattle.frame_tally.specs.declared.News.TheVariants.{Nothing}
use Rattle.frame_tally.specs.Tally as tally
use Rattle.findings.specs.declared.Outside.{Outside}
use Rattle.findings.specs.declared.Findings.{Findings}
use Rattle.findings.specs.Findings.{is_outside, one_outside, with_line, take_of}

not_outside : (j : Judge) (x o : Outside) → cond (is_outside j j answer.Nothing) x o ≡ o
not_outside Waiting x o = refl
not_outside (Due place b) x o = refl

-- where there is no answer, nothing is found
pub nothing_found : (f : Findings) → take_of f answer.Nothing ≡ record { findings = f; news = Nothing }
unfolding take_of tally.take_of signal.take_of with_line
nothing_found f =
    ap (λ (o : Outside). record { findings = record { tally = f.tally; signal = f.signal; outside = o; cut = f.cut }; news = Nothing })
    (not_outside f.tally.judge (one_outside f.outside f.tally.frames) f.outside)
