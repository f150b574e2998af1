-- By the profile: nothing but F, or two bytes first.
use mathlib.Core.Path.{sym, ap, ◌∙◌}
use Rattle.profile.specs.declared.Profile.{Profile}
use Rattle.reason.specs.Explanation.{gap_reason}
use Rattle.reason.proofs.gap_reason.Goals as goal

pub returns-in-VV5404 : goal.returns-in-VV5404
returns-in-VV5404 c = c.stray_reason.ensures ∙ sym (ap (λ (p : Profile). gap_reason p c.args.kind c.args.gap.now) c.in-VV5404.is)

pub returns-in-VV5300 : goal.returns-in-VV5300
returns-in-VV5300 c = c.two_bytes_reason.ensures ∙ sym (ap (λ (p : Profile). gap_reason p c.args.kind c.args.gap.now) c.in-VV5300.is)
