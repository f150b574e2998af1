-- By the profile that the number names, or 11; in the paper's numbers and values.
use Rattle.std.specs.Prelude.{Option}
use mathlib.Core.Path.{sym, ap, ◌∙◌}
use Rattle.reason.specs.Explanation.{profile_reason, explanation}
use Rattle.reason.specs.Valued.{valued, explanation_values}
use Rattle.reason.proofs.explain.Goals as goal
use Rattle.profile.specs.declared.Profile.{Profile}

pub returns-in-None : goal.returns-in-None
unfolding explanation explanation_values
returns-in-None c =
    let a = c.args in
    sym (ap (λ (n : Option Profile). valued (profile_reason n a.before a.run.now)) (sym c.numbered-numbered.ensures ∙ c.in-None.is))

pub returns-in-Some : goal.returns-in-Some
unfolding explanation explanation_values
returns-in-Some c =
    let a = c.args in
    ap valued c.run_reason.ensures
    ∙ sym (ap (λ (n : Option Profile). valued (profile_reason n a.before a.run.now)) (sym c.numbered-numbered.ensures ∙ c.in-Some.is))
