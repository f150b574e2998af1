-- 8 without a line before; after one, by the gap, which is the text after the code's two nibbles.
use Rattle.std.specs.Prelude.{Option}
use mathlib.Core.Path.{sym, ap, ◌∙◌}
use lib.ListN.{drop}
use Rattle.reason.specs.Explanation.{gap_reason, end_mark_reason}
use Rattle.reason.proofs.Steps.{nibbles_rest, part_rest, drop_two}
use Rattle.reason.proofs.end_mark_reason.Goals as goal
use Rattle.line_code.specs.declared.Kind.{Kind}

pub gap_reason-requires : goal.gap_reason-requires
gap_reason-requires c = nibbles_rest c.args.text.now c.code_end-start.result c.requires

pub returns-in-Some : goal.returns-in-Some
returns-in-Some c =
    let a = c.args in
    let e = c.code_end-start.ensures in
    c.gap_reason.ensures ∙ ap (gap_reason a.profile _) (part_rest a.text.now c.code_end-start.result ∙ drop_two a.text.now c.code_end-start.result e.0 e.2) ∙ sym (ap (λ (b : Option Kind). end_mark_reason a.profile b (drop 2 a.text.now)) c.in-Some.is)
