-- Byte after byte: the reason of the whole body is the reason from the place reached on; a byte that its rule refuses ends it.
use mathlib.Core.Path.{◌≡◌}
use lib.ListN.{drop}
use Rattle.profile.specs.Layout.{rules}
use Rattle.reason.specs.Explanation.{body_reason, bytes_in, next_reason, line_from_body}
use Rattle.reason.proofs.body_reason.Given as goal

abbrev pub invariant-loop-i : goal.invariant-loop-i
invariant-loop-i l = line_from_body l.profile l.kind l.text l.next ≡ body_reason (drop l.i (rules l.profile l.kind)) (drop l.i (bytes_in (drop 6 l.text))) l.i (next_reason l.next)
