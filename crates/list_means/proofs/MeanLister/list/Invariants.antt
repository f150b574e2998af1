-- At each turn what is left brings what the whole does; a run takes some nibbles, until none is left, or no room for a row.
use mathlib.Core.Path.{◌≡◌, sym, ◌∙◌}
use Prim.Native.Nat.{◌-◌, ◌*◌}
use native.Mathlib.Omega.{arith}
use lib.ListN.{length}
use borrow.Author.Rules.{rules}
use Rattle.profile.specs.Profile.{longest}
use Rattle.reader_laws.proofs.Passes.{passed}
use Rattle.text.specs.PutLaws.{put_length, put_within}
use Rattle.lister_laws.proofs.RunLaws.{Along, along_start, taken_fits, left_less, text_fits}
use Rattle.list_means.proofs.Runs.{lister, by_reader, means_next, means_end, nothing_listed}
use Rattle.list_means.proofs.MeanLister.list.Given as goal

abbrev pub invariant-loop-body : goal.invariant-loop-body
invariant-loop-body l = Along by_reader (lister l.initial.head l.initial.body l.initial.line l.initial.awaits) l.input l.initial.out l.from l.at (lister l.head l.body l.line l.awaits) l.used l.out × (length l.body ≡ longest) × (length l.line ≡ longest)

abbrev pub decreases-loop-body : goal.decreases-loop-body
decreases-loop-body l = 2 * length l.input - l.at
