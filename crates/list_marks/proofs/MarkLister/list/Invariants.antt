-- At each turn what is left brings what the whole does; a run takes some nibbles, until none is left, or no room for a row.
use mathlib.Core.Path.{◌≡◌, sym, ◌∙◌}
use Prim.Native.Nat.{◌-◌, ◌*◌}
use native.Mathlib.Omega.{arith}
use lib.ListN.{length}
use borrow.Author.Rules.{rules}
use Rattle.profile.specs.Profile.{longest}
use Rattle.reader_laws.proofs.Passes.{passed}
use Rattle.text.specs.PutLaws.{put_length, put_within}
use Rattle.lister_laws.proofs.RunLaws.{Along, along_start, taken_fits, left_less, text_fits}
use Rattle.list_marks.proofs.Runs.{lister, by_reader, marks_next, marks_end, nothing_listed}
use Rattle.list_marks.proofs.MarkLister.list.Given as goal

abbrev pub invariant-loop-line : goal.invariant-loop-line
invariant-loop-line l = Along by_reader (lister l.initial.head l.initial.body l.initial.marks) l.input l.initial.out l.from l.at (lister l.head l.body l.marks) l.used l.out × (length l.body ≡ longest) × (length l.line ≡ longest)

abbrev pub decreases-loop-line : goal.decreases-loop-line
decreases-loop-line l = 2 * length l.input - l.at
