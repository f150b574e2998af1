-- Nibbles that leave at the new end are a shift by four bits each; all eight leave 0.
use mathlib.Core.Path.{sym}
use native.Mathlib.Omega.{arith}
use Rattle.reader_head.proofs.Window.{aged_shift, all_aged}
use Rattle.reader_head.proofs.aged.Goals as goal

pub returns-then-k-lt-WINDOW : goal.returns-then-k-lt-WINDOW
returns-then-k-lt-WINDOW c = sym (aged_shift _ _)

pub returns : goal.returns
returns c = all_aged c.args.k c.args.window (omega arith) (omega arith)
