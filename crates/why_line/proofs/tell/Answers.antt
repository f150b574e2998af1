-- A line fits in ROOM bytes, so it is put whole at the front; in less room nothing is put.
use Rattle.std.proofs.Common.{refl, le_trans, rules}
use borrow.Author.Tests.{lt-ltb, le-ltb}
use Rattle.text.specs.PagesLaws.{at_front}
use Rattle.why_line.specs.ReasonText.{line_if_room}
use Rattle.why_line.specs.ReasonTextLaws.{mark_line_short}
use Rattle.why_line.proofs.tell.Goals as goal

pub returns-then-out-lt-ROOM : goal.returns-then-out-lt-ROOM
unfolding line_if_room
returns-then-out-lt-ROOM c = simp (lt-ltb _ _ c.if-out-lt-ROOM.true) (record { count = refl; leaves = refl })

pub returns : goal.returns
unfolding line_if_room
returns c =
    let room = c.if-out-lt-ROOM.false in
    simp (le-ltb _ _ room)
    (search (rules, at_front c.new-page.ensures c.put_all.ensures (le_trans (mark_line_short c.args.mark c.args.bytes.now) room)))
