-- A newline gives the text of the line that is kept, and the next line starts with nothing kept; any other character is kept, and what is kept is within the room.
use mathlib.Core.Path.{refl}
use native.Mathlib.Omega.{arith}
use borrow.Author.Tests.{eq-eqb, ne_eqb}
use Rattle.text.specs.PutLaws.{puts_front}
use Rattle.register_script.specs.Script.{place_of, place_after, text_on, refused_on}
use Rattle.register_script.specs.ScriptLaws.{front_kept, room_kept, line_short}
use Rattle.register_script.proofs.Script.feed.Goals as goal

pub returns-then-c-eq10 : goal.returns-then-c-eq10
unfolding place_after text_on refused_on
returns-then-c-eq10 c =
    let a = c.args in
    let ended = eq-eqb _ _ c.if-c-eq10.true in
    record {
      moves = simp (ended, c.answer-reply.ensures.leaves, c.following.ensures);
      refuses = simp ended c.answer-reply.ensures.refuses;
      keeps = simp ended (record { count = refl; leaves = refl });
      tells = simp ended
          (puts_front c.answer-reply.ensures.tells
          (omega (arith, line_short (place_of a.self a.line.now))));
    }

pub returns : goal.returns
unfolding place_after text_on refused_on
returns c =
    let a = c.args in
    let on = ne_eqb _ _ c.if-c-eq10.false in
    let kept = c.keep-kept.ensures in
    record {
      moves = simp (on, front_kept a.c a.line.now a.self.length kept, room_kept a.c a.line.now a.self.length kept);
      refuses = simp on;
      keeps = simp on kept;
      tells = simp on (record { count = refl; leaves = refl });
    }
