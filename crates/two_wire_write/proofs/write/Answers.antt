-- An odd length ends within a pair; a message is three bytes, so all have room where a third of the buffer is at least the pairs' count.
use Rattle.two_wire_write.specs.WritingLaws.{ends_odd, messages_length, written}
use Prim.Native.Nat.{◌<◌}
use lib.ListN.{length}
use Rattle.two_wire_write.specs.Writing.{write_of, messages, joined}
use mathlib.Core.Path.{sym, ◌∙◌}
use native.Mathlib.Omega.{arith}
use borrow.Author.Tests.{eq-eqb, ne_eqb, lt-leb}
use Rattle.lent_buffer.specs.Filled.{require}
use Rattle.lent_buffer.specs.FilledLaws.{refuses}
use Rattle.two_wire_write.proofs.write.Goals as goal

pub returns-then-pairs-eq1 : goal.returns-then-pairs-eq1
unfolding write_of require
returns-then-pairs-eq1 c = refuses _ _ _ (simp (ends_odd c.args.pairs.now, eq-eqb _ _ c.if-pairs-eq1.true))

pub some_index_past-requires : goal.some_index_past-requires
some_index_past-requires c = ends_odd c.args.pairs.now ∙ ne_eqb _ _ c.if-pairs-eq1.false

pub returns-then-some_index_past : goal.returns-then-some_index_past
unfolding write_of require
returns-then-some_index_past c = refuses _ _ _ (simp (ends_odd c.args.pairs.now, ne_eqb _ _ c.if-pairs-eq1.false, ← c.some_index_past.ensures, c.if-some_index_past.true))

pub returns-then-buffer-pairs : goal.returns-then-buffer-pairs
unfolding write_of require
returns-then-buffer-pairs c = let a = c.args in
    let few : length a.buffer.now < length (joined (messages a.pairs.now)) = omega (arith, messages_length a.pairs.now) in
    refuses _ _ _ (simp (ends_odd a.pairs.now, ne_eqb _ _ c.if-pairs-eq1.false, ← c.some_index_past.ensures, c.if-some_index_past.false, lt-leb _ _ few))

pub put_messages-end-requires : goal.put_messages-end-requires
put_messages-end-requires c = let pairs = c.args.pairs.now in
    (ends_odd pairs ∙ ne_eqb _ _ c.if-pairs-eq1.false, omega (arith, messages_length pairs))

pub returns : goal.returns
returns c =
    let test_1 = c.if-pairs-eq1 in
    let a = c.args in
    let even = ends_odd a.pairs.now ∙ ne_eqb _ _ test_1.false in
    let within = sym c.some_index_past.ensures ∙ c.if-some_index_past.false in
    simp (c.put_messages-end.ensures.0, c.put_messages-end.ensures.1) (written a.pairs.now a.buffer.now even within (omega (arith, messages_length a.pairs.now)))
