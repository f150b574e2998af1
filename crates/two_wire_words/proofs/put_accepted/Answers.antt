-- A message of two bytes and more has its parts, one after another; a shorter one is none.
use borrow.Author.Rules.{rules}
use Rattle.text.specs.PutLaws.{puts_none}
use Rattle.text.specs.PagesLaws.{next, from_front}
use Rattle.two_wire_words.specs.WordsLaws.{accepted_short, accepted_parts}
use Rattle.two_wire_words.proofs.put_accepted.Goals as goal

pub returns-then-bytes-lt2 : goal.returns-then-bytes-lt2
returns-then-bytes-lt2 c = simp (accepted_short c.args.bytes.now c.if-bytes-lt2.true) (puts_none _ 0)

pub returns : goal.returns
returns c =
    let w = next c.put_direction.ensures (next c.put_decimal.ensures (next c.put.ensures (next c.put_decimal-2.ensures c.put-2.ensures))) in
    simp (accepted_parts c.args.bytes.now c.if-bytes-lt2.false) (search (rules, from_front c.new-page.ensures w))
