-- Up to the body's end, and past it, which leads on from where that stopped.
use Rattle.run_ahead.proofs.Pairs.{nothing_ahead, wrong_body, wherever, gives_ahead}
use Rattle.run_ahead.proofs.ahead.Goals as goal

pub returns-then-body-ne-LONGEST : goal.returns-then-body-ne-LONGEST
returns-then-body-ne-LONGEST c =
    let a = c.args in
    gives_ahead (wrong_body a.s.now a.h a.body.now a.from c.if-body-ne-LONGEST.true)

pub returns-then-s-from : goal.returns-then-s-from
returns-then-s-from c =
    let a = c.args in
    gives_ahead (wherever a.s.now a.h a.body.now a.from (nothing_ahead _ _ _ _ c.if-s-from.true))

pub returns-then-past-lt-PAST : goal.returns-then-past-lt-PAST
returns-then-past-lt-PAST c = gives_ahead (c.up_to_past-b.ensures.all c.if-past-lt-PAST.true)

pub past_body-requires : goal.past_body-requires
past_body-requires c = (c.up_to_past-b.ensures.within, c.if-past-lt-PAST.false)

pub returns : goal.returns
returns c = gives_ahead (c.up_to_past-b.ensures.rest c.if-past-lt-PAST.false _ _ (c.past_body.ensures _))
