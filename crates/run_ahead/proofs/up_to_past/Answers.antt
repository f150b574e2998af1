-- At an odd count nothing is taken; from an even one what stands before the body and the body come one after another, the second leading on from where
-- the first stopped.
use mathlib.Core.List.{[]}
use native.Mathlib.Omega.{arith}
use borrow.Author.Rules.{rules}
use Rattle.run_ahead.proofs.Pairs.{led_to_lem, reached_end, odd_count, past_it, even_count}
use Rattle.run_ahead.proofs.up_to_past.Goals as goal

pub returns-then-h-ge-PAST : goal.returns-then-h-ge-PAST
returns-then-h-ge-PAST c =
    let a = c.args in
    record {
      within = c.requires.0;
      all = λ l. absurd (omega (arith, l, c.if-h-ge-PAST.true));
      rest = λ l h i e. past_it a.s.now a.h a.body.now a.from c.requires.1 l e;
    }

pub returns-then-h-eq1 : goal.returns-then-h-eq1
returns-then-h-eq1 c =
    let a = c.args in
    record {
      within = c.requires.0;
      all = λ l. odd_count a.s.now a.h a.body.now a.from l c.if-h-eq1.true;
      rest = λ l h i e. absurd (omega (arith, l, c.if-h-ge-PAST.false));
    }

pub returns-then-begun-lt-BODY : goal.returns-then-begun-lt-BODY
returns-then-begun-lt-BODY c =
    let a = c.args in
    let before = c.before_body-a.ensures.0 a.body.now in
    record {
      within = before.within;
      all = λ l. even_count a.s.now a.h a.body.now a.from c.requires.1 (let z = c.if-h-eq1.false in omega arith) (reached_end before c.if-begun-lt-BODY.true);
      rest = λ l h i e. absurd (omega (arith, l, c.if-begun-lt-BODY.true));
    }

pub in_body-requires : goal.in_body-requires
in_body-requires c = let e = c.before_body-a.ensures in ((e.0 []).within, e.1, search rules, c.if-begun-lt-BODY.false)

pub returns : goal.returns
returns c =
    let a = c.args in
    let s = a.s.now in
    let B = a.body.now in
    let z = c.if-h-eq1.false in
    let before = c.before_body-a.ensures.0 B in
    let body = c.in_body.ensures in
    record {
      within = body.within;
      all = λ l. even_count s a.h B a.from c.requires.1 (omega arith) (led_to_lem _ _ _ _ _ _ _ _ _ _ before.leads (reached_end body l));
      rest = λ l h i e. even_count s a.h B a.from c.requires.1 (omega arith)
          (led_to_lem _ _ _ _ _ _ _ _ _ _ before.leads (led_to_lem _ _ _ _ _ _ _ _ _ _ body.leads e));
    }
