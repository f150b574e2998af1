-- At each turn the run from here on is the run from the start and the buffer is as lent; a turn takes one nibble and the pairs after it.
use mathlib.Core.Path.{refl, sym, ap, ◌∙◌}
use Prim.Native.Nat.{◌+◌}
use native.Mathlib.Omega.{arith}
use lib.ListN.{length, get_or}
use borrow.Author.Rules.{rules}
use Rattle.profile.specs.Profile.{body_length}
use Rattle.stream.specs.Answers.{Outcome, buffer_after, is_answer}
use Rattle.stream.specs.AnswersLaws.{no_answer}
use Rattle.reader_head.specs.declared.Head.{Head}
use Rattle.reader.specs.Reader.{take_outcome}
use Rattle.reader.specs.ReaderLaws.{take_profile}
use Rattle.run.specs.AheadLaws.{ahead_reaches}
use Rattle.run.proofs.Running.{leads_here, leads_on, leads_one, stops_end, stops_above, stops_answered, ends, ends_as}
use Rattle.run.proofs.up_to_stop.Goals as goal

pub loop-i-init : goal.loop-i-init
loop-i-init c =
    let a = c.args in
    let first = ahead_reaches a.nibbles.now a.start a.body.now 0 (omega arith) c.ahead-first.ensures in
    (leads_here _ _ _ _, first.within, refl, search rules, refl)

pub shape_of-buffer-then-x-gt15 : goal.shape_of-buffer-then-x-gt15
shape_of-buffer-then-x-gt15 c = ap length c.loop-i.invariant.2

pub returns-then-x-gt15 : goal.returns-then-x-gt15
returns-then-x-gt15 c =
    let a = c.args in
    let first = ahead_reaches a.nibbles.now a.start a.body.now 0 (omega arith) c.ahead-first.ensures in
    let l = c.loop-i in
    let e = c.refuse.ensures in
    let s = a.nibbles.now in
    let led = leads_on s _ _ _ _ _ _ _ _ _ first.leads l.invariant.0 in
    ends_as (ends a.buffer.now (stops_above s _ _ _ _ _ led c.loop-i-test.true c.if-x-gt15.true) e.1 l.invariant.2) e.0 refl e.2

pub take-t-requires : goal.take-t-requires
take-t-requires c =
    let a = c.args in
    let first = ahead_reaches a.nibbles.now a.start a.body.now 0 (omega arith) c.ahead-first.ensures in
    let l = c.loop-i in
    let p = ap body_length (l.invariant.4 ∙ first.same_profile) in
    (omega arith, omega (arith, p, ap length l.invariant.2), l.invariant.3)

pub overflow_add-i : goal.overflow_add-i
overflow_add-i c =
    let good = c.well_formed in
    let loop-test = c.loop-i-test in
    omega (arith, loop-test.true, good)

pub returns-then-is_answer : goal.returns-then-is_answer
returns-then-is_answer c =
    let loop-test = c.loop-i-test in
    let a = c.args in
    let first = ahead_reaches a.nibbles.now a.start a.body.now 0 (omega arith) c.ahead-first.ensures in
    let l = c.loop-i in
    let e = c.take-t.ensures in
    let s = a.nibbles.now in
    let led = leads_on s _ _ _ _ _ _ _ _ _ first.leads l.invariant.0 in
    let some = sym (c.is_answer.ensures ∙ ap is_answer e.says) ∙ c.if-is_answer.true in
    ends_as (ends a.buffer.now (stops_answered s _ _ _ _ _ led loop-test.true (omega arith) some) e.says (e.leaves ∙ ap (buffer_after (take_outcome l.h l.body (get_or s l.i 0))) l.invariant.2)) e.next e.keeps refl

pub loop-i-smaller : goal.loop-i-smaller
loop-i-smaller c =
    let loop-test = c.loop-i-test in
    let a = c.args in
    let l = c.loop-i in
    let f = ahead_reaches a.nibbles.now _ _ (l.i + 1) (omega (arith, loop-test.true)) c.ahead-next.ensures in
    omega (arith, loop-test.true, f.from_on, f.within)

pub loop-i-preserved : goal.loop-i-preserved
loop-i-preserved c =
    let loop-test = c.loop-i-test in
    let a = c.args in
    let l = c.loop-i in
    let e = c.take-t.ensures in
    let s = a.nibbles.now in
    let f = ahead_reaches s _ _ (l.i + 1) (omega (arith, loop-test.true)) c.ahead-next.ensures in
    let quiet = sym (c.is_answer.ensures ∙ ap is_answer e.says) ∙ c.if-is_answer.false in (
      leads_on s _ _ _ _ _ _ _ _ _ l.invariant.0
          (leads_on s _ _ _ _ _ _ _ _ _ (leads_one s l.h l.body l.i loop-test.true (omega (arith, c.if-x-gt15.false)) e.next e.keeps quiet) f.leads),
      f.within,
      e.leaves ∙ ap (λ (o : Outcome). buffer_after o l.buffer) (no_answer (take_outcome l.h l.body (get_or s l.i 0)) quiet) ∙ l.invariant.2,
      search rules,
      f.same_profile ∙ ap (λ (h : Head). h.profile) e.next ∙ take_profile l.h _ _ ∙ l.invariant.4,
    )

pub shape_of-buffer : goal.shape_of-buffer
shape_of-buffer c = ap length c.loop-i.invariant.2

pub returns : goal.returns
returns c =
    let a = c.args in
    let l = c.loop-i in
    let s = a.nibbles.now in
    let first = ahead_reaches s a.start a.body.now 0 (omega arith) c.ahead-first.ensures in
    let led = leads_on s _ _ _ _ _ _ _ _ _ first.leads l.invariant.0 in
    ends a.buffer.now (stops_end s _ _ _ _ _ led c.loop-i-test.false) refl l.invariant.2
