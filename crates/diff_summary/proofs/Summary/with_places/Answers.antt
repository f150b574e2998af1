-- Each turn counts one place, where the bytes differ.
use Rattle.std.proofs.Common.{List, ℕ, ◌≤◌, ◌∙◌, length, drop, drop_of_length-le, sym, ap, arith}
use Rattle.std.proofs.lemmas.List.{length_push}
use Rattle.std.proofs.lemmas.Iterator.{YieldsList-from_slice, YieldsList-from_zip}
use Rattle.std.proofs.lemmas.Iterator.Consumers.{YieldsList-from_enumerate, YieldsList-turn, YieldsList-end}
use Rattle.std.specs.List.{zip}
use Rattle.std.proofs.lemmas.List.FromFn.{length-enumerate_from}
use Rattle.std.proofs.lemmas.Slice.Zip.{length-zip}
use Rattle.diff_records.specs.Difference.{places_from}
use Rattle.diff_records.proofs.PairLaws.{pair_at}
use Rattle.diff_summary.specs.Summary.{with_differences}
use Rattle.diff_summary.specs.SummaryLaws.{places_counted}
use Rattle.diff_summary.proofs.Summary.with_places.Goals as goal

pub loop-p-preserved : goal.loop-p-preserved
loop-p-preserved c =
    let l = c.loop-p in
    let a = c.args.a.now in
    let b = c.args.b.now in
    let t = YieldsList-turn (YieldsList-from_enumerate {s = c.into_iter-p-iterator.result} (YieldsList-from_zip (YieldsList-from_slice a (cc)) (YieldsList-from_slice b (cc))) (cc)) l.yielded l.p-iterator l.yielded_by c.next.result c.next.new.self (c.in-Some.p, (c.in-Some.x, c.in-Some.y)) c.in-Some.is c.next.ensures.steps in
    let q = pair_at _ _ _ _ _ _ t.0 t.1 in
    simp (length_push l.yielded (c.in-Some.p, (c.in-Some.x, c.in-Some.y)))
    (simp (c.with_place-s.ensures, q.place, q.first, q.second) (places_counted a b (length l.yielded) q.in_first q.in_second l.s c.args.n ∙ l.invariant))

pub returns : goal.returns
returns c =
    let l = c.loop-p in
    let a = c.args.a.now in
    let b = c.args.b.now in
    let e = YieldsList-end (YieldsList-from_enumerate {s = c.into_iter-p-iterator.result} (YieldsList-from_zip (YieldsList-from_slice a (cc)) (YieldsList-from_slice b (cc))) (cc)) l.yielded l.p-iterator l.yielded_by c.next.result c.next.new.self c.in-None.is c.next.ensures.steps in
    let n : length a ≤ length l.yielded = omega (arith, e.1, c.requires, length-enumerate_from 0 (zip a b), length-zip a b) in
    sym (ap (λ (xs : List ℕ). with_differences l.s (places_from c.args.n (length l.yielded) xs (drop (length l.yielded) b))) (drop_of_length-le a n)) ∙ l.invariant
