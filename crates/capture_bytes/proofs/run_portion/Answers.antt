-- The bytes from the place's own on are taken apart, all of them since there is room; their nibbles, but for one where the place is odd, are the
-- portion.
-- all of the bytes are taken apart
use mathlib.Core.Path.{◌≡◌, sym, ap, ap₂, ◌∙◌}
use mathlib.Core.List.{List}
use Prim.Native.Nat.{ℕ, ◌-◌, ◌*◌, ◌%◌, ◌≤◌, min}
use native.Mathlib.Omega.{arith}
use lib.ListN.{length, take, drop, length-take, length-drop}
use lib.Seq.{length-take-le, take_all}
use Rattle.run.specs.Run.{lent_run_of}
use Rattle.stream.specs.Written.{nibbles}
use Rattle.capture_bytes.specs.Unpacked.{unpacked}
use Rattle.stream.specs.NibblesLaws.{nibbles_length}
use Rattle.capture_bytes.specs.UnpackedLaws.{front_nibbles, portion_bytes, drop_most}
use Rattle.capture_bytes.proofs.Portions.{gives_as}
use Rattle.capture_bytes.proofs.run_portion.Goals as goal

whole : (bs d w : List ℕ) (r : ℕ) → r ≡ length bs → w ≡ unpacked bs d r → take (2 * r) w ≡ nibbles bs
whole bs d w r e f = ap (take (2 * r)) f ∙ front_nibbles bs r (omega arith) d ∙ ap nibbles (take_all r bs (omega arith))

part_length : (bs : List ℕ) (first end : ℕ) → end ≤ length bs → length (take (end - first) (drop first bs)) ≡ end - first
part_length bs first end h = length-take (end - first) (drop first bs) ∙ (let e = length-drop first bs in omega arith)

pub slice_bounds-run_lent-count : goal.slice_bounds-run_lent-count
slice_bounds-run_lent-count c =
    let given = c.requires in
    let a = c.args in
    let n = part_length a.bytes.now c.lesser-first.result a.end given.0 in
    let all = length-take-le (2 * c.unpack-n.result) c.unpack-n.new.to (omega (arith, c.unpack-n.ensures.0, c.unpack-n.auto.to, n)) in
    omega (arith, all, c.lesser-skipped.ensures)

pub slice_bounds-run_lent-start : goal.slice_bounds-run_lent-start
slice_bounds-run_lent-start c =
    let given = c.requires in
    let a = c.args in
    let n = part_length a.bytes.now c.lesser-first.result a.end given.0 in
    let all = length-take-le (2 * c.unpack-n.result) c.unpack-n.new.to (omega (arith, c.unpack-n.ensures.0, c.unpack-n.auto.to, n)) in
    omega (arith, all, c.lesser-skipped.ensures)

pub returns : goal.returns
returns c =
    let lesser = c.lesser-first in
    let unpack = c.unpack-n in
    let lesser2 = c.lesser-skipped in
    let a = c.args in
    let p = c.requires in
    let bs = a.bytes.now in
    let first = lesser.result in
    let part = take (a.end - first) (drop first bs) in
    let u = unpack.ensures in
    let n = part_length bs first a.end p.0 in
    let k : unpack.result ≡ length part = omega (arith, u.0, n, p.1, lesser.ensures) in
    let all = whole part _ _ unpack.result k u.1 in
    let skipped : lesser2.result ≡ min (a.at % 2) (length (nibbles part)) = omega (arith, lesser2.ensures, nibbles_length part, k) in
    let rest = ap₂ (λ (v : List ℕ) (i : ℕ). take (length v - i) (drop i v)) all skipped
    ∙ take_all (length (nibbles part) - min (a.at % 2) (length (nibbles part))) (drop (min (a.at % 2) (length (nibbles part))) (nibbles part))
    (omega (arith, length-drop (min (a.at % 2) (length (nibbles part))) (nibbles part)))
    ∙ drop_most (a.at % 2) (nibbles part)
    ∙ sym (portion_bytes bs a.at a.end first p.0 lesser.ensures) in
    gives_as (ap (λ (v : List ℕ). lent_run_of a.h a.body.now v (length a.line.now)) rest) c.run_lent.ensures

pub slice_bounds-all-end : goal.slice_bounds-all-end
slice_bounds-all-end c =
    let given = c.requires in
    let a = c.args in
    let n = part_length a.bytes.now c.lesser-first.result a.end given.0 in
    sym (length-take-le _ _ (omega (arith, c.unpack-n.ensures.0, c.unpack-n.auto.to, n)))
