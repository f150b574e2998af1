-- Three tests, in the order of the definition; past them the nibble is taken.
use mathlib.Core.Path.{sym, ap, ◌∙◌}
use Prim.Native.Nat.{◌≤◌, ◌<◌}
use native.Mathlib.Omega.{arith}
use lib.ListN.{length}
use Rattle.profile.specs.Profile.{body_length}
use Rattle.reader.specs.Reader.{reader_of, taking}
use Rattle.reader.proofs.Taking.{take_wrong, take_above, take_short, take_goes, gives_as, refuses}
use Rattle.reader.proofs.take.Goals as goal

pub returns-then-body-ne-LONGEST : goal.returns-then-body-ne-LONGEST
returns-then-body-ne-LONGEST c =
    let a = c.args in
    let r = reader_of a.h a.body.now in
    refuses r _ (take_wrong r _ _ c.if-body-ne-LONGEST.true) c.refuse.ensures

pub returns-then-nibble-gt15 : goal.returns-then-nibble-gt15
returns-then-nibble-gt15 c =
    let a = c.args in
    let r = reader_of a.h a.body.now in
    refuses r _ (take_above r _ _ c.if-body-ne-LONGEST.false c.if-nibble-gt15.true) c.refuse-then-nibble-gt15.ensures

pub returns-then-buffer-body_length : goal.returns-then-buffer-body_length
returns-then-buffer-body_length c =
    let a = c.args in
    let r = reader_of a.h a.body.now in
    let short : length a.buffer.now < body_length a.h.profile = omega (arith, c.if-buffer-body_length.true, c.body_length.ensures) in
    refuses r _ (take_short r _ _ c.if-body-ne-LONGEST.false c.if-nibble-gt15.false short) c.refuse-then-buffer-body_length.ensures

pub returns : goal.returns
returns c =
    let a = c.args in
    let r = reader_of a.h a.body.now in
    let room : body_length a.h.profile ≤ length a.buffer.now = omega (arith, c.if-buffer-body_length.false, c.body_length.ensures) in
    let q = take_goes r a.nibble (length a.buffer.now) c.if-body-ne-LONGEST.false c.if-nibble-gt15.false room in
    gives_as (sym (q ∙ ap (taking r) (omega (arith, c.if-nibble-gt15.false)))) c.taken.ensures
