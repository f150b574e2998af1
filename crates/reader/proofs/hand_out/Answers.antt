-- Only a line moves bytes: its body has the profile's length, which body and buffer both reach, so the front is copied whole.
use Rattle.profile.specs.Profile.{body_length}
use native.Mathlib.Omega.{arith}
use lib.Seq.{length-take-le}
use Rattle.profile.specs.LayoutLaws.{body_small}
use Rattle.reader.proofs.hand_out.Goals as goal

pub copy_front-requires : goal.copy_front-requires
copy_front-requires c = (omega (arith, c.body_length.ensures, body_small c.args.p), omega arith)

pub returns-in-Line : goal.returns-in-Line
returns-in-Line c =
    let a = c.args in
    simp (c.in-Line.is, length-take-le (body_length a.p) a.body.now (omega (arith, body_small a.p)), c.copy_front.ensures, c.body_length.ensures)
