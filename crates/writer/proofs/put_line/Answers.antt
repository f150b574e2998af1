-- Each of six parts is put where the one before ended, so together they are the line put at once; the room is the sum of their lengths.
use native.Mathlib.Omega.{arith}
use lib.ListN.{length-replicate}
use Rattle.profile.specs.Profile.{null_byte}
use Rattle.writer.proofs.Putting.{put_then}
use Rattle.writer.proofs.put_line.Goals as goal

pub put_nulls-requires : goal.put_nulls-requires
put_nulls-requires c =
    let args = c.args in
    omega (arith, length-replicate args.nulls null_byte)

pub returns : goal.returns
returns c =
    simp (← c.clean_byte.ensures, ← c.clean_byte-2.ensures)
    (put_then c.put_mark-number_at.ensures
    (put_then c.put_two-body_at.ensures
    (put_then c.put_bytes-end_at.ensures (put_then c.put_mark-gap_at.ensures (put_then c.put_two-nulls_at.ensures c.put_nulls.ensures)))))
