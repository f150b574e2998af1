-- The three bytes before the body, then the body, are the line; there is room for all of it.
use mathlib.Core.List.{◌∷◌, ◌++◌}
use native.Mathlib.Omega.{arith}
use Rattle.text.specs.PutLaws.{then}
use Rattle.line_records.specs.Lines.{line_size, in_two}
use Rattle.frame_row.proofs.Putting.{put_whole}
use Rattle.frame_row.proofs.put_line.Goals as goal

pub returns : goal.returns
returns c =
    put_whole c.args.rows.now ((c.args.kind ∷ in_two c.args.place) ++ c.args.body.now) line_size (omega (arith, c.requires.0)) c.requires.1
    (then c.put-start.ensures c.put.ensures)
