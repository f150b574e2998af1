-- The law at work, at either border setting: a capture that starts within a byte, and then holds a frame. No hypothesis is empty.
use Rattle.std.specs.Prelude.{◌≡◌, refl, List, [], ◌∷◌, ◌++◌, map, ℕ, ◌+◌, replicate}
use Rattle.std.proofs.Common.{sym, ap, subst, arith, lit≤}
use Rattle.std.proofs.lemmas.List.{length-replicate}
use Rattle.line_code.specs.declared.Kind.{Kind}
use Rattle.line_code.specs.LineCode.{kind_number}
use Rattle.profile.specs.declared.Profile.TheVariants.{VV5404}
use Rattle.stream.specs.Written.{stream}
use Rattle.stream.specs.Nibbles.{AllNibbles, no_nibble, and_nibble}
use Rattle.frame_layout.specs.declared.Borders.{Borders}
use Rattle.frame_layout.specs.FrameLayout.{layout, kinds_of}
use Rattle.frame_judge.specs.Calls.{Line, line, IsFrame, numbered_from}
use Rattle.frame_laws.proofs.WholeFrames.{frame_counted}
use Rattle.slip_laws.proofs.Examples.{samples_from, sample_frame, frame_writable}
use Rattle.picture_file.specs.PictureFile.{size}
use Rattle.frame_row.specs.declared.Order.{Order}
use Rattle.frame_row.specs.declared.Keeping.TheVariants.{VisiblePixels}
use Rattle.frame_rows_laws.specs.Gathering.{lines_of, picture_of}
use Rattle.frame_grabber.specs.FrameGrabber.{fresh_grabber}
use Rattle.frame_grabber.specs.Pieces.{grab_pieces}
use Rattle.picture_laws.specs.FrameSent.{shown_line, FrameSent, FramePictured}
use Rattle.picture_laws.proofs.FrameSentLaws.{first_frame_pictured}

samples_lines : (n : ℕ) (ks : List Kind) → lines_of (map shown_line (samples_from n ks)) ≡ numbered_from n ks
samples_lines n [] = refl
samples_lines n (k ∷ ks) = ap {B = List Line} (λ ls. line (kind_number k) n ∷ ls) (samples_lines (n + 1) ks)

sample_sent : (b : Borders) → FrameSent b (sample_frame b)
sample_sent b =
    record {
      whole = subst (IsFrame VV5404 b) (sym (samples_lines 0 (kinds_of (layout VV5404 b)))) (frame_counted VV5404 b);
      writable = frame_writable b;
    }

-- three nibbles of fillers, so that the frame's bytes do not start with the capture's
abbrev before : List ℕ
before = 7 ∷ 0 ∷ 7 ∷ []

before_small : AllNibbles before
before_small = and_nibble (lit≤ tt) (and_nibble (lit≤ tt) (and_nibble (lit≤ tt) no_nibble))

pub sample_pictured : (o : Order) (b : Borders)
    → FramePictured o b (sample_frame b)
    (grab_pieces (fresh_grabber (VisiblePixels o)) (replicate (size (picture_of b)) 0) ((before ++ stream (sample_frame b)) ∷ [])).output
sample_pictured o b =
    let held : List ℕ = replicate (size (picture_of b)) 0 in
    first_frame_pictured o b (sample_sent b) held (omega (arith, length-replicate {A = ℕ} (size (picture_of b)) 0)) before_small refl [] ((before ++ stream (sample_frame b)) ∷ []) refl
