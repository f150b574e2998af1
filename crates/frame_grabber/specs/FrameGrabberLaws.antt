-- The first complete frame of a capture: a visible line that the reader gives out is laid out as 01 says, so the file of a picture is written.
use Rattle.std.specs.Prelude.{◌≡◌, refl, Bool, true, false, cond, List, [], ◌∷◌, ◌++◌, ℕ, length, drop, None}
use Rattle.std.proofs.Common.{sym, ap, subst, ◌∙◌, true≢false, take_at}
use Rattle.line_code.specs.declared.Kind.{Kind}
use Rattle.line_code.specs.declared.Kind.TheVariants.{BL, BK, VL, SOF, EOF}
use Rattle.line_code.specs.LineCode.{kind_number}
use Rattle.profile.specs.declared.Profile.{Profile}
use Rattle.profile.specs.declared.Profile.TheVariants.{VV5404}
use Rattle.profile.specs.Profile.{longest}
use Rattle.profile.specs.Layout.{rules, fits}
use Rattle.profile.specs.LayoutLaws.{rules_length, fits_length}
use Rattle.stream.specs.Answers.{Outcome, answer_for, buffer_after}
use Rattle.reader.specs.declared.Reader.{Reader}
use Rattle.reader.specs.Reader.{Took, fresh_reader, taking, feed_of}
use Rattle.mark_answer.specs.Sound.{Sound, sound_nothing, sound_line, sound_gap, sound_refused}
use Rattle.reader.specs.ReaderLaws.{take_profile, take_sound}
use Rattle.reader_laws.proofs.Passes.{passes_test, fresh_ok, Feeding, feed_state, feed_nibble, feed_room, feed_taken, feeding}
use Rattle.frame_judge.specs.Frame.{broken_kind}
use Rattle.frame_handing.specs.Handing.{is_broken_line, hand, as_lines, handed_lines}
use Rattle.frame_row.specs.declared.Order.{Order}
use Rattle.frame_row.specs.declared.Keeping.{Keeping}
use Rattle.frame_row.specs.declared.Keeping.TheVariants.{VisiblePixels}
use Rattle.frame_row.specs.FrameRow.{is_visible}
use Rattle.frame_rows.specs.FrameRows.{Shown, complete}
use Rattle.frame_rows.specs.FrameRows as rows
use Rattle.frame_rows_laws.specs.Gathering.{call, start, is_refused_call, unless_refused, shown, taken, Laid, Every}
use Rattle.frame_rows_laws.proofs.FrameRowsLaws.{complete_rows}
use Rattle.frame_rows_laws.proofs.PictureLaws.{rows_written}
use Rattle.frame_grabber.specs.FrameGrabber.{fresh_grabber, blank, given, seek, After, grab_of}
use Rattle.frame_grabber.specs.Pieces.{joined, grab_pieces, givens, lines_in, FrameFound, Pictured}
use Rattle.frame_grabber.specs.SeekLaws.{seeks}
use Rattle.frame_grabber.specs.PieceLaws.{grab_is, pieces_whole}

-- Lines are laid out as 01 says.

broken_laid : (b : Bool) (held : List ℕ) → Every Laid (shown (as_lines (cond b (hand broken_kind 0) None)) held)
broken_laid true held = (λ e. absurd (true≢false (sym e)), tt)
broken_laid false held = tt

kind_laid : (k : Kind) (body : List ℕ) → fits (rules VV5404 k) body ≡ true → is_visible (kind_number k) ≡ true → fits (rules VV5404 VL) body ≡ true
kind_laid BL body f e = absurd (true≢false (sym e))
kind_laid BK body f e = absurd (true≢false (sym e))
kind_laid VL body f e = f
kind_laid SOF body f e = absurd (true≢false (sym e))
kind_laid EOF body f e = absurd (true≢false (sym e))

abbrev GivenLaid : Outcome → Type 0
GivenLaid o = Every Laid (shown (handed_lines (answer_for o)) (buffer_after o blank))

sound_laid : {o : Outcome} → Sound VV5404 o → GivenLaid o
sound_laid sound_nothing = tt
sound_laid (sound_line {f} {body} h) = (
  λ e.
      subst (λ (b : List ℕ). fits (rules VV5404 VL) b ≡ true)
      (sym (take_at body (drop (length body) blank) longest (fits_length (rules VV5404 f.kind) body h ∙ rules_length VV5404 f.kind)))
      (kind_laid f.kind body h e),
  tt,
)
sound_laid sound_gap = tt
sound_laid (sound_refused n g h) = broken_laid (is_broken_line n) blank

-- a nibble fed: what it gives is laid out so, and the profile stays
fed_laid : (r : Reader) (n : ℕ) → r.head.profile ≡ VV5404 → GivenLaid (feed_of r n longest).outcome × ((feed_of r n longest).reader.head.profile ≡ VV5404)
fed_laid r n e = go (feeding r n longest)
  where
    go : {t : Took} → Feeding r n longest t → GivenLaid t.outcome × (t.reader.head.profile ≡ VV5404)
    go (feed_state q) = (broken_laid (is_broken_line _) blank, e)
    go (feed_nibble q) = (broken_laid (is_broken_line _) blank, e)
    go (feed_room q) = (broken_laid (is_broken_line _) blank, e)
    go (feed_taken l) = (
      sound_laid (subst (λ (p : Profile). Sound p (taking r n).outcome) e (take_sound r.head r.body n)),
      take_profile r.head _ n ∙ e,
    )

every_append : (P : Shown → Type 0) (a b : List Shown) → Every P a → Every P b → Every P (a ++ b)
every_append P [] b h g = g
every_append P (l ∷ a) b h g = (h.0, every_append P a b h.1 g)

kept_laid : (b : Bool) (ls : List Shown) → Every Laid ls → Every Laid (cond b [] ls)
kept_laid true ls h = tt
kept_laid false ls h = h

-- so are all lines that nibbles hand over
pub givens_laid : (w : List ℕ) (r : Reader) (x : rows.AfterCall) → r.head.profile ≡ VV5404 → Every Laid (taken x (givens r w))
givens_laid [] r x e = tt
givens_laid (n ∷ w) r x e =
    let t = feed_of r n longest in
    let q = fed_laid r n e in
    let y = call x (given t) in
    every_append Laid (unless_refused y.output (shown (handed_lines (given t).answer) (given t).held)) (taken y (givens t.reader w))
    (kept_laid (is_refused_call y.output) _ q.0) (givens_laid w t.reader y q.1)

-- The frame.

-- of a whole capture
first_frame : (k : Keeping) (held capture : List ℕ) (n : ℕ) (w : List ℕ) → (grab_of (fresh_grabber k) capture held).output ≡ complete n w
    → FrameFound k held capture n w
first_frame k held capture n w e =
    let s = fresh_grabber k in
    let f = seeks capture s.reader s.gatherer held in
    record {
      up_to = f.up_to;
      left = (seek s.reader s.gatherer held capture).left;
      splits = f.splits;
      completes =
          complete_rows k held (givens (fresh_reader VV5404) f.up_to) n w
          (sym (ap (λ (x : rows.AfterCall). x.output) f.outcome_is) ∙ sym (ap (λ (a : After). a.output) (grab_is s capture held (passes_test _ (fresh_ok VV5404).test))) ∙ e);
      laid = givens_laid f.up_to (fresh_reader VV5404) (start k held) refl;
    }

-- whatever the pieces: where a fresh grabber says complete, the rows are those of the lines of a whole frame, which the capture's lines up to there
-- end in
pub frame_found : (k : Keeping) (held : List ℕ) (ps : List (List ℕ)) (n : ℕ) (w : List ℕ) → (grab_pieces (fresh_grabber k) held ps).output ≡ complete n w
    → FrameFound k held (joined ps) n w
frame_found k held ps n w e =
    first_frame k held (joined ps) n w (sym (ap (λ (a : After). a.output) (pieces_whole ps (fresh_grabber k) held (fresh_ok VV5404))) ∙ e)

-- and the file of a picture's is written
pub picture_written : (o : Order) (held : List ℕ) (ps : List (List ℕ)) (n : ℕ) (w : List ℕ)
    → (grab_pieces (fresh_grabber (VisiblePixels o)) held ps).output ≡ complete n w → Pictured o held (joined ps) n w
picture_written o held ps n w e =
    let f = frame_found (VisiblePixels o) held ps n w e in
    record { found = f; written = λ room. rows_written o (lines_in (VisiblePixels o) held f.up_to) n w f.completes room f.laid }
