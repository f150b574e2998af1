-- What is sought, nibble by nibble: it is the gatherer's calls up to the first that says something.
use Rattle.std.specs.Prelude.{◌≡◌, refl, Bool, true, false, cond, List, [], ◌∷◌, ◌++◌, ℕ, ◌+◌, ◌≤◌, length}
use Rattle.std.proofs.Common.{sym, ap, ◌∙◌, true≢false, arith, length-append, length-take-le}
use Rattle.refusal.specs.Refusal.{no_room}
use Rattle.profile.specs.declared.Profile.TheVariants.{VV5404}
use Rattle.profile.specs.Profile.{longest}
use Rattle.reader.specs.declared.Reader.{Reader}
use Rattle.reader.specs.Reader.{Took, feed_of}
use Rattle.frame_judge.specs.declared.Judge.{Judge}
use Rattle.frame_judge.specs.declared.Judge.TheVariants.{Waiting, Due}
use Rattle.frame_judge.specs.declared.Ruling.{Ruling}
use Rattle.frame_judge.specs.declared.Ruling.TheVariants as ruling
use Rattle.frame_judge.specs.Calls.{called}
use Rattle.frame_judge.specs.Frame.{breaks_frame}
use Rattle.frame_handing.specs.Handing.{handed_lines}
use Rattle.frame_rows.specs.declared.Gatherer.{Gatherer}
use Rattle.frame_rows.specs.FrameRows.{Output, Shown, nothing, complete, refused, quiet}
use Rattle.frame_rows.specs.FrameRows as rows
use Rattle.frame_row.specs.FrameRow.{row_size, row_fits, with_row}
use Rattle.frame_rows_laws.specs.Gathering.{Given, call, calls, shown}
use Rattle.frame_rows_laws.proofs.FrameRowsLaws.{row_fits_lem, with_row_length, Hands, none, one, hands}
use Rattle.frame_grabber.specs.FrameGrabber.{given, is_said, Sought, sought, seek}
use Rattle.frame_grabber.specs.Pieces.{givens, Seeks}

pub not_said : (o : Output) → is_said o ≡ false → o ≡ nothing
not_said nothing e = refl
not_said (complete n w) e = absurd (true≢false e)
not_said (refused n) e = absurd (true≢false e)

-- What is sought, as the gatherer's calls.

-- where an answer was handed over: it stops, or goes on
abbrev stop_if : Bool → Reader → rows.AfterCall → List ℕ → Sought
stop_if b r x w = cond b (sought r x w) (seek r x.gatherer x.buffer w)

pub seeks : (w : List ℕ) (r : Reader) (g : Gatherer) (held : List ℕ) → Seeks r g held w
seeks [] r g held = record { up_to = []; splits = refl; outcome_is = refl; reader_is = refl }
seeks (n ∷ w) r g held = by (is_said x.output) refl (seeks w t.reader x.gatherer x.buffer)
  where
    t : Took
    t = feed_of r n longest

    x : rows.AfterCall
    x = call (quiet g held) (given t)

    either : Bool → Sought
    either b = stop_if b t.reader x w

    by : (b : Bool) → is_said x.output ≡ b → Seeks t.reader x.gatherer x.buffer w → Seeks r g held (n ∷ w)
    by true e k =
        let q : either true ≡ seek r g held (n ∷ w) = ap either (sym e) in
        record {
          up_to = n ∷ [];
          splits = ap (λ (s : Sought). n ∷ s.left) q;
          outcome_is = sym (ap (λ (s : Sought). s.outcome) q);
          reader_is = sym (ap (λ (s : Sought). s.reader) q);
        }
    by false e k =
        let q : either false ≡ seek r g held (n ∷ w) = ap either (sym e) in
        let still : quiet x.gatherer x.buffer ≡ x =
        ap (λ (o : Output). record { gatherer = x.gatherer; output = o; buffer = x.buffer }) (sym (not_said x.output e)) in
        record {
          up_to = n ∷ k.up_to;
          splits = ap (λ (v : List ℕ). n ∷ v) k.splits ∙ ap (λ (s : Sought). n ∷ (k.up_to ++ s.left)) q;
          outcome_is =
              sym (ap (λ (s : Sought). s.outcome) q) ∙ k.outcome_is ∙ ap (λ (y : rows.AfterCall). calls y (givens t.reader k.up_to)) still;
          reader_is = sym (ap (λ (s : Sought). s.reader) q) ∙ k.reader_is;
        }

-- Nibbles, and nibbles after them.

-- what is sought in nibbles with more after them
abbrev pub and_then : Sought → List ℕ → Sought
and_then s w = cond (is_said s.outcome.output) (sought s.reader s.outcome (s.left ++ w)) (seek s.reader s.outcome.gatherer s.outcome.buffer w)

pub seek_append : (v : List ℕ) (r : Reader) (g : Gatherer) (held w : List ℕ) → seek r g held (v ++ w) ≡ and_then (seek r g held v) w
seek_append [] r g held w = refl
seek_append (n ∷ v) r g held w = by (is_said x.output) refl (seek_append v t.reader x.gatherer x.buffer w)
  where
    t : Took
    t = feed_of r n longest

    x : rows.AfterCall
    x = call (quiet g held) (given t)

    by : (b : Bool) → is_said x.output ≡ b → seek t.reader x.gatherer x.buffer (v ++ w) ≡ and_then (seek t.reader x.gatherer x.buffer v) w
        → stop_if b t.reader x (v ++ w) ≡ and_then (stop_if b t.reader x v) w
    by true e h = sym (ap (λ (b : Bool). cond b (sought t.reader x (v ++ w)) (seek t.reader x.gatherer x.buffer w)) e)
    by false e h = h

pub left_none : (w : List ℕ) (r : Reader) (g : Gatherer) (held : List ℕ) → is_said (seek r g held w).outcome.output ≡ false → (seek r g held w).left ≡ []
left_none [] r g held e = refl
left_none (n ∷ w) r g held f = by (is_said x.output) refl (left_none w t.reader x.gatherer x.buffer) f
  where
    t : Took
    t = feed_of r n longest

    x : rows.AfterCall
    x = call (quiet g held) (given t)

    either : Bool → Sought
    either b = stop_if b t.reader x w

    by : (b : Bool) → is_said x.output ≡ b
        → (is_said (seek t.reader x.gatherer x.buffer w).outcome.output ≡ false → (seek t.reader x.gatherer x.buffer w).left ≡ [])
        → is_said (either b).outcome.output ≡ false → (either b).left ≡ []
    by true e h d = absurd (true≢false (sym e ∙ d))
    by false e h d = h d

pub left_few : (r : Reader) (g : Gatherer) (held w : List ℕ) → length (seek r g held w).left ≤ length w
left_few r g held w = let k = seeks w r g held in omega (arith, ap length k.splits, length-append k.up_to (seek r g held w).left)

-- What complete says is the length of its rows.

-- a complete frame's rows are as long as is said
abbrev pub Sized : Output → Type 0
Sized nothing = Unit {0}
Sized (complete n w) = length w ≡ n
Sized (refused n) = Unit {0}

either_sized : (b : Bool) (x y : rows.AfterCall) → (b ≡ true → Sized x.output) → Sized y.output → Sized (cond b x y).output
either_sized true x y h g = h refl
either_sized false x y h g = g

row_sized : (g : Gatherer) (j : Judge) (kept place kind : ℕ) (body held : List ℕ) → Sized (rows.row_kept g j kept place kind body held).output
unfolding rows.row_kept
row_sized g j kept place kind body held = either_sized (row_fits g.keeping kept kind body held) _ (rows.refuses g no_room held) (λ _. tt) tt

handed_sized : (g : Gatherer) (l : Shown) (held : List ℕ) → Sized (rows.handed g l held).output
unfolding rows.handed rows.completed rows.refused_by rows.after_break
handed_sized g l held = by (called VV5404 g.judge l.given).ruling
  where
    j : Judge
    j = (called VV5404 g.judge l.given).judge

    n : ℕ
    n = g.kept + row_size g.keeping l.given.kind

    last : List ℕ
    last = with_row g.keeping g.kept (rows.place_due g.judge) l.given.kind l.body held

    broken : (i : Judge) → Sized (rows.after_break g i l.given.kind l.body held).output
    broken Waiting = tt
    broken (Due place b) = row_sized g (Due place b) 0 0 l.given.kind l.body held

    by : (v : Ruling) → Sized (rows.by_ruling g l held j v).output
    by ruling.Waiting = tt
    by ruling.Going = row_sized g j g.kept (rows.place_due g.judge) l.given.kind l.body held
    by ruling.Complete =
        either_sized (row_fits g.keeping g.kept l.given.kind l.body held) (rows.completing g j n last) (rows.refuses g no_room held)
        (λ e. length-take-le n last (omega (arith, (row_fits_lem g.keeping g.kept l.given.kind l.body held e).1, with_row_length g.keeping g.kept (rows.place_due g.judge) l.given.kind l.body held e))) tt
    by (ruling.Refused r) = either_sized (breaks_frame r.0) (rows.after_break g j l.given.kind l.body held) (rows.refuses g r.0 held) (λ _. broken j) tt

call_sized : (x : rows.AfterCall) (a : Given) → Sized (call x a).output
call_sized x a = by (shown (handed_lines a.answer) a.held) (call x a) (hands x a)
  where
    by : (ls : List Shown) (y : rows.AfterCall) → Hands x ls y → Sized y.output
    by _ _ none = tt
    by _ _ (one l) = handed_sized x.gatherer l x.buffer

pub seek_sized : (w : List ℕ) (r : Reader) (g : Gatherer) (held : List ℕ) → Sized (seek r g held w).outcome.output
seek_sized [] r g held = tt
seek_sized (n ∷ w) r g held = by (is_said x.output) (seek_sized w t.reader x.gatherer x.buffer)
  where
    t : Took
    t = feed_of r n longest

    x : rows.AfterCall
    x = call (quiet g held) (given t)

    by : (b : Bool) → Sized (seek t.reader x.gatherer x.buffer w).outcome.output
        → Sized (stop_if b t.reader x w).outcome.output
    by true h = call_sized (quiet g held) (given t)
    by false h = h
