-- Calls of the gatherer that go on while nothing is said: what is sought in nibbles is what they say, and they show a whole frame.
use Rattle.std.specs.Prelude.{◌≡◌, refl, Bool, true, false, cond, List, [], ◌∷◌, ◌++◌, ℕ, ◌+◌, length}
use Rattle.std.proofs.Common.{sym, ap, ◌∙◌, true≢false}
use Rattle.refusal.specs.Refusal.{no_room}
use Rattle.profile.specs.declared.Profile.TheVariants.{VV5404}
use Rattle.profile.specs.Profile.{longest}
use Rattle.stream.specs.Answers.{Outcome, answer_for, buffer_after}
use Rattle.reader.specs.declared.Reader.{Reader}
use Rattle.reader.specs.Reader.{Took, feed_of}
use Rattle.frame_judge.specs.declared.Judge.{Judge}
use Rattle.frame_judge.specs.declared.Judge.TheVariants.{Waiting, Due}
use Rattle.frame_judge.specs.declared.Ruling.{Ruling}
use Rattle.frame_judge.specs.declared.Ruling.TheVariants as ruling
use Rattle.frame_judge.specs.Calls.{called}
use Rattle.frame_judge.specs.Frame.{breaks_frame}
use Rattle.frame_handing.specs.Handing.{handed_lines}
use Rattle.frame_rows.specs.declared.Gatherer.{Gatherer}
use Rattle.frame_row.specs.FrameRow.{row_size, row_fits, with_row}
use Rattle.frame_rows.specs.FrameRows.{Shown, Output, nothing, AfterCall, moved, quiet, refuses, place_due, row_kept, completing, completed, after_break, refused_by, by_ruling, handed}
use Rattle.frame_rows_laws.specs.Gathering.{Given, call, calls, shown}
use Rattle.frame_rows_laws.proofs.FrameRowsLaws.{with_row_length, Hands, none, one, hands}
use Rattle.frame_rows_laws.proofs.WholeFrameLaws.{KeepsCalling}
use Rattle.frame_grabber.specs.FrameGrabber.{blank, given, is_said, sought, seek}
use Rattle.frame_grabber.specs.Pieces.{givens, fed_all}
use Rattle.frame_grabber.specs.SeekLaws.{not_said}

-- what the gatherer is given of an outcome, with the blank line buffer that was lent
abbrev pub given_of : Outcome → Given
given_of o = record { answer = answer_for o; held = buffer_after o blank }

-- calls that go on while nothing is said
abbrev pub until_said : AfterCall → List Given → AfterCall
until_said x [] = x
until_said x (g ∷ gs) = cond (is_said x.output) x (until_said (call x g) gs)

pub until_goes : KeepsCalling until_said
until_goes = record { stays = λ x. refl; goes_on = λ s buffer g gs. refl }

-- where something is said they stop
pub said_stops : (x : AfterCall) (gs : List Given) → is_said x.output ≡ true → until_said x gs ≡ x
said_stops x [] e = refl
said_stops x (g ∷ gs) e = ap (λ (b : Bool). cond b x (until_said (call x g) gs)) e

pub until_append : (gs hs : List Given) (x : AfterCall) → until_said x (gs ++ hs) ≡ until_said (until_said x gs) hs
until_append [] hs x = refl
until_append (g ∷ gs) hs x = by (is_said x.output) refl (until_append gs hs (call x g))
  where
    by : (b : Bool) → is_said x.output ≡ b → until_said (call x g) (gs ++ hs) ≡ until_said (until_said (call x g) gs) hs
        → cond b x (until_said (call x g) (gs ++ hs)) ≡ until_said (cond b x (until_said (call x g) gs)) hs
    by true e h = sym (said_stops x hs e)
    by false e h = h

-- where nothing was said, every call was made
pub until_calls : (gs : List Given) (x : AfterCall) → (until_said x gs).output ≡ nothing → until_said x gs ≡ calls x gs
until_calls [] x q = refl
until_calls (g ∷ gs) x q = by (is_said x.output) refl q (until_calls gs (call x g))
  where
    by : (b : Bool) → is_said x.output ≡ b → (cond b x (until_said (call x g) gs)).output ≡ nothing
        → ((until_said (call x g) gs).output ≡ nothing → until_said (call x g) gs ≡ calls (call x g) gs)
        → cond b x (until_said (call x g) gs) ≡ calls (call x g) gs
    by true e h rest = absurd (true≢false (sym e ∙ ap is_said h))
    by false e h rest = rest h

pub quiet_is : (x : AfterCall) → x.output ≡ nothing → x ≡ quiet x.gatherer x.buffer
quiet_is x e = ap (λ (o : Output). record { gatherer = x.gatherer; output = o; buffer = x.buffer }) e

-- What is sought.

pub seek_until : (w : List ℕ) (r : Reader) (g : Gatherer) (held : List ℕ) → (seek r g held w).outcome ≡ until_said (quiet g held) (givens r w)
seek_until [] r g held = refl
seek_until (n ∷ w) r g held = by (is_said x.output) refl (seek_until w t.reader x.gatherer x.buffer)
  where
    t : Took
    t = feed_of r n longest

    x : AfterCall
    x = call (quiet g held) (given t)

    by : (b : Bool) → is_said x.output ≡ b → (seek t.reader x.gatherer x.buffer w).outcome ≡ until_said (quiet x.gatherer x.buffer) (givens t.reader w)
        → (cond b (sought t.reader x w) (seek t.reader x.gatherer x.buffer w)).outcome ≡ until_said x (givens t.reader w)
    by true e h = sym (said_stops x (givens t.reader w) e)
    by false e h = h ∙ ap (λ (y : AfterCall). until_said y (givens t.reader w)) (sym (quiet_is x (not_said x.output e)))

pub givens_append : (v w : List ℕ) (r : Reader) → givens r (v ++ w) ≡ givens r v ++ givens (fed_all r v) w
givens_append [] w r = refl
givens_append (n ∷ v) w r = ap {B = List Given} (λ l. given (feed_of r n longest) ∷ l) (givens_append v w (feed_of r n longest).reader)

-- The rows' buffer keeps its length.

either_long : (b : Bool) (x y : AfterCall) (n : ℕ) → (b ≡ true → length x.buffer ≡ n) → length y.buffer ≡ n → length (cond b x y).buffer ≡ n
either_long true x y n h g = h refl
either_long false x y n h g = g

row_long : (s : Gatherer) (j : Judge) (kept place kind : ℕ) (body held : List ℕ) → length (row_kept s j kept place kind body held).buffer ≡ length held
unfolding row_kept
row_long s j kept place kind body held =
    either_long (row_fits s.keeping kept kind body held) (quiet (moved s j (kept + row_size s.keeping kind)) (with_row s.keeping kept place kind body held)) (refuses s no_room held)
    (length held) (with_row_length s.keeping kept place kind body held) refl

handed_long : (s : Gatherer) (l : Shown) (held : List ℕ) → length (handed s l held).buffer ≡ length held
unfolding handed completed refused_by after_break
handed_long s l held = by (called VV5404 s.judge l.given).ruling
  where
    j : Judge
    j = (called VV5404 s.judge l.given).judge

    broken : (i : Judge) → length (after_break s i l.given.kind l.body held).buffer ≡ length held
    broken Waiting = refl
    broken (Due place b) = row_long s (Due place b) 0 0 l.given.kind l.body held

    by : (v : Ruling) → length (by_ruling s l held j v).buffer ≡ length held
    by ruling.Waiting = refl
    by ruling.Going = row_long s j s.kept (place_due s.judge) l.given.kind l.body held
    by ruling.Complete =
        either_long (row_fits s.keeping s.kept l.given.kind l.body held)
        (completing s j (s.kept + row_size s.keeping l.given.kind) (with_row s.keeping s.kept (place_due s.judge) l.given.kind l.body held)) (refuses s no_room held)
        (length held) (with_row_length s.keeping s.kept (place_due s.judge) l.given.kind l.body held) refl
    by (ruling.Refused r) = either_long (breaks_frame r.0) (after_break s j l.given.kind l.body held) (refuses s r.0 held) (length held) (λ _. broken j) refl

call_long : (x : AfterCall) (g : Given) → length (call x g).buffer ≡ length x.buffer
call_long x g = by (shown (handed_lines g.answer) g.held) (call x g) (hands x g)
  where
    by : (ls : List Shown) (y : AfterCall) → Hands x ls y → length y.buffer ≡ length x.buffer
    by _ _ none = refl
    by _ _ (one l) = handed_long x.gatherer l x.buffer

pub calls_long : (gs : List Given) (x : AfterCall) → length (calls x gs).buffer ≡ length x.buffer
calls_long [] x = refl
calls_long (g ∷ gs) x = calls_long gs (call x g) ∙ call_long x g
