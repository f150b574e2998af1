-- Laws of a piece's nibbles: pieces give what the whole capture gives; no answer of the nibbles taken is left out; the length that complete says
-- is within the buffer.
use Rattle.std.specs.Prelude.{◌≡◌, refl, Bool, true, false, cond, List, [], ◌∷◌, ◌++◌, ℕ, ◌+◌, ◌-◌, ◌≤◌, length, take, Ok as Unrefused, Some}
use Rattle.std.proofs.Common.{sym, ap, ap₂, subst, ◌∙◌, arith, length-append, length-take, take_at}
use Rattle.profile.specs.Profile.{longest}
use Rattle.reader.specs.declared.Reader.{Reader}
use Rattle.reader_head.specs.Head.{passes}
use Rattle.reader.specs.Reader.{feed_of}
use Rattle.reader_laws.proofs.Passes.{passes_test, feed_ok}
use Rattle.reader_laws.specs.Passing.{Ok}
use Rattle.frame_rows.specs.FrameRows.{Progress, output_of, quiet}
use Rattle.frame_rows.specs.FrameRows as rows
use Rattle.frame_rows_laws.specs.Gathering.{calls}
use Rattle.frame_grabber.specs.declared.Grabber.{Grabber}
use Rattle.frame_grabber.specs.declared.Grabbed.{Grabbed}
use Rattle.frame_grabber.specs.FrameGrabber.{is_said, Sought, sought, seek, After, leaving, failing, grab_of, Grabs}
use Rattle.frame_grabber.specs.Pieces.{joined, with_more, grab_pieces, fed_all, givens, StandsFed}
use Rattle.frame_grabber.specs.SeekLaws.{seeks, and_then, seek_append, left_none, left_few, Sized, seek_sized}

-- A piece.

-- the reader passes its test
pub grab_is : (s : Grabber) (w held : List ℕ) → passes s.reader.head ≡ true → grab_of s w held ≡ leaving (length w) (seek s.reader s.gatherer held w)
unfolding grab_of
grab_is s w held e = simp e

pub grab_fails : (s : Grabber) (w held : List ℕ) → passes s.reader.head ≡ false → grab_of s w held ≡ failing s held
unfolding grab_of
grab_fails s w held e = simp e

-- Pieces.

fed_ok : (w : List ℕ) (r : Reader) → Ok r.head → Ok (fed_all r w).head
fed_ok [] r ok = ok
fed_ok (n ∷ w) r ok = fed_ok w (feed_of r n longest).reader (feed_ok r n longest ok)

-- a grabber after a call, with so many nibbles taken
abbrev counted : ℕ → Sought → After
counted k q =
    record { grabber = record { reader = q.reader; gatherer = q.outcome.gatherer }; taken = k; output = q.outcome.output; buffer = q.outcome.buffer }

-- a piece, and more after it
module _ (s : Grabber) (held p later : List ℕ) (ok : Ok s.reader.head) where
  abbrev first : Sought
  first = seek s.reader s.gatherer held p

  -- where nothing was said
  abbrev last : Sought
  last = seek first.reader first.outcome.gatherer first.outcome.buffer later

  alone : grab_of s p held ≡ leaving (length p) first
  alone = grab_is s p held (passes_test _ ok.test)

  both : grab_of s (p ++ later) held ≡ leaving (length p + length later) (and_then first later)
  both =
      grab_is s (p ++ later) held (passes_test _ ok.test)
      ∙ ap₂ leaving (length-append p later) (seek_append p s.reader s.gatherer held later)

  grab_said : is_said (grab_of s p held).output ≡ true → grab_of s (p ++ later) held ≡ grab_of s p held
  grab_said e =
      both
      ∙ ap (λ (b : Bool). leaving (length p + length later) (cond b (sought first.reader first.outcome (first.left ++ later)) last))
      (sym (ap (λ (a : After). is_said a.output) alone) ∙ e)
      ∙ ap (λ (k : ℕ). counted k first)
      (let z : length p + length later - length (first.left ++ later) ≡ length p - length first.left = omega (arith, length-append first.left later) in z)
      ∙ sym alone

  grab_on : is_said (grab_of s p held).output ≡ false
      → (grab_of s (p ++ later) held ≡ with_more (grab_of s p held).taken (grab_of (grab_of s p held).grabber later (grab_of s p held).buffer))
      × Ok (grab_of s p held).grabber.reader.head
  grab_on e =
      let d : is_said first.outcome.output ≡ false = sym (ap (λ (a : After). is_said a.output) alone) ∙ e in
      let there : Grabber = record { reader = first.reader; gatherer = first.outcome.gatherer } in
      let k = seeks p s.reader s.gatherer held in
      let good : Ok first.reader.head = subst (λ (r : Reader). Ok r.head) (sym k.reader_is) (fed_ok k.up_to s.reader ok) in
      let few = left_few first.reader first.outcome.gatherer first.outcome.buffer later in
      let now : grab_of s p held ≡ counted (length p) first =
      alone
      ∙ ap (λ (n : ℕ). counted n first)
      (let z : length p - length first.left ≡ length p = omega (arith, ap length (left_none p s.reader s.gatherer held d)) in z) in (
        both
            ∙ ap (λ (b : Bool). leaving (length p + length later) (cond b (sought first.reader first.outcome (first.left ++ later)) last)) d
            ∙ ap (λ (n : ℕ). counted n last)
            (let z : length p + length later - length last.left ≡ length p + (length later - length last.left) = omega (arith, few) in z)
            ∙ ap (with_more (length p)) (sym (grab_is there later first.outcome.buffer (passes_test _ good.test)))
            ∙ ap (λ (a : After). with_more a.taken (grab_of a.grabber later a.buffer)) (sym now),
        subst (λ (a : After). Ok a.grabber.reader.head) (sym now) good,
      )

-- pieces give what the whole capture gives
pub pieces_whole : (ps : List (List ℕ)) (s : Grabber) (held : List ℕ) → Ok s.reader.head → grab_pieces s held ps ≡ grab_of s (joined ps) held
pieces_whole [] s held ok = sym (grab_is s [] held (passes_test _ ok.test))
pieces_whole (p ∷ ps) s held ok = by (is_said (grab_of s p held).output) refl (λ (a : After). pieces_whole ps a.grabber a.buffer)
  where
    a : After
    a = grab_of s p held

    by : (b : Bool) → is_said a.output ≡ b
        → ((x : After) → Ok x.grabber.reader.head → grab_pieces x.grabber x.buffer ps ≡ grab_of x.grabber (joined ps) x.buffer)
        → cond b a (with_more a.taken (grab_pieces a.grabber a.buffer ps)) ≡ grab_of s (p ++ joined ps) held
    by true e rest = sym (grab_said s held p (joined ps) ok e)
    by false e rest =
        let q = grab_on s held p (joined ps) ok e in
        ap (with_more a.taken) (rest a q.1) ∙ sym q.0

-- No answer of the nibbles taken is left out.

-- after a call, the grabber and the rows' buffer are those of feeding every nibble taken, and handing over every answer
pub grab_stands : (s : Grabber) (w held : List ℕ) → StandsFed s w held (grab_of s w held)
grab_stands s w held = by (passes s.reader.head) refl
  where
    q : Sought
    q = seek s.reader s.gatherer held w

    some : StandsFed s w held (leaving (length w) q)
    some =
        let k = seeks w s.reader s.gatherer held in
        let n : length w - length q.left ≡ length k.up_to = omega (arith, ap length k.splits, length-append k.up_to q.left) in
        let t : take (length w - length q.left) w ≡ k.up_to =
        ap (take (length w - length q.left)) k.splits ∙ take_at k.up_to q.left (length w - length q.left) (sym n) in
        let c : q.outcome ≡ calls (quiet s.gatherer held) (givens s.reader (take (length w - length q.left) w)) =
        k.outcome_is ∙ ap (λ (v : List ℕ). calls (quiet s.gatherer held) (givens s.reader v)) (sym t) in
        record {
          reader_is = k.reader_is ∙ ap (fed_all s.reader) (sym t);
          gatherer_is = ap (λ (x : rows.AfterCall). x.gatherer) c;
          rows_are = ap (λ (x : rows.AfterCall). x.buffer) c;
        }

    none : StandsFed s w held (failing s held)
    none = record { reader_is = refl; gatherer_is = refl; rows_are = refl }

    by : (b : Bool) → passes s.reader.head ≡ b → StandsFed s w held (grab_of s w held)
    by true e = subst (StandsFed s w held) (sym (grab_is s w held e)) some
    by false e = subst (StandsFed s w held) (sym (grab_fails s w held e)) none

-- The length that complete says, of any grabber.

grab_sized : (s : Grabber) (w held : List ℕ) → Sized (grab_of s w held).output
unfolding grab_of
grab_sized s w held = by (passes s.reader.head)
  where
    by : (b : Bool) → Sized (cond b (leaving (length w) (seek s.reader s.gatherer held w)) (failing s held)).output
    by true = seek_sized w s.reader s.gatherer held
    by false = tt

pub rows_within : (s : Grabber) (w held : List ℕ) (y : Grabbed) (after : List ℕ) (n : ℕ) → Grabs (grab_of s w held) y after
    → y.progress ≡ Unrefused (Some n) → n ≤ length after
rows_within s w held y after n g e =
    let q = subst Sized (sym g.says ∙ ap (λ (p : Progress). output_of p after) e) (grab_sized s w held) in
    omega (arith, q, length-take n after)
