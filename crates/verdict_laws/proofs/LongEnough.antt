-- Two frames' worth of a clean stream of frames hold a whole one, wherever they begin: the first frame that starts in them ends in them.
use Rattle.std.specs.Prelude.{◌≡◌, refl, Bool, true, false, List, [], ◌∷◌, ◌++◌, ℕ, zero, suc, ◌+◌, ◌-◌, ◌*◌, ◌≤◌, ◌<◌, leb, length}
use Rattle.std.proofs.Common.{◌∙◌, ap, arith, length-append, leb-true, leb-false}
use Rattle.profile.specs.declared.Profile.{Profile}
use Rattle.stream.specs.Written.{Sent, written, stream}
use Rattle.frame_laws.specs.SentFrames.{all_lines, AllFrames, and_frame}
use Rattle.verdict_laws.specs.CleanCapture.{HoldsFrame, FramesWithin, none_within, one_within}
use Rattle.verdict_laws.proofs.CleanCaptureLaws.{stream_append, tail_after}

-- a list that is not empty has a last one
record Snoc (ss : List Sent) : Type 0 where
  front : List Sent
  last_line : Sent
  is : ss ≡ front ++ (last_line ∷ [])

snoc : (s : Sent) (ss : List Sent) → Snoc (s ∷ ss)
snoc s [] = record { front = []; last_line = s; is = refl }
snoc s (t ∷ ss) = let r = snoc t ss in record { front = s ∷ r.front; last_line = r.last_line; is = ap {B = List Sent} (λ l. s ∷ l) r.is }

-- a frame has lines
frame_snoc : (p : Profile) (ss : List Sent) (fs : List (List Sent)) → AllFrames p (ss ∷ fs) → Snoc ss
frame_snoc p [] fs (and_frame b f h) = absurd (let e = f.0 in omega arith)
frame_snoc p (s ∷ ss) fs h = snoc s ss

-- the first frame, where the capture begins with it
pub holds_first : (p : Profile) (ss : List Sent) (fs : List (List Sent)) → AllFrames p (ss ∷ fs) → (n : ℕ) → length (stream ss) ≤ n → HoldsFrame (ss ∷ fs) 0 n
holds_first p ss fs h n l =
    let s = frame_snoc p ss fs h in
    let long : length (stream ss) ≡ length (stream s.front) + length (stream (s.last_line ∷ []))
    = ap (λ (x : List Sent). length (stream x)) s.is ∙ stream_append s.front (s.last_line ∷ []) in
    record {
      earlier = [];
      front = s.front;
      last_line = s.last_line;
      later = fs;
      one_of = ap {B = List (List Sent)} (λ x. x ∷ fs) s.is;
      starts_after = omega arith;
      ends_before = omega (arith, l, long, tail_after s.last_line, length-append (written s.last_line) []);
    }

-- a frame after the first, where the capture begins within the first or after it
holds_later : (ss : List Sent) (fs : List (List Sent)) (i n j m : ℕ) → i ≤ length (stream ss) + j → length (stream ss) + j + m ≤ i + n → HoldsFrame fs j m → HoldsFrame (ss ∷ fs) i n
holds_later ss fs i n j m a z h =
    let long = stream_append ss (all_lines h.earlier) in
    let b = h.starts_after in
    let c = h.ends_before in
    record {
      earlier = ss ∷ h.earlier;
      front = h.front;
      last_line = h.last_line;
      later = h.later;
      one_of = ap {B = List (List Sent)} (λ x. ss ∷ x) h.one_of;
      starts_after = omega (arith, a, b, long);
      ends_before = omega (arith, z, c, long);
    }

-- of a capture within the stream, of two frames' worth at least, with the length before the frames
two_hold : (p : Profile) (most : ℕ) {fs : List (List Sent)} → AllFrames p fs → FramesWithin most fs → (i n : ℕ) → 0 < n → 2 * most ≤ n
    → i + n ≤ length (stream (all_lines fs)) → HoldsFrame fs i n
two_hold p most h none_within i n z l e = absurd (omega arith)
two_hold p most (and_frame b {ss = ss} {fs = fs} f h) (one_within a w) i n z l e =
    go i (leb long i) refl e (λ j. two_hold p most h w j n z l)
  where
    long : ℕ
    long = length (stream ss)

    within : (i : ℕ) → i < long → i + n ≤ length (stream (all_lines (ss ∷ fs))) → HoldsFrame (ss ∷ fs) i n
    within i q e = next fs h w (omega (arith, a, q, e, z, l, stream_append ss (all_lines fs)))
      where
        next : (fs : List (List Sent)) → AllFrames p fs → FramesWithin most fs → 0 < length (stream (all_lines fs)) → HoldsFrame (ss ∷ fs) i n
        next [] h w x = absurd (omega arith)
        next (ts ∷ fs) h (one_within c w) x =
            holds_later ss (ts ∷ fs) i n 0 (i + n - long) (omega arith) (omega arith) (holds_first p ts fs h (i + n - long) (omega arith))

    go : (i : ℕ) (b : Bool) → leb long i ≡ b → i + n ≤ length (stream (all_lines (ss ∷ fs))) → ((j : ℕ) → j + n ≤ length (stream (all_lines fs)) → HoldsFrame fs j n)
        → HoldsFrame (ss ∷ fs) i n
    go i true q e more =
        let m = leb-true long i q in
        holds_later ss fs i n (i - long) n (omega arith) (omega arith) (more (i - long) (omega (arith, m, e, stream_append ss (all_lines fs))))
    go zero false q e more = holds_first p ss fs (and_frame b f h) n (omega arith)
    go (suc i) false q e more = within (suc i) (leb-false long (suc i) q) e

-- the law: of a capture within the stream, of two frames' worth at least
pub two_frames_hold : (p : Profile) {fs : List (List Sent)} → AllFrames p fs → (most : ℕ) → FramesWithin most fs → (i n : ℕ) → 0 < n → 2 * most ≤ n
    → i + n ≤ length (stream (all_lines fs)) → HoldsFrame fs i n
two_frames_hold p h most w i n z l e = two_hold p most h w i n z l e
