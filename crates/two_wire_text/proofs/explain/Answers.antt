-- A line of at most 256 bytes is decoded, and the bytes at the front are read; a longer one is refused.
-- the line's bytes have room, and stand at the front
use mathlib.Core.Path.{◌≡◌, refl}
use mathlib.Core.List.{List}
use Prim.Native.Nat.{ℕ, ◌/◌, ◌<◌, ◌≤◌}
use native.Mathlib.Nat.{le_refl}
use native.Mathlib.Omega.{arith}
use lib.ListN.{length}
use lib.Seq.{sets}
use borrow.Author.Tests.{le-leb, lt-leb}
use Rattle.text.specs.Put.{Put}
use Rattle.text.specs.PutLaws.{put_within, on_front_lem, front_text}
use Rattle.two_wire_text.specs.Hex.{bytes_of}
use Rattle.two_wire_text.specs.HexLaws.{bytes_length}
use Rattle.two_wire_text.specs.Explained.{message_text, message_sensor}
use Rattle.two_wire_text.proofs.explain.Goals as goal

decoded : (line : List ℕ) {before after : List ℕ} {r : ℕ} → length line / 3 < 256 → 256 ≤ length before
    → (r ≡ length (bytes_of line)) × (after ≡ sets before 0 (bytes_of line)) → Put before 0 (bytes_of line) r after
decoded line short room e = record { room = omega (arith, bytes_length line); place = omega (arith, e.0); stored = e.1 }

pub returns-then-line-ge-LONGEST : goal.returns-then-line-ge-LONGEST
unfolding message_text message_sensor
returns-then-line-ge-LONGEST c = simp (le-leb _ _ c.if-line-ge-LONGEST.true) (refl, c.put_refused-length.ensures)

pub slice_bounds-bytes-end : goal.slice_bounds-bytes-end
slice_bounds-bytes-end c = put_within (decoded c.args.line.now c.if-line-ge-LONGEST.false (le_refl 256) c.decode-n.ensures)

pub slice_bounds-read_message-end : goal.slice_bounds-read_message-end
slice_bounds-read_message-end c =
    let p = decoded c.args.line.now c.if-line-ge-LONGEST.false (le_refl 256) c.decode-n.ensures in
    rw (front_text p) (on_front_lem p).count

pub returns : goal.returns
unfolding message_text message_sensor
returns c =
    let short = c.if-line-ge-LONGEST.false in
    simp (lt-leb _ _ short) (rw (front_text (decoded c.args.line.now short (le_refl 256) c.decode-n.ensures)) at c.read_message.ensures)
