-- Bytes taken many at a time, without being taken apart: what the contracts of the private functions cite.
use Rattle.std.specs.Prelude.{◌≡◌, true, false, List, ◌⊎◌, ℕ, zero, suc, ◌+◌, ◌-◌, ◌*◌, ◌≤◌, ◌<◌, length, get_or, set, drop}
use Rattle.stream.specs.Written.{nibbles}
use Rattle.reader_head.specs.declared.Head.{Head}
use Rattle.reader_head.specs.Head.{shows_mark}
use Rattle.reader.specs.Reader.{reader_of}
use Rattle.run.specs.Run.{onward, lent_run_of}
use Rattle.run_ahead.specs.declared.Reached.{Reached}
use Rattle.reader_laws.specs.Passing.{Ok}
use Rattle.capture_bytes.specs.EndToEnd.{later}

-- the byte of the two nibbles from a place on
abbrev pub byte_from : List ℕ → ℕ → ℕ
byte_from s i = 16 * get_or s i 0 + get_or s (i + 1) 0

-- the eight nibbles from a place on, as a window
unfoldable pub window_from : List ℕ → ℕ → ℕ
window_from s i =
    268435456 * get_or s i 0
    + 16777216 * get_or s (i + 1) 0
    + 1048576 * get_or s (i + 2) 0
    + 65536 * get_or s (i + 3) 0
    + 4096 * get_or s (i + 4) 0
    + 256 * get_or s (i + 5) 0
    + 16 * get_or s (i + 6) 0
    + get_or s (i + 7) 0

-- a body with n bytes of the nibbles from the place i on, put there from its place j on
abbrev pub packed_into : List ℕ → ℕ → List ℕ → ℕ → ℕ → List ℕ
packed_into B j s i zero = B
packed_into B j s i (suc n) = set (packed_into B j s i n) (j + n) (byte_from s (i + 2 * n))

-- A mark's F F F F 0 0 has a byte FF at either phase, and a byte below 16 two further on: FF FF 00, or xF FF F0 0x.

-- none begins at a byte, by that and the one two further on
abbrev pub NoneBegun : ℕ → ℕ → Type 0
NoneBegun first third = (first < 255) ⊎ (16 ≤ third)

-- none begins at n bytes from the place i on
pub record NoneBegins (bs : List ℕ) (i n : ℕ) : Type 0 where
  pub each : (k : ℕ) → k < n → NoneBegun (get_or bs (i + k) 0) (get_or bs (i + k + 2) 0)

-- n bytes from the place i on are FF
pub record AllNull (bs : List ℕ) (i n : ℕ) : Type 0 where
  pub each : (k : ℕ) → k < n → get_or bs (i + k) 0 ≡ 255

-- n bytes of the nibbles from a place on change nothing but the window, the count and the body: the reader shows the eight nibbles before them, none
-- of them completes a mark, and a stray nibble is noted already, or each that leaves the window is F
pub record Quiet (h : Head) (s : List ℕ) (at n : ℕ) : Type 0 where
  pub behind : 8 ≤ at
  pub up_to : at + 2 * n ≤ length s
  pub shown : h.window ≡ window_from s (at - 8)
  pub no_mark : (x : ℕ) → at < x + 8 → x + 8 ≤ at + 2 * n → shows_mark (window_from s x) ≡ false
  pub still : (x : ℕ) → at ≤ x + 8 → x + 8 < at + 2 * n → (h.kept.stray ≡ true) ⊎ (get_or s x 0 ≡ 15)

-- a run from the place i on, and from the place i' with what is read up to there, is the same; of the same mark, as sound, and within the nibbles
pub record LeadsOn (s : List ℕ) (h : Head) (B : List ℕ) (i : ℕ) (h' : Head) (B' : List ℕ) (i' : ℕ) : Type 0 where
  pub same : onward (reader_of h B) (drop i s) i ≡ onward (reader_of h' B') (drop i' s) i'
  pub sound : Ok h → Ok h'
  pub same_mark : h'.at ≡ h.at
  pub same_profile : h'.profile ≡ h.profile
  pub same_length : length B' ≡ length B
  pub from_on : i ≤ i'
  pub within : i' - i ≤ length s - i

-- the same of a run with a lent body and a line buffer, whatever the reader
pub record Skips (h : Head) (body bytes : List ℕ) (at room : ℕ) (r : Reached) (body' : List ℕ) : Type 0 where
  pub same : lent_run_of h body (drop at (nibbles bytes)) room ≡ later (r.at - at) (lent_run_of r.head body' (drop r.at (nibbles bytes)) room)
  pub same_mark : r.head.at ≡ h.at
  pub same_profile : r.head.profile ≡ h.profile
  pub same_length : length body' ≡ length body
  pub from_on : at ≤ r.at
  pub within : r.at - at ≤ 2 * length bytes - at
