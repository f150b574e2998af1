-- The states that calls reach: the reader's own test as facts, and that a mark's code is a byte. Definitions only.
use Rattle.std.specs.Prelude.{◌≡◌, true, false, [], ℕ, ◌+◌, ◌-◌, ◌%◌, ◌≤◌, ◌<◌}
use Rattle.profile.specs.Profile.{gap_start}
use Rattle.stream.specs.declared.Mark.{Mark}
use Rattle.stream.specs.declared.Mark.TheVariants.{NoMark, Open}
use Rattle.reader_head.specs.declared.Head.{Head}
use Rattle.reader_head.specs.Head.{shows_mark, count_stop, aged, handed_fits, flushed}
use Rattle.std.proofs.Math.Option.{none}
use Rattle.mark_answer.specs.KeptAnswer.{kept_answer}
use Rattle.reader.specs.declared.Reader.{Reader}
use Rattle.reader.specs.Reader.{Took, fresh_reader}

-- The test as facts.

-- an open mark's code stands in the window where the count says
pub record MarkFits (code c w : ℕ) : Type 0 where
  pub two : 2 ≤ c
  pub within : c ≤ 8 → aged (c - 2) w ≡ code
  pub half : c ≡ 9 → aged 7 w ≡ code % 16

-- a mark and its count fit the window
abbrev pub Fits : Mark → ℕ → ℕ → Type 0
Fits NoMark c w = c ≤ 8 → aged c w ≡ 0
Fits (Open before code) c w = MarkFits code c w

-- what a state that passes the reader's own test has
pub record Passed (h : Head) : Type 0 where
  pub count_small : h.count ≤ count_stop
  pub no_mark_there : shows_mark h.window ≡ false
  pub handed_fits : handed_fits h.at ≡ true
  pub window_fits : Fits h.at h.count h.window
  pub stray_late : h.kept.stray ≡ true → gap_start h.profile + 8 < h.count

-- a mark's code is a byte
abbrev pub Byte : Mark → Type 0
Byte NoMark = Unit {0}
Byte (Open before code) = code < 256

-- what holds of every state that calls reach
pub record Ok (h : Head) : Type 0 where
  pub byte : Byte h.at
  pub test : Passed h

-- finish where the test passes
abbrev pub finished : Reader → Took
finished r =
    record {
      reader = fresh_reader r.head.profile;
      outcome = kept_answer r.head.profile r.head.at r.head.count (flushed 8 r.head).kept [] none;
    }
