-- States that the reader's own test passes or fails; and one that no nibbles leave, and that some explain all the same.
use Rattle.std.specs.Prelude.{◌≡◌, refl, true, false, ◌∷◌, ℕ, zero, suc, ◌<◌, replicate, get_or}
use Rattle.std.proofs.Common.{arith}
use Rattle.line_code.specs.declared.Kind.TheVariants.{BL}
use Rattle.line_code.specs.LineCode.{reading_of, meaning_of, kind_numbered, reserved_of}
use Rattle.profile.specs.declared.Profile.TheVariants.{VV5404, VV5300}
use Rattle.stream.specs.declared.Before.TheVariants.{NoLine, RefusedLine, HandedOut}
use Rattle.stream.specs.declared.Mark.{Mark}
use Rattle.stream.specs.declared.Mark.TheVariants.{NoMark, Open}
use Rattle.mark_text.specs.declared.Kept.{Kept}
use Rattle.mark_text.specs.MarkText.{nothing_kept}
use Rattle.reader.specs.declared.Reader.{Reader}
use Rattle.reader_head.specs.Head.{shows_mark, passes}
use Rattle.explained.proofs.Interchangeable.{head_with}
use Rattle.explained.specs.Explained.{Explained}
use Rattle.explained.proofs.ExplainedLaws.{explained}

-- a mark with the clean code of BL, and none before it
abbrev open_bl : Mark
open_bl = Open NoLine 0x9D

-- a mark with the clean code of end of line, after a BL that was refused
abbrev open_end : Mark
open_end = Open (RefusedLine BL) 0x80

-- the same after one handed out; and one that no nibbles lead to
abbrev handed_end : Mark
handed_end = Open (HandedOut BL) 0x80

abbrev handed_bl : Mark
handed_bl = Open (HandedOut BL) 0x9D

-- two bytes FF, and a stray nibble noted
abbrev stray_kept : Kept
stray_kept = record { first = 0xFF; second = 0xFF; stray = true }

-- fresh; a mark just open; its code half out of the window; F F F F 0 0 at the window's newest end; a gap's first nibble after its two
-- bytes has left the window, and was not F; nibbles that no mark came before; an end of line after a line handed out
passing : (passes (head_with VV5404 NoMark 0 0 nothing_kept) ≡ true)
    × (passes (head_with VV5404 open_bl 2 0x9D nothing_kept) ≡ true)
    × (passes (head_with VV5404 open_bl 9 0xD0700700 nothing_kept) ≡ true)
    × (passes (head_with VV5404 open_bl 100 0x07FFFF00 stray_kept) ≡ true)
    × (passes (head_with VV5300 open_end 15 0xFFFFFFFF stray_kept) ≡ true)
    × (passes (head_with VV5300 NoMark 3 0xFFF nothing_kept) ≡ true)
    × (passes (head_with VV5404 handed_end 2 0x80 nothing_kept) ≡ true)
unfolding passes shows_mark reading_of meaning_of kind_numbered reserved_of
passing = (refl, refl, refl, refl, refl, refl, refl)

-- a mark without its whole code; another code in the window; another half of it; a count past its stop; a mark complete and not taken; a
-- stray nibble noted before one can have left the window; a fourth nibble where three have come; another mark than an end of line after a
-- line handed out
failing : (passes (head_with VV5404 open_bl 1 0x9 nothing_kept) ≡ false)
    × (passes (head_with VV5404 open_bl 4 0x9C07 nothing_kept) ≡ false)
    × (passes (head_with VV5404 open_bl 9 0xC0700700 nothing_kept) ≡ false)
    × (passes (head_with VV5404 open_bl 65544 0 nothing_kept) ≡ false)
    × (passes (head_with VV5404 open_bl 100 0xFFFF0080 nothing_kept) ≡ false)
    × (passes (head_with VV5300 open_end 14 0xFFFFFFFF stray_kept) ≡ false)
    × (passes (head_with VV5300 NoMark 3 0x1000 nothing_kept) ≡ false)
    × (passes (head_with VV5404 handed_bl 2 0x9D nothing_kept) ≡ false)
unfolding passes shows_mark reading_of meaning_of kind_numbered reserved_of
failing = (refl, refl, refl, refl, refl, refl, refl, refl)

-- number bytes FF FF and a body that starts with 00: F F F F 0 0 within a text, where nibbles would have brought a mark
abbrev inner_mark : Reader
inner_mark = record { head = head_with VV5404 open_bl 100 0x07070707 stray_kept; body = 0x00 ∷ replicate 355 0x07 }

fillers : (n i : ℕ) → get_or (replicate n 0x07) i 0 < 256
fillers zero i = omega arith
fillers (suc n) zero = omega arith
fillers (suc n) (suc i) = fillers n i

bytes_small : (i : ℕ) → get_or (0x00 ∷ replicate 355 0x07) i 0 < 256
bytes_small zero = omega arith
bytes_small (suc i) = fillers 355 i

pub inner_mark_lem : Explained inner_mark
unfolding passes shows_mark
inner_mark_lem =
    explained inner_mark
    (record {
      code_byte = omega arith;
      window_small = omega arith;
      kept_typed = record { first_byte = omega arith; second_byte = omega arith; size = refl; bytes = bytes_small };
    })
    refl
