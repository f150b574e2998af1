-- Where a run would be refused, and before the body, nothing is taken; else what is taken leads on.
use mathlib.Core.Path.{sym, ◌∙◌}
use native.Mathlib.Omega.{arith}
use borrow.Author.Rules.{rules}
use Rattle.reader_laws.specs.Passing.{Ok}
use Rattle.reader_laws.proofs.Passes.{passed}
use Rattle.capture_bytes.proofs.Blocks.{skips_here, skips_led}
use Rattle.capture_bytes.proofs.skip.Goals as goal

pub returns-then-h-lt-BODY : goal.returns-then-h-lt-BODY
returns-then-h-lt-BODY c = let a = c.args in skips_here a.h _ a.bytes.now a.at a.room

pub returns-then-body-ne-LONGEST : goal.returns-then-body-ne-LONGEST
returns-then-body-ne-LONGEST c = let a = c.args in skips_here a.h _ a.bytes.now a.at a.room

pub returns-then-room-body_length : goal.returns-then-room-body_length
returns-then-room-body_length c = let a = c.args in skips_here a.h _ a.bytes.now a.at a.room

pub skip_sound-requires : goal.skip_sound-requires
skip_sound-requires c =
    (c.if-h-lt-BODY.false, search rules, sym c.is_sound.ensures.0 ∙ c.if-is_sound.true)

pub returns-then-is_sound : goal.returns-then-is_sound
returns-then-is_sound c =
    let a = c.args in
    let sound = c.is_sound.ensures in
    let ok : Ok a.h = record { byte = sound.1; test = passed a.h (sym sound.0 ∙ c.if-is_sound.true) } in
    skips_led a.bytes.now c.skip_sound.ensures ok c.if-body-ne-LONGEST.false
    (omega (arith, c.body_length.ensures, c.if-room-body_length.false))

pub returns : goal.returns
returns c = let a = c.args in skips_here a.h _ a.bytes.now a.at a.room
