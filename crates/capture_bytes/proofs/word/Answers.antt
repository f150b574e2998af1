-- Four bytes one after another are the eight nibbles of a window.
use mathlib.Core.Path.{◌≡◌, ◌∙◌}
use Prim.Native.Nat.{ℕ, ◌+◌, ◌*◌}
use native.Mathlib.Omega.{arith}
use Rattle.stream.specs.Written.{nibbles}
use Rattle.capture_bytes.proofs.Blocks.{window_word}
use Rattle.capture_bytes.proofs.word.Goals as goal

joined : (a b c d w₁ w₂ w₃ w₄ : ℕ) → w₁ ≡ 256 * 0 + a → w₂ ≡ 256 * w₁ + b → w₃ ≡ 256 * w₂ + c → w₄ ≡ 256 * w₃ + d
    → w₄ ≡ 256 * (256 * (256 * (256 * 0 + a) + b) + c) + d
joined a b c d w₁ w₂ w₃ w₄ e f g h = omega arith

pub returns : goal.returns
returns c =
    let a = c.args in
    joined _ _ _ _ _ _ _ _ c.with_byte-w.ensures.0 c.with_byte-w-2.ensures.0
    c.with_byte-w-3.ensures.0 c.with_byte.ensures.0
    ∙ window_word (nibbles a.bytes.now) a.i a.odd _ _ _ _ c.byte_from.ensures
    c.byte_from-2.ensures c.byte_from-3.ensures c.byte_from-4.ensures
