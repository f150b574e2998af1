-- What is stored: a setting, two bytes after another; the settings of a list, one behind another, and nothing else is left of its bytes.
use mathlib.Core.Path.{◌≡◌, sym, ap, ◌∙◌}
use mathlib.Core.List.{List, [], ◌∷◌, ◌++◌, append-nil}
use Prim.Native.Nat.{ℕ, ◌+◌, ◌*◌, ◌<◌}
use native.Mathlib.Omega.{arith}
use lib.ListN.{length, get_or, take, drop_of_length-le}
use Rattle.std.proofs.Common.{take_all, append_assoc}
use Rattle.std.proofs.lemmas.List.{length-take-le, take_more}
use lib.Seq.{sets}
use Rattle.lent_buffer.specs.StoringLaws.{sets_append, sets_front}
use Rattle.line_records.specs.Lines.{in_two}
use Rattle.saved_setting.specs.declared.SavedSetting.{SavedSetting}
use Rattle.fluturenc_settings.specs.SavedBytes.{list_size, place_bytes, list_bytes}
use Rattle.fluturenc_settings.specs.SavedBytesLaws.{bytes_length}

-- bytes stored straight behind others
behind_them : (v w b : List ℕ) (at k : ℕ) → k ≡ at + length v → sets (sets b at v) k w ≡ sets b at (v ++ w)
behind_them v w b at k e = ap (λ (i : ℕ). sets (sets b at v) i w) e ∙ sets_append v w b at

bytes_last : (list : List SavedSetting) (s : SavedSetting) → list_bytes (list ++ (s ∷ [])) ≡ list_bytes list ++ place_bytes s
bytes_last [] s = append-nil (place_bytes s)
bytes_last (t ∷ list) s = ap (λ (l : List ℕ). place_bytes t ++ l) (bytes_last list s) ∙ sym (append_assoc (place_bytes t) (list_bytes list) (place_bytes s))

pub setting_stored : (b b1 b2 b3 b4 : List ℕ) (at : ℕ) (s : SavedSetting) → b1 ≡ sets b at (in_two s.version) → b2 ≡ sets b1 (at + 2) (in_two s.fine)
    → b3 ≡ sets b2 (at + 4) (in_two s.coarse) → b4 ≡ sets b3 (at + 6) (s.gain ∷ s.divisor ∷ []) → b4 ≡ sets b at (place_bytes s)
setting_stored b b1 b2 b3 b4 at s p q r z =
    let codes : List ℕ = s.gain ∷ s.divisor ∷ [] in
    let last : at + 6 ≡ at + 4 + 2 = omega arith in
    let third : at + 4 ≡ at + 2 + 2 = omega arith in
    let second : at + 2 ≡ at + 2 = omega arith in
    z
    ∙ ap (λ (l : List ℕ). sets l (at + 6) codes) r
    ∙ behind_them (in_two s.coarse) codes b2 (at + 4) (at + 6) last
    ∙ ap (λ (l : List ℕ). sets l (at + 4) (in_two s.coarse ++ codes)) q
    ∙ behind_them (in_two s.fine) (in_two s.coarse ++ codes) b1 (at + 2) (at + 4) third
    ∙ ap (λ (l : List ℕ). sets l (at + 2) (in_two s.fine ++ (in_two s.coarse ++ codes))) p
    ∙ behind_them (in_two s.version) (in_two s.fine ++ (in_two s.coarse ++ codes)) b at (at + 2) second

-- the bytes of the places before a place, and of that place behind them
pub place_stored : (places : List SavedSetting) (d : SavedSetting) (b : List ℕ) (i : ℕ) → i < length places
    → sets (sets b 0 (list_bytes (take i places))) (8 * i) (place_bytes (get_or places i d)) ≡ sets b 0 (list_bytes (take (i + 1) places))
place_stored places d b i h =
    let front : List SavedSetting = take i places in
    let at : length (list_bytes front) ≡ 8 * i = bytes_length front ∙ omega (arith, length-take-le i places (omega arith)) in
    behind_them (list_bytes front) (place_bytes (get_or places i d)) b 0 (8 * i) (omega (arith, at))
    ∙ ap (λ (l : List ℕ). sets b 0 l) (sym (bytes_last front (get_or places i d)) ∙ ap list_bytes (sym (take_more places i d h)))

pub places_stored : (places : List SavedSetting) (b : List ℕ) → length places ≡ 8 → length b ≡ list_size
    → sets b 0 (list_bytes (take 8 places)) ≡ list_bytes places
places_stored places b e long =
    let bytes : length (list_bytes places) ≡ 64 = bytes_length places ∙ omega (arith, e) in
    ap (λ (l : List SavedSetting). sets b 0 (list_bytes l)) (take_all 8 places (omega (arith, e)))
    ∙ sets_front (list_bytes places) b (omega (arith, bytes, long))
    ∙ ap (λ (l : List ℕ). list_bytes places ++ l) (drop_of_length-le b {i = length (list_bytes places)} (omega (arith, bytes, long)))
    ∙ append-nil (list_bytes places)
