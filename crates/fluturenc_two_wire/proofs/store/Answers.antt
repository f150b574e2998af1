-- The registers fill the first 128 bytes, and the index and the flag are stored straight behind them.
use Rattle.std.proofs.Common.{rules, ◌≡◌, ap, sym, ◌∙◌, ℕ, length, List, ◌∷◌, ◌++◌, slice_set, arith}
use Rattle.std.specs.Prelude.{drop}
use Rattle.std.proofs.lemmas.List.{length-take-le}
use Rattle.fluturenc_two_wire.specs.SensorBytes.{with_sensor}
use Rattle.fluturenc_two_wire.proofs.Storing.{sensor_stored}
use Rattle.fluturenc_two_wire.proofs.store.Goals as goal

pub slice_bounds-copy_from_slice-end-2 : goal.slice_bounds-copy_from_slice-end-2
slice_bounds-copy_from_slice-end-2 c = sym (length-take-le 128 c.args.sensor.now (omega (arith, c.requires)))

pub copy_from_slice-requires : goal.copy_from_slice-requires
copy_from_slice-requires c =
    let full : 128 ≡ length c.args.s.registers = search rules in
    length-take-le 128 c.args.sensor.now (omega (arith, c.requires)) ∙ full

pub returns : goal.returns
unfolding with_sensor
returns c =
    let s = c.args.s in
    let b = c.args.sensor.now in
    let full : length s.registers ≡ 128 = search rules in
    ap (λ (l : List ℕ). slice_set (slice_set (l ++ drop 128 b) 128 s.index) 129 c.bit.result) c.copy_from_slice.ensures.after
    ∙ sensor_stored s.registers b s.index c.bit.result full c.requires
    ∙ ap (λ (f : ℕ). s.registers ++ (s.index ∷ f ∷ drop 130 b)) c.bit.ensures
