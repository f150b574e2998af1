-- The greatest u64 has 20 digits: so many places hold any number, and the digits in them are put as a text.
use Prim.Native.Nat.{◌-◌}
use native.Mathlib.Omega.{arith}
use Rattle.text.specs.PutLaws.{puts_rest}
use Rattle.text.proofs.put_decimal.Goals as goal

pub returns : goal.returns
returns c =
    let fill = c.fill_digits-first in
    puts_rest fill.new.places fill.result (20 - fill.result) (omega (arith, fill.auto.places)) fill.ensures.1 c.put.ensures
