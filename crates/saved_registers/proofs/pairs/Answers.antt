-- Each byte is the one that the definition has.
use mathlib.Core.Path.{refl}
use borrow.Author.Rules.{rules}
use Rattle.saved_registers.specs.SettingRegisters.{setting_pairs}
use Rattle.saved_registers.proofs.pairs.Goals as goal

pub returns : goal.returns
unfolding setting_pairs
returns c = refl
