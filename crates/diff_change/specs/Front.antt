-- What is told of a difference.
use Rattle.diff_records.specs.Difference.{Difference, only_first, only_second, both_kinds, both_bytes}
use Rattle.diff_change.specs.declared.Change.{Change}
use Rattle.diff_change.specs.declared.Change.TheVariants.{First, Second, Kinds, Bytes}

-- a difference without a body
abbrev pub change_of : Difference → Change
change_of (only_first l) = First l.number
change_of (only_second l) = Second l.number
change_of (both_kinds n k m) = Kinds n k m
change_of (both_bytes n p x y) = Bytes n p x y
