-- What may be said to differ between two lists of lines (02, A13), whatever the order and however it is found.
use Rattle.std.specs.Prelude.{◌≡◌, ℕ, ◌<◌, length, get_or}
use mathlib.Core.List.{List, Memᴰ}
use Rattle.line_records.specs.Lines.{FullLine}
use Rattle.diff_records.specs.Difference.{Difference, only_first, only_second, both_kinds, both_bytes}

-- a list holds no line of a number
abbrev pub NoneOf : ℕ → List FullLine → Type 0
NoneOf n ls = (l : FullLine) → Memᴰ l ls → l.number ≡ n → ⊥

-- both lists hold a line of a number
pub record Both (ls ms : List FullLine) (n : ℕ) : Type 0 where
  pub one : FullLine
  pub other : FullLine
  pub one_in : Memᴰ one ls
  pub other_in : Memᴰ other ms
  pub one_number : one.number ≡ n
  pub other_number : other.number ≡ n

-- and these have different kinds
pub record KindsDiffer (ls ms : List FullLine) (n k m : ℕ) : Type 0 where
  pub lines : Both ls ms n
  pub one_kind : lines.one.kind ≡ k
  pub other_kind : lines.other.kind ≡ m
  pub differ : k ≡ m → ⊥

-- or different bytes at a place of their bodies
pub record BytesDiffer (ls ms : List FullLine) (n p x y : ℕ) : Type 0 where
  pub lines : Both ls ms n
  pub one_within : p < length lines.one.body
  pub other_within : p < length lines.other.body
  pub one_byte : get_or lines.one.body p 0 ≡ x
  pub other_byte : get_or lines.other.body p 0 ≡ y
  pub differ : x ≡ y → ⊥

-- a difference is true of two lists
abbrev pub Differs : List FullLine → List FullLine → Difference → Type 0
Differs ls ms (only_first l) = Memᴰ l ls × NoneOf l.number ms
Differs ls ms (only_second l) = Memᴰ l ms × NoneOf l.number ls
Differs ls ms (both_kinds n k m) = KindsDiffer ls ms n k m
Differs ls ms (both_bytes n p x y) = BytesDiffer ls ms n p x y
