-- A list with differences applied (02, A13), and the order of differences.
use Rattle.std.specs.Prelude.{◌≡◌, ◌⊎◌, cond, List, [], ◌∷◌, ℕ, suc, ◌<◌, eqb, ltb, set}
use Rattle.line_records.specs.Lines.{FullLine}
use Rattle.diff_records.specs.Difference.{Difference, only_first, only_second, both_kinds, both_bytes}

-- A list with differences applied, one after another.

-- the list without its line of a number
abbrev pub without : ℕ → List FullLine → List FullLine
without n [] = []
without n (l ∷ ls) = cond (eqb l.number n) ls (l ∷ without n ls)

-- the list with a line more, at its place by number
abbrev pub including : FullLine → List FullLine → List FullLine
including x [] = x ∷ []
including x (l ∷ ls) = cond (ltb x.number l.number) (x ∷ l ∷ ls) (l ∷ including x ls)

-- the list with its line of a number changed
abbrev pub line_changed : ℕ → (FullLine → FullLine) → List FullLine → List FullLine
line_changed n f [] = []
line_changed n f (l ∷ ls) = cond (eqb l.number n) (f l ∷ ls) (l ∷ line_changed n f ls)

-- a line with another kind
abbrev pub of_kind : ℕ → FullLine → FullLine
of_kind k l = record { kind = k; number = l.number; body = l.body }

-- a line with another byte at a place
abbrev pub with_byte : ℕ → ℕ → FullLine → FullLine
with_byte p y l = record { kind = l.kind; number = l.number; body = set l.body p y }

-- a list of lines with one difference made
unfoldable pub applied : Difference → List FullLine → List FullLine
applied (only_first x) ls = without x.number ls
applied (only_second x) ls = including x ls
applied (both_kinds n k m) ls = line_changed n (of_kind m) ls
applied (both_bytes n p x y) ls = line_changed n (with_byte p y) ls

-- a list of lines with differences made, one after another
abbrev pub applied_all : List Difference → List FullLine → List FullLine
applied_all [] ls = ls
applied_all (d ∷ ds) ls = applied_all ds (applied d ls)

-- The order.

-- the number of the line that a difference is of
abbrev pub of_number : Difference → ℕ
of_number (only_first l) = l.number
of_number (only_second l) = l.number
of_number (both_kinds n k m) = n
of_number (both_bytes n p x y) = n

-- where it stands among those of its number: what is of the whole line or its kind first, then by place
abbrev pub rank : Difference → ℕ
rank (only_first l) = 0
rank (only_second l) = 0
rank (both_kinds n k m) = 0
rank (both_bytes n p x y) = suc p

-- one difference comes before another: by number, then by rank
abbrev pub Precedes : Difference → Difference → Type 0
Precedes d e = (of_number d < of_number e) ⊎ ((of_number d ≡ of_number e) × (rank d < rank e))

-- a claim of each difference of a list
pub data Each (P : Difference → Type 0) : List Difference → Type 0 where
  done : Each P []
  also : {d : Difference} {ds : List Difference} → P d → Each P ds → Each P (d ∷ ds)

-- each difference comes before all that follow it
pub data InOrder : List Difference → Type 0 where
  empty : InOrder []
  then : {d : Difference} {ds : List Difference} → Each (Precedes d) ds → InOrder ds → InOrder (d ∷ ds)
