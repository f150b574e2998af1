-- A sensor's registers, and what the data of a message does to them (02, A6).
use Rattle.std.specs.Prelude.{Bool, false, not, ◌||◌, cond, List, [], ◌∷◌, ℕ, ◌+◌, eqb, leb, ltb, get_or, set}

-- how many registers there are, and the last one's index
abbrev pub register_count : ℕ
register_count = 128

-- the greatest index of a register
abbrev pub last_index : ℕ
last_index = 127

-- the registers below it, identity, status and line count, are the sensor's own
abbrev pub first_settable : ℕ
first_settable = 5

-- The data of a message. Each byte stands at an index, the first at the current one.

-- the index after a data byte's: increment moves after each
unfoldable pub next : Bool → ℕ → ℕ
next increment i = cond increment (i + 1) i

-- some byte would stand at an index past 127
abbrev pub runs_past : Bool → ℕ → List ℕ → Bool
runs_past increment i [] = false
runs_past increment i (b ∷ bytes) = ltb last_index i || runs_past increment (next increment i) bytes

-- the index behind the data
abbrev pub reached : Bool → ℕ → List ℕ → ℕ
reached increment i [] = i
reached increment i (b ∷ bytes) = reached increment (next increment i) bytes

-- the current index that is left: a single increment past 127 leaves 0
abbrev pub left : ℕ → ℕ
left i = cond (leb i last_index) i 0

-- a byte written at an index: a write to the sensor's own leaves the model's register
unfoldable pub put : List ℕ → ℕ → ℕ → List ℕ
put registers i b = cond (ltb i first_settable) registers (set registers i b)

-- the registers after a write's data
abbrev pub stored : Bool → ℕ → List ℕ → List ℕ → List ℕ
stored increment i [] registers = registers
stored increment i (b ∷ bytes) registers = stored increment (next increment i) bytes (put registers i b)

-- a write's data stored whole, or where it would pass 127 not at all
unfoldable pub stored_whole : Bool → ℕ → List ℕ → List ℕ → List ℕ
stored_whole increment i bytes registers = cond (runs_past increment i bytes) registers (stored increment i bytes registers)

-- a byte read at an index differs: a read of the sensor's own is not compared, and neither is one past 127
unfoldable pub differs : List ℕ → ℕ → ℕ → Bool
differs registers i b = cond (ltb i first_settable) false (cond (ltb last_index i) false (not (eqb (get_or registers i 0) b)))

-- some byte of a read's data differs
abbrev pub some_differs : Bool → ℕ → List ℕ → List ℕ → Bool
some_differs increment i [] registers = false
some_differs increment i (b ∷ bytes) registers = differs registers i b || some_differs increment (next increment i) bytes registers
