-- Line codes (01, 'Marks and line codes'): the byte 1 C2 C1 C0 P3 P2 P1 P0.
use Rattle.std.specs.Prelude.{Bool, true, false, ◌&&◌, cond, ℕ, zero, suc, ◌+◌, ◌-◌, ◌*◌, ◌/◌, ◌%◌, eqb, ltb, None, Option, Some}
use Rattle.bits.specs.Bits.{bit, flipped}
use Rattle.line_code.specs.declared.Kind.{Kind}
use Rattle.line_code.specs.declared.Kind.TheVariants.{BL, BK, VL, SOF, EOF}
use Rattle.line_code.specs.declared.Meaning.{Meaning}
use Rattle.line_code.specs.declared.Meaning.TheVariants.{EndOfLine, Line, ReservedEC, ReservedF1}
use Rattle.line_code.specs.declared.Repair.{Repair}
use Rattle.line_code.specs.declared.Repair.TheVariants.{Clean, Bit}
use Rattle.line_code.specs.declared.Reading.{Reading}
use Rattle.line_code.specs.declared.Reading.TheVariants.{Says, Damaged}

-- the paper's number of a line kind, 1 to 5
abbrev pub kind_number : Kind → ℕ
kind_number BL = 1
kind_number BK = 2
kind_number VL = 3
kind_number SOF = 4
kind_number EOF = 5

-- the kind with a number, if it has one
unfoldable pub kind_numbered : ℕ → Option Kind
kind_numbered n =
    cond (eqb n 1) (Some BL)
    (cond (eqb n 2) (Some BK) (cond (eqb n 3) (Some VL) (cond (eqb n 4) (Some SOF) (cond (eqb n 5) (Some EOF) None))))

-- the code C2 C1 C0 of a meaning, 0 to 7
abbrev pub code_of : Meaning → ℕ
code_of EndOfLine = 0
code_of (Line k) = kind_number k
code_of ReservedEC = 6
code_of ReservedF1 = 7

-- the codes 6 and 7
unfoldable pub reserved_of : ℕ → Meaning
reserved_of c = cond (eqb c 6) ReservedEC ReservedF1

-- a line, if the code is a kind's number, else the meaning given
abbrev pub line_or : Option Kind → Meaning → Meaning
line_or (Some k) m = Line k
line_or None m = m

-- the meaning of a code C2 C1 C0
unfoldable pub meaning_of : ℕ → Meaning
meaning_of c = cond (eqb c 0) EndOfLine (line_or (kind_numbered c) (reserved_of c))

-- the code bits C2 C1 C0 of a byte
abbrev pub code_bits : ℕ → ℕ
code_bits b = b / 16 % 8

-- a count is even
abbrev pub even : ℕ → Bool
even n = eqb (n % 2) 0

-- the four parity sums (004, Table 6): ones are even in each of C2 C1 C0 P0; C2 C1 P1; C2 C0 P2; C1 C0 P3
abbrev pub parity_holds : ℕ → Bool
parity_holds b =
    even (bit b 6 + bit b 5 + bit b 4 + bit b 0)
    && (even (bit b 6 + bit b 5 + bit b 1) && (even (bit b 6 + bit b 4 + bit b 2) && even (bit b 5 + bit b 4 + bit b 3)))

-- the top bit of a byte is 1
abbrev pub top_bit : ℕ → Bool
top_bit b = eqb (b / 128) 1

-- a clean byte: its top bit is 1, and the parity sums hold
abbrev pub clean : ℕ → Bool
clean b = top_bit b && parity_holds b

-- the clean byte of a meaning: its parity bits make the four sums even
unfoldable pub clean_byte : Meaning → ℕ
clean_byte m =
    let c : ℕ = code_of m in
    let c2 : ℕ = bit c 2 in
    let c1 : ℕ = bit c 1 in
    let c0 : ℕ = bit c 0 in
    128 + 16 * c + 8 * ((c1 + c0) % 2) + 4 * ((c2 + c0) % 2) + 2 * ((c2 + c1) % 2) + (c2 + c1 + c0) % 2

-- repaired to a clean byte that differs in one of the n lowest bits, which the reading names, or damaged
abbrev pub repaired_in : ℕ → ℕ → Reading
repaired_in zero b = Damaged
repaired_in (suc n) b = cond (clean (flipped b n)) (Says (meaning_of (code_bits (flipped b n))) (Bit n)) (repaired_in n b)

-- the reading of a byte: clean, or repaired in one of its eight bits, or damaged
unfoldable pub reading_of : ℕ → Reading
reading_of b = cond (clean b) (Says (meaning_of (code_bits b)) Clean) (repaired_in 8 b)

-- the line kind that a meaning names
abbrev pub kind_meant : Meaning → Option Kind
kind_meant EndOfLine = None
kind_meant (Line k) = Some k
kind_meant ReservedEC = None
kind_meant ReservedF1 = None

-- the line kind of a clean or repaired code
abbrev pub kind_of : Reading → Option Kind
kind_of (Says m r) = kind_meant m
kind_of Damaged = None

-- the meaning is end of line
abbrev pub end_meant : Meaning → Bool
end_meant EndOfLine = true
end_meant (Line k) = false
end_meant ReservedEC = false
end_meant ReservedF1 = false

-- end of line, clean or repaired
abbrev pub is_end : Reading → Bool
is_end (Says m r) = end_meant m
is_end Damaged = false

-- what was repaired: of a damaged code nothing
abbrev pub repair_of : Reading → Repair
repair_of (Says m r) = r
repair_of Damaged = Clean

-- a bit was repaired
abbrev pub is_bit : Repair → Bool
is_bit Clean = false
is_bit (Bit i) = true

-- a clean code
abbrev pub is_clean : Reading → Bool
is_clean (Says m Clean) = true
is_clean (Says m (Bit i)) = false
is_clean Damaged = false

-- a repaired code
abbrev pub is_repaired : Reading → Bool
is_repaired r = is_bit (repair_of r)

-- a damaged code
abbrev pub is_damaged : Reading → Bool
is_damaged (Says m r) = false
is_damaged Damaged = true

-- A reading as a number, and back: what the program's table holds.

-- 0 for no repair, else one more than the bit
abbrev pub repair_number : Repair → ℕ
repair_number Clean = 0
repair_number (Bit i) = i + 1

-- the repair of a number
unfoldable pub repair_numbered : ℕ → Repair
repair_numbered n = cond (eqb n 0) Clean (Bit (n - 1))

-- in hexadecimal, the low digit is the code, 0 to 7, and the high one the repair; 8 is damaged
abbrev pub reading_number : Reading → ℕ
reading_number (Says m r) = 16 * repair_number r + code_of m
reading_number Damaged = 8

-- the reading of a number: meaning in its low four bits, repair above them
unfoldable pub reading_numbered : ℕ → Reading
reading_numbered n = cond (ltb (n % 16) 8) (Says (meaning_of (n % 16)) (repair_numbered (n / 16))) Damaged
