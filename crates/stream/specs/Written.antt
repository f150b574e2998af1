-- Lines as the writer writes them, and clean streams (01, 'Line layout' and the writer's paragraph).
use Rattle.std.specs.Prelude.{◌≡◌, true, List, [], ◌∷◌, ◌++◌, ℕ, ◌+◌, ◌*◌, ◌/◌, ◌%◌, ◌≤◌, max, replicate}
use Rattle.line_code.specs.declared.Kind.{Kind}
use Rattle.line_code.specs.declared.Meaning.TheVariants.{EndOfLine, Line}
use Rattle.line_code.specs.LineCode.{clean_byte}
use Rattle.line_number.specs.LineNumber.{greatest, number_byte}
use Rattle.profile.specs.declared.Profile.{Profile}
use Rattle.profile.specs.Profile.{null_byte}
use Rattle.profile.specs.Layout.{rules, fits, gap_fits}
use Rattle.stream.specs.Answers.{line_nibbles, group_nibbles}

-- what a caller gives the writer: a line, its two gap bytes, and how many null bytes
pub record Sent : Type 0 where
  pub kind : Kind
  pub number : ℕ
  pub body : List ℕ
  pub gap_one : ℕ
  pub gap_two : ℕ
  pub nulls : ℕ

-- the most null bytes after a line
abbrev pub most_nulls : ℕ
most_nulls = 255

-- the most nibbles of an open mark's text in a clean stream: code, number and body, or code, two gap bytes and the most nulls; and all of the
-- next mark but its last nibble. 725 in profile 0, 523 in profile 1
abbrev pub most_text : Profile → ℕ
most_text p = max (line_nibbles p) (2 * (1 + 2 + most_nulls)) + (group_nibbles + 1)

-- a line that may be written: the writer refuses every other
pub record Writable (p : Profile) (s : Sent) : Type 0 where
  pub number_small : s.number ≤ greatest
  pub body_fits : fits (rules p s.kind) s.body ≡ true
  pub gap_fits : gap_fits p s.kind s.gap_one s.gap_two ≡ true
  pub nulls_few : s.nulls ≤ most_nulls

-- the nibbles of bytes, the high one of each first
abbrev pub nibbles : List ℕ → List ℕ
nibbles [] = []
nibbles (b ∷ bs) = b / 16 ∷ b % 16 ∷ nibbles bs

-- F F F F 0 0 and a code byte
abbrev pub mark_of : ℕ → List ℕ
mark_of code = 15 ∷ 15 ∷ 15 ∷ 15 ∷ 0 ∷ 0 ∷ code / 16 ∷ code % 16 ∷ []

-- the mark that opens a line
abbrev pub start_mark : Sent → List ℕ
start_mark s = mark_of (clean_byte (Line s.kind))

-- the two number bytes and the body
abbrev pub content : Sent → List ℕ
content s = nibbles (number_byte (s.number / 64) ∷ number_byte (s.number % 64) ∷ s.body)

-- the mark that ends a line
abbrev pub end_mark : List ℕ
end_mark = mark_of (clean_byte EndOfLine)

-- the gap bytes and the null bytes
abbrev pub tail : Sent → List ℕ
tail s = nibbles (s.gap_one ∷ s.gap_two ∷ replicate s.nulls null_byte)

-- a line as the writer writes it
abbrev pub written : Sent → List ℕ
written s = start_mark s ++ (content s ++ (end_mark ++ tail s))

-- a clean stream: lines as written, one straight after another and nothing between
abbrev pub stream : List Sent → List ℕ
stream [] = []
stream (s ∷ ss) = written s ++ stream ss

-- every line may be written in this profile
pub data AllWritable (p : Profile) : List Sent → Type 0 where
  no_lines : AllWritable p []
  and_line : {s : Sent} {ss : List Sent} → Writable p s → AllWritable p ss → AllWritable p (s ∷ ss)
