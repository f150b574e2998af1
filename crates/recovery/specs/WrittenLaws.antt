-- Laws of lines as written: each nibble is 0 to 15.
use Rattle.std.specs.Prelude.{◌≡◌, true, List, [], ◌∷◌, ℕ, zero, suc, ◌/◌, ◌%◌, ◌≤◌, ◌<◌, eqb, leb, replicate}
use Rattle.std.proofs.Common.{sym, true≢false, arith, leb-true, eqb-true}
use Rattle.bits.specs.Every.{and_left, and_right}
use Rattle.line_code.specs.declared.Kind.{Kind}
use Rattle.line_code.specs.declared.Kind.TheVariants.{BL, BK, VL, SOF, EOF}
use Rattle.line_code.specs.declared.Meaning.{Meaning}
use Rattle.line_code.specs.declared.Meaning.TheVariants.{EndOfLine, Line}
use Rattle.line_code.specs.declared.Repair.TheVariants.{Clean}
use Rattle.line_code.specs.LineCode.{clean_byte}
use Rattle.line_code.specs.LineCodeLaws.{clean_reading}
use Rattle.line_number.specs.LineNumber.{number_byte}
use Rattle.profile.specs.declared.Profile.{Profile}
use Rattle.profile.specs.declared.Profile.TheVariants.{VV5404, VV5300}
use Rattle.profile.specs.declared.Rule.{Rule}
use Rattle.profile.specs.declared.Rule.TheVariants.{Filler, Pixel, Any}
use Rattle.profile.specs.Profile.{filler_byte, null_byte}
use Rattle.profile.specs.Layout.{is_pixel, allows, fits, rules, both_are, gap_fits}
use Rattle.stream.specs.Written.{Sent, Writable, AllWritable, no_lines, and_line, nibbles, mark_of, content, written, stream}
use Rattle.stream.specs.Nibbles.{AllNibbles, no_nibble, and_nibble}
use Rattle.stream.specs.NibblesLaws.{all_nibbles_append, all_nibbles_take, all_nibbles_drop}
use Rattle.line_number.specs.LineNumberLaws.{byte_small}
use Rattle.recovery.specs.Calls.{changed}
use Rattle.recovery.specs.ReadBackLaws.{read_small}

all_byte : (b : ℕ) {w : List ℕ} → b ≤ 255 → AllNibbles w → AllNibbles (b / 16 ∷ b % 16 ∷ w)
all_byte b h g = let high : b / 16 < 16 = omega arith in let low : b % 16 < 16 = omega arith in and_nibble high (and_nibble low g)

all_nulls : (k : ℕ) → AllNibbles (nibbles (replicate k null_byte))
all_nulls zero = no_nibble
all_nulls (suc k) = all_byte null_byte (omega arith) (all_nulls k)

allowed_byte : (r : Rule) (b : ℕ) → allows r b ≡ true → b ≤ 255
allowed_byte Filler b h = omega (arith, eqb-true b filler_byte h)
allowed_byte Pixel b h = omega (arith, leb-true b 254 (and_right (leb 1 b) (leb b 254) h))
allowed_byte Any b h = leb-true b 255 h

all_body : (rs : List Rule) (bs : List ℕ) → fits rs bs ≡ true → AllNibbles (nibbles bs)
all_body rs [] h = no_nibble
all_body [] (b ∷ bs) h = absurd (true≢false (sym h))
all_body (r ∷ rs) (b ∷ bs) h =
    all_byte b (allowed_byte r b (and_left (allows r b) (fits rs bs) h)) (all_body rs bs (and_right (allows r b) (fits rs bs) h))

gap_fillers : (a b : ℕ) → both_are filler_byte a b ≡ true → (a ≤ 255) × (b ≤ 255)
gap_fillers a b h =
    (allowed_byte Filler a (and_left (eqb a filler_byte) (eqb b filler_byte) h), allowed_byte Filler b (and_right (eqb a filler_byte) (eqb b filler_byte) h))

gap_bytes : (p : Profile) (k : Kind) (a b : ℕ) → gap_fits p k a b ≡ true → (a ≤ 255) × (b ≤ 255)
gap_bytes VV5404 k a b h =
    (omega (arith, eqb-true a null_byte (and_left (eqb a null_byte) (eqb b null_byte) h)), omega (arith, eqb-true b null_byte (and_right (eqb a null_byte) (eqb b null_byte) h)))
gap_bytes VV5300 BL a b h = gap_fillers a b h
gap_bytes VV5300 BK a b h = gap_fillers a b h
gap_bytes VV5300 VL a b h = (allowed_byte Pixel a (and_left (is_pixel a) (is_pixel b) h), allowed_byte Pixel b (and_right (is_pixel a) (is_pixel b) h))
gap_bytes VV5300 SOF a b h = gap_fillers a b h
gap_bytes VV5300 EOF a b h = gap_fillers a b h

all_mark : (m : Meaning) → AllNibbles (mark_of (clean_byte m))
all_mark m =
    let c = read_small (clean_byte m) Clean m (clean_reading m) in
    all_byte 255 (omega arith) (all_byte 255 (omega arith) (all_byte 0 (omega arith) (all_byte (clean_byte m) (omega arith) no_nibble)))

-- number and body
pub all_content : (p : Profile) (s : Sent) → Writable p s → AllNibbles (content s)
all_content p s g =
    let high = byte_small (s.number / 64) (omega (arith, g.number_small)) in
    let low = byte_small (s.number % 64) (omega arith) in
    all_byte (number_byte (s.number / 64)) (omega (arith, high)) (all_byte (number_byte (s.number % 64)) (omega (arith, low)) (all_body (rules p s.kind) s.body g.body_fits))

all_written : (p : Profile) (s : Sent) → Writable p s → AllNibbles (written s)
all_written p s g =
    let two = gap_bytes p s.kind s.gap_one s.gap_two g.gap_fits in
    all_nibbles_append (all_mark (Line s.kind))
    (all_nibbles_append (all_content p s g)
    (all_nibbles_append (all_mark EndOfLine) (all_byte s.gap_one two.0 (all_byte s.gap_two two.1 (all_nulls s.nulls)))))

all_stream : (p : Profile) {ss : List Sent} → AllWritable p ss → AllNibbles (stream ss)
all_stream p no_lines = no_nibble
all_stream p (and_line {s = s} g h) = all_nibbles_append (all_written p s g) (all_stream p h)

-- a clean stream with a stretch replaced by nibbles is made of nibbles
pub all_changed : (p : Profile) {ss : List Sent} → AllWritable p ss → (i j : ℕ) {new : List ℕ} → AllNibbles new → AllNibbles (changed ss i j new)
all_changed p h i j g = all_nibbles_append (all_nibbles_take (all_stream p h) i) (all_nibbles_append g (all_nibbles_drop (all_stream p h) j))
