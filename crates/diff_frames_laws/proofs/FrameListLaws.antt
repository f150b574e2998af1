-- Laws of the list of a complete frame: its bytes are those of its 304 lines, whose numbers rise, whose kinds are lines' and whose bodies are whole;
-- so a comparison of two frames is never refused 35, 14, 13 or 15.
use Rattle.std.specs.Prelude.{◌≡◌, refl, Bool, true, ◌&&◌, List, [], ◌∷◌, ◌++◌, ℕ, suc, ◌+◌, ◌%◌, ◌≤◌, leb, length}
use Rattle.std.proofs.Common.{ap, ◌∙◌, arith, le-leb, eq-eqb}
use Rattle.bits.specs.Every.{and_left, and_right, and_both}
use Rattle.line_code.specs.declared.Kind.{Kind}
use Rattle.line_code.specs.declared.Kind.TheVariants.{BL, BK, VL, SOF, EOF}
use Rattle.line_code.specs.LineCode.{kind_number}
use Rattle.line_number.specs.LineNumber.{greatest}
use Rattle.profile.specs.declared.Profile.TheVariants.{VV5404}
use Rattle.lent_buffer.specs.Filled.{Output, fitted, require}
use Rattle.frame_layout.specs.declared.Borders.{Borders}
use Rattle.frame_layout.specs.FrameLayout.{kind_at_place}
use Rattle.frame_judge.specs.Calls.{is_laid_out_at, laid_from}
use Rattle.line_records.specs.Lines.{FullLine, line_size, full_lines, headed_lines, none_cut, as_lent, rises_from, rises, numbers_small, kinds_known}
use Rattle.line_records_laws.specs.LinesBackLaws.{FullBodies, unsized, sized, heads_whole, lines_lent}
use Rattle.diff_records.specs.Difference.{differences, encoded_all}
use Rattle.diff_lines.specs.Compare.{compare_of}
use Rattle.frame_row.specs.declared.Keeping.TheVariants.{WholeLines}
use Rattle.frame_row.specs.FrameRow.{kept_row}
use Rattle.frame_rows.specs.FrameRows.{Shown}
use Rattle.frame_rows_laws.specs.Gathering.{kept_rows_from, lines_of, CompletesRows, Every, WholeBody}
use Rattle.frame_rows_laws.proofs.FrameRowsLaws.{stands}
use Rattle.diff_frames_laws.specs.FrameList.{placed_from, placed_lines, Comparable}

-- The list of some lines.

rows_lent : (place : ℕ) (ls : List Shown) → kept_rows_from WholeLines place ls ≡ as_lent (placed_from place ls)
rows_lent place [] = refl
rows_lent place (l ∷ ls) = ap (λ (t : List ℕ). kept_row WholeLines place l.given.kind l.body ++ t) (rows_lent (suc place) ls)

placed_bodies : (place : ℕ) (ls : List Shown) → Every WholeBody ls → FullBodies (placed_from place ls)
placed_bodies place [] w = unsized
placed_bodies place (l ∷ ls) w = sized w.0 (placed_bodies (suc place) ls w.1)

placed_rises : (place : ℕ) (ls : List Shown) → rises_from place (placed_from place ls) ≡ true
placed_rises place [] = refl
placed_rises place (l ∷ ls) = and_both (leb place place) _ (le-leb place place (omega arith)) (placed_rises (suc place) ls)

placed_small : (place : ℕ) (ls : List Shown) → place + length (lines_of ls) ≤ greatest + 1 → numbers_small (placed_from place ls) ≡ true
placed_small place [] h = refl
placed_small place (l ∷ ls) h = and_both (leb place greatest) _ (le-leb place greatest (omega arith)) (placed_small (suc place) ls (omega arith))

kind_known : (k : Kind) → (leb (kind_number BL) (kind_number k) && leb (kind_number k) (kind_number EOF)) ≡ true
kind_known BL = refl
kind_known BK = refl
kind_known VL = refl
kind_known SOF = refl
kind_known EOF = refl

placed_known : (b : Borders) (place : ℕ) (ls : List Shown) → laid_from VV5404 b place (lines_of ls) ≡ true → kinds_known (placed_from place ls) ≡ true
placed_known b place [] h = refl
placed_known b place (l ∷ ls) h =
    and_both (leb (kind_number BL) l.given.kind && leb l.given.kind (kind_number EOF)) _
    (ap (λ (k : ℕ). leb (kind_number BL) k && leb k (kind_number EOF)) (stands b place l.given (and_left _ _ h)) ∙ kind_known (kind_at_place VV5404 b place))
    (placed_known b (suc place) ls (and_right (is_laid_out_at VV5404 b place l.given) _ h))

-- The list of a frame.

pub frame_comparable : {ls : List Shown} {n : ℕ} {bytes : List ℕ} (c : CompletesRows WholeLines ls n bytes) → Comparable bytes c.frame
frame_comparable {ls} {n} {bytes} c =
    let lent : bytes ≡ as_lent (placed_lines c.frame) = c.shows ∙ rows_lent 0 c.frame in
    let e : full_lines bytes ≡ placed_lines c.frame = ap full_lines lent ∙ lines_lent (placed_bodies 0 c.frame c.bodies) in
    let uncut : none_cut bytes ≡ true = eq-eqb (length bytes % line_size) 0 (omega (arith, c.sized)) in
    let heads : headed_lines bytes ≡ placed_lines c.frame = heads_whole bytes uncut ∙ e in
    record {
      lines = e;
      rising = ap rises heads ∙ placed_rises 0 c.frame;
      small = ap numbers_small heads ∙ placed_small 0 c.frame (omega (arith, c.whole.0));
      known = ap kinds_known heads ∙ placed_known c.borders 0 c.frame c.whole.1;
      uncut = uncut;
    }

require_met : {t : Bool} → t ≡ true → (n : ℕ) (o : Output) → require t n o ≡ o
unfolding require
require_met e n o = ap (λ (b : Bool). require b n o) e

-- the law: of two complete frames, gathered as whole lines, the comparison writes exactly the differences of their lines, or says 12
pub frames_compared : {ls ms : List Shown} {n m : ℕ} {first second : List ℕ} (c : CompletesRows WholeLines ls n first) (d : CompletesRows WholeLines ms m second) (room : ℕ)
    → compare_of first second room ≡ fitted (encoded_all (differences (placed_lines c.frame) (placed_lines d.frame))) room
unfolding compare_of
frames_compared {ls} {ms} {n} {m} {first} {second} c d room =
    let a = frame_comparable c in
    let b = frame_comparable d in
    let passed : compare_of first second room ≡ fitted (encoded_all (differences (full_lines first) (full_lines second))) room =
    require_met (and_both (rises (headed_lines first)) _ a.rising b.rising) _ _
    ∙ require_met (and_both (numbers_small (headed_lines first)) _ a.small b.small) _ _
    ∙ require_met (and_both (kinds_known (headed_lines first)) _ a.known b.known) _ _
    ∙ require_met (and_both (none_cut first) _ a.uncut b.uncut) _ _ in
    passed
    ∙ ap (λ (ks : List FullLine). fitted (encoded_all (differences ks (full_lines second))) room) a.lines
    ∙ ap (λ (ks : List FullLine). fitted (encoded_all (differences (placed_lines c.frame) ks)) room) b.lines
