-- Laws of the rows: whenever a call says complete, the lines taken end in a whole frame, and the rows are exactly those of its lines.
-- While the judge is in a frame, the rows kept are those of the lines since the last SOF numbered 0 (`HoldsRows`); `complete_frame` says which lines
-- those are when the judge says Complete.
use Rattle.std.specs.Prelude.{◌≡◌, Bool, true, false, cond, List, [], ◌∷◌, ◌++◌, eqb, length, take, drop, None, Option, Some}
use Rattle.std.proofs.Math.Path.{refl, subst}
use Rattle.std.proofs.Common.{sym, ap, ◌∙◌, true≢false, append-nil, append_assoc, arith, eqb-true, leb-true, length-append, length-drop, drop_of_length-le, length-take-le, take_at, drop-cons}
use Prim.Native.Nat.{ℕ, suc, ◌+◌, ◌*◌, ◌≤◌, ◌<◌}
use Rattle.refusal.specs.Refusal.{no_room, bad_kind, number_too_large, not_the_line_due}
use Rattle.bits.specs.Every.{and_left, and_right}
use Rattle.line_code.specs.declared.Kind.{Kind}
use Rattle.line_code.specs.declared.Kind.TheVariants.{BL}
use Rattle.line_code.specs.LineCode.{kind_number}
use Rattle.profile.specs.declared.Profile.TheVariants.{VV5404}
use Rattle.profile.specs.Profile.{width}
use Rattle.frame_layout.specs.declared.Borders.{Borders}
use Rattle.frame_layout.specs.declared.Borders.TheVariants.{On, Off}
use Rattle.frame_handing.specs.declared.HandedLine.{HandedLine}
use Rattle.frame_judge.specs.declared.Judge.{Judge}
use Rattle.frame_judge.specs.declared.Judge.TheVariants.{Waiting, Due}
use Rattle.frame_judge.specs.declared.Judged.{Judged}
use Rattle.frame_judge.specs.declared.Ruling.{Ruling}
use Rattle.frame_judge.specs.declared.Ruling.TheVariants as ruling
use Rattle.frame_layout.specs.FrameLayout.{layout, kinds_of, last_place, kind_at_place, stands_at}
use Rattle.frame_judge.specs.Frame.{opens, begun, passes, gives}
use Rattle.frame_judge.specs.Calls.{Line, called, after, is_break, accepts, accepted, is_laid_out_at, laid_from, IsFrame}
use Rattle.frame_layout.specs.FrameLength.{frame_length}
use Rattle.frame_laws.specs.FrameLaws.{passes_high, after_snoc, accepted_snoc, opens_is, first_is, later_opens_none, due_with, sof_within, IsDue, Effect, wrong_kind, wrong_number, waits, breaks, strays, starts, restarts, goes, ends, effect, reached_passes}
use Rattle.frame_laws.proofs.WholeFrames.{complete_frame}
use Rattle.frame_handing.specs.Handing.{handed_over, as_lines, handed_lines}
use Rattle.pixel_order.specs.declared.Way.TheVariants.{ToPixels}
use Rattle.pixel_order.proofs.PixelOrderLaws.{reordered_length}
use Rattle.picture_file.specs.PictureFile.{size}
use Rattle.line_records.specs.Lines.{line_size}
use Rattle.frame_row.specs.declared.Order.{Order}
use Rattle.frame_row.specs.declared.Order.TheVariants.{AsSent, OddFirst}
use Rattle.frame_row.specs.declared.Keeping.{Keeping}
use Rattle.frame_row.specs.declared.Keeping.TheVariants.{VisiblePixels, WholeLines}
use Rattle.frame_rows.specs.declared.Gatherer.{Gatherer}
use Rattle.frame_row.specs.FrameRow.{pixels_of, is_visible, kept_row, row_size, row_fits, with_row}
use Rattle.frame_rows.specs.FrameRows.{Shown, Output, nothing, complete, refused, AfterCall, moved, quiet, refuses, place_due, row_kept, completing, completed, after_break, refused_by, by_ruling, handed, shown_as, handing, take_of}
use Rattle.frame_rows_laws.specs.Gathering.{kept_rows_from, rows_of, Given, call, calls, start, unless_refused, shown, taken, lines_of, picture_of, frame_size, CompletesRows, Every, WholeBody}

-- Lists of lines.

lines_append : (a b : List Shown) → lines_of (a ++ b) ≡ lines_of a ++ lines_of b
lines_append [] b = refl
lines_append (l ∷ a) b = ap (λ (x : List Line). l.given ∷ x) (lines_append a b)

rows_append : (k : Keeping) (place : ℕ) (a b : List Shown) → kept_rows_from k place (a ++ b) ≡ kept_rows_from k place a ++ kept_rows_from k (place + length a) b
rows_append k place [] b =
    let e : place ≡ place + 0 = omega arith in
    ap (λ (n : ℕ). kept_rows_from k n b) e
rows_append k place (l ∷ a) b =
    let row : List ℕ = kept_row k place l.given.kind l.body in
    let e : suc place + length a ≡ place + suc (length a) = omega arith in
    ap (λ (x : List ℕ). row ++ x) (rows_append k (suc place) a b ∙ ap (λ (n : ℕ). kept_rows_from k (suc place) a ++ kept_rows_from k n b) e)
    ∙ sym (append_assoc row (kept_rows_from k (suc place) a) (kept_rows_from k (place + suc (length a)) b))

lines_length : (ls : List Shown) → length (lines_of ls) ≡ length ls
lines_length [] = refl
lines_length (l ∷ ls) = ap suc (lines_length ls)

-- lines that split, split with their bodies
record Split (ls : List Shown) (a b : List Line) : Type 0 where
  front : List Shown
  back : List Shown
  joined : ls ≡ front ++ back
  back_lines : lines_of back ≡ b

split : (ls : List Shown) (a b : List Line) → lines_of ls ≡ a ++ b → Split ls a b
split ls [] b e = record { front = []; back = ls; joined = refl; back_lines = e }
split [] (x ∷ a) b e = absurd (let z : ◌≡◌ {A = ℕ} 0 (suc (length (a ++ b))) = ap length e in omega arith)
split (l ∷ ls) (x ∷ a) b e =
    let r = split ls a b (cc) in
    record { front = l ∷ r.front; back = r.back; joined = ap (λ (t : List Shown). l ∷ t) r.joined; back_lines = r.back_lines }

-- The lines of the frame that is open: those since the last SOF numbered 0, which is the first of them.

-- a line that opens a frame
abbrev pub is_first : Shown → Bool
is_first l = opens l.given.kind l.given.number

-- the lines from the latest frame start on
abbrev pub since : List Shown → List Shown → List Shown
since own [] = own
since own (l ∷ ls) = since (cond (is_first l) [] own ++ (l ∷ [])) ls

-- those of a list of lines from nothing
abbrev pub latest : List Shown → List Shown
latest ls = since [] ls

since_append : (own a b : List Shown) → since own (a ++ b) ≡ since (since own a) b
since_append own [] b = refl
since_append own (l ∷ a) b = since_append (cond (is_first l) [] own ++ (l ∷ [])) a b

latest_snoc : (ls : List Shown) (l : Shown) (t : Bool) → is_first l ≡ t → latest (ls ++ (l ∷ [])) ≡ cond t [] (latest ls) ++ (l ∷ [])
latest_snoc ls l t e = since_append [] ls (l ∷ []) ∙ ap (λ (x : Bool). cond x [] (latest ls) ++ (l ∷ [])) e

pub stands : (b : Borders) (place : ℕ) (l : Line) → is_laid_out_at VV5404 b place l ≡ true → l.kind ≡ kind_number (kind_at_place VV5404 b place)
stands b place l h = eqb-true l.kind _ (and_left _ _ (and_left _ _ h))

since_laid : (b : Borders) (n : ℕ) (own ls : List Shown) → laid_from VV5404 b (suc n) (lines_of ls) ≡ true → since own ls ≡ own ++ ls
since_laid b n own [] h = sym (append-nil own)
since_laid b n own (l ∷ ls) h =
    ap (λ (t : Bool). since (cond t [] own ++ (l ∷ [])) ls) (later_opens_none VV5404 b n l.given (and_left _ _ h))
    ∙ since_laid b (suc n) (own ++ (l ∷ [])) ls (and_right (is_laid_out_at VV5404 b (suc n) l.given) _ h)
    ∙ append_assoc own (l ∷ []) ls

-- where lines end in a whole frame, that is the latest
frame_latest : (b : Borders) (earlier frame : List Shown) → IsFrame VV5404 b (lines_of frame) → latest (earlier ++ frame) ≡ frame
frame_latest b earlier [] f = absurd (let e = f.0 in omega arith)
frame_latest b earlier (l ∷ ls) f =
    since_append [] earlier (l ∷ ls)
    ∙ ap (λ (t : Bool). since (cond t [] (latest earlier) ++ (l ∷ [])) ls) (ap (λ (x : Line). opens x.kind x.number) (first_is VV5404 b l.given (and_left _ _ f.1)))
    ∙ since_laid b 0 (l ∷ []) ls (and_right (is_laid_out_at VV5404 b 0 l.given) _ f.1)

-- the last line of a frame is blank
last_blank : (b : Borders) (k : ℕ) → stands_at VV5404 b (last_place VV5404) k ≡ true → k ≡ kind_number BL
unfolding kind_at_place
last_blank On k h = eqb-true k _ h
last_blank Off k h = eqb-true k _ h

-- How many rows there are.

every_snoc : (P : Shown → Type 0) (ls : List Shown) (l : Shown) → Every P ls → P l → Every P (ls ++ (l ∷ []))
every_snoc P [] l h p = (p, tt)
every_snoc P (a ∷ ls) l h p = (h.0, every_snoc P ls l h.1 p)

pixels_length : (o : Order) (body : List ℕ) → length body ≡ width → length (pixels_of o body) ≡ width
pixels_length AsSent body h = h
pixels_length OddFirst body h = reordered_length ToPixels body

abbrev counted : Bool → ℕ
counted t = cond t 1 0

abbrev visibles : List Line → ℕ
visibles [] = 0
visibles (l ∷ ls) = counted (is_visible l.kind) + visibles ls

-- a row is as long as its size says
pub row_length : (k : Keeping) (place kind : ℕ) (body : List ℕ) → length body ≡ width → length (kept_row k place kind body) ≡ row_size k kind
row_length (VisiblePixels o) place kind body h = either (is_visible kind)
  where
    either : (t : Bool) → length (cond t (pixels_of o body) []) ≡ cond t width 0
    either true = pixels_length o body h
    either false = refl
row_length WholeLines place kind body h = omega (arith, h)

pixel_rows_length : (o : Order) (place : ℕ) (ls : List Shown) → Every WholeBody ls → length (kept_rows_from (VisiblePixels o) place ls) ≡ visibles (lines_of ls) * width
pixel_rows_length o place [] w = refl
pixel_rows_length o place (l ∷ ls) w =
    let a = row_length (VisiblePixels o) place l.given.kind l.body w.0 in
    let b = pixel_rows_length o (suc place) ls w.1 in
    let c = counted_width (is_visible l.given.kind) in
    length-append (kept_row (VisiblePixels o) place l.given.kind l.body) (kept_rows_from (VisiblePixels o) (suc place) ls) ∙ omega (arith, a, b, c)
  where
    counted_width : (t : Bool) → cond t width 0 ≡ counted t * width
    counted_width true = refl
    counted_width false = refl

line_rows_length : (place : ℕ) (ls : List Shown) → Every WholeBody ls → length (kept_rows_from WholeLines place ls) ≡ line_size * length ls
line_rows_length place [] w = refl
line_rows_length place (l ∷ ls) w =
    let a = row_length WholeLines place l.given.kind l.body w.0 in
    let b = line_rows_length (suc place) ls w.1 in
    length-append (kept_row WholeLines place l.given.kind l.body) (kept_rows_from WholeLines (suc place) ls) ∙ omega (arith, a, b)

-- the visible lines of a layout
abbrev visible_kinds : List Kind → ℕ
visible_kinds [] = 0
visible_kinds (k ∷ ks) = counted (is_visible (kind_number k)) + visible_kinds ks

laid_visibles : (b : Borders) (place : ℕ) (ls : List Line) → place + length ls ≡ last_place VV5404 + 1 → laid_from VV5404 b place ls ≡ true → visibles ls ≡ visible_kinds (drop place (kinds_of (layout VV5404 b)))
unfolding kind_at_place
laid_visibles b place [] e h = sym (ap visible_kinds (drop_of_length-le (kinds_of (layout VV5404 b)) {i = place} (omega (arith, frame_length VV5404 b))))
laid_visibles b place (l ∷ ls) e h =
    let g : place < length (kinds_of (layout VV5404 b)) = omega (arith, frame_length VV5404 b) in
    ap (λ (k : ℕ). counted (is_visible k) + visibles ls) (stands b place l (and_left _ _ h))
    ∙ ap (λ (m : ℕ). counted (is_visible (kind_number (kind_at_place VV5404 b place))) + m) (laid_visibles b (suc place) ls (omega arith) (and_right (is_laid_out_at VV5404 b place l) _ h))
    ∙ sym (ap visible_kinds (drop-cons (kinds_of (layout VV5404 b)) place BL g))

frame_visibles : (b : Borders) → visible_kinds (kinds_of (layout VV5404 b)) * width ≡ size (picture_of b)
frame_visibles On = refl
frame_visibles Off = refl

-- 292 rows of pixels with borders on, 288 with borders off; or 304 lines
pub frame_size_lem : (k : Keeping) (b : Borders) (frame : List Shown) → IsFrame VV5404 b (lines_of frame) → Every WholeBody frame → length (rows_of k frame) ≡ frame_size k b
frame_size_lem (VisiblePixels o) b frame f w =
    pixel_rows_length o 0 frame w ∙ ap (λ (k : ℕ). k * width) (laid_visibles b 0 (lines_of frame) (omega (arith, f.0)) f.1) ∙ frame_visibles b
frame_size_lem WholeLines b frame f w = line_rows_length 0 frame w ∙ ap (λ (n : ℕ). line_size * n) (sym (lines_length frame) ∙ f.0)

-- A row put after the bytes kept: the rows are longer by it, and the buffer is as long as it was.
module _ (kept n : ℕ) (buffer row : List ℕ) (e : length row ≡ n) (g : kept + n ≤ length buffer) where
  pub put_rows : take (kept + n) (take kept buffer ++ (row ++ drop (kept + n) buffer)) ≡ take kept buffer ++ row
  put_rows =
      let w : length (take kept buffer ++ row) ≡ kept + n = length-append (take kept buffer) row ∙ omega (arith, length-take-le kept buffer (omega arith)) in
      ap (take (kept + n)) (sym (append_assoc (take kept buffer) row (drop (kept + n) buffer))) ∙ take_at (take kept buffer ++ row) (drop (kept + n) buffer) (kept + n) w

  pub put_length : length (take kept buffer ++ (row ++ drop (kept + n) buffer)) ≡ length buffer
  put_length = simp (length-append, length-drop, e, length-take-le kept buffer (omega arith)) (omega arith)

-- What is kept.

-- so many bytes at a buffer's front are the rows of these lines, the first of a frame, and another place is due
pub record KeptRows (k : Keeping) (own : List Shown) (place kept : ℕ) (buffer : List ℕ) : Type 0 where
  pub front : take kept buffer ≡ rows_of k own
  pub inside : kept ≤ length buffer
  pub bodies : Every WholeBody own
  pub count : length own ≡ place

no_rows : (k : Keeping) (buffer : List ℕ) → KeptRows k [] 0 0 buffer
no_rows k buffer = record { front = refl; inside = omega arith; bodies = tt; count = refl }

-- a line's row fits: its body is whole, and there is room
pub row_fits_lem : (k : Keeping) (kept kind : ℕ) (body buffer : List ℕ) → row_fits k kept kind body buffer ≡ true
    → (length body ≡ width) × (kept + row_size k kind ≤ length buffer)
unfolding row_fits
row_fits_lem k kept kind body buffer e = (eqb-true _ _ (and_left _ _ e), leb-true _ _ (and_right (eqb (length body) width) _ e))

-- with its row put
pub with_row_length : (k : Keeping) (kept place kind : ℕ) (body buffer : List ℕ) → row_fits k kept kind body buffer ≡ true
    → length (with_row k kept place kind body buffer) ≡ length buffer
unfolding with_row
with_row_length k kept place kind body buffer e =
    let q = row_fits_lem k kept kind body buffer e in
    put_length kept (row_size k kind) buffer (kept_row k place kind body) (row_length k place kind body q.0) q.1

row_more : (k : Keeping) (own : List Shown) (place kept : ℕ) (buffer : List ℕ) (l : Shown) → KeptRows k own place kept buffer → row_fits k kept l.given.kind l.body buffer ≡ true
    → KeptRows k (own ++ (l ∷ [])) (place + 1) (kept + row_size k l.given.kind) (with_row k kept place l.given.kind l.body buffer)
unfolding with_row
row_more k own place kept buffer l h e =
    let q = row_fits_lem k kept l.given.kind l.body buffer e in
    let row : List ℕ = kept_row k place l.given.kind l.body in
    let n : length row ≡ row_size k l.given.kind = row_length k place l.given.kind l.body q.0 in
    let here : place ≡ 0 + length own = omega (arith, h.count) in
    record {
      front =
          put_rows kept (row_size k l.given.kind) buffer row n q.1
          ∙ ap (λ (t : List ℕ). t ++ row) h.front
          ∙ ap (λ (i : ℕ). rows_of k own ++ kept_row k i l.given.kind l.body) here
          ∙ ap (λ (r : List ℕ). rows_of k own ++ r) (sym (append-nil (kept_row k (0 + length own) l.given.kind l.body)))
          ∙ sym (rows_append k 0 own (l ∷ []));
      inside = omega (arith, q.1, with_row_length k kept place l.given.kind l.body buffer e);
      bodies = every_snoc WholeBody own l h.bodies q.0;
      count = length-append own (l ∷ []) ∙ omega (arith, h.count);
    }

-- the rows kept for the frame that the judge is in; none while it waits
abbrev pub Rows : Keeping → List Shown → Judge → ℕ → List ℕ → Type 0
Rows k ls Waiting kept buffer = kept ≡ 0
Rows k ls (Due place b) kept buffer = KeptRows k (latest ls) place kept buffer

-- after the calls that took these lines
pub record HoldsRows (k : Keeping) (ls : List Shown) (x : AfterCall) : Type 0 where
  pub keeping : x.gatherer.keeping ≡ k
  pub judge : after VV5404 Waiting (lines_of ls) ≡ x.gatherer.judge
  pub heard : accepted VV5404 Waiting (lines_of ls) ≡ lines_of ls
  pub rows : Rows k ls x.gatherer.judge x.gatherer.kept x.buffer
  pub done : (n : ℕ) (rows : List ℕ) → x.output ≡ complete n rows → CompletesRows k ls n rows

-- after a line more, unless it was refused
abbrev HoldsNext : Keeping → List Shown → Shown → AfterCall → Type 0
HoldsNext k ls l y = HoldsRows k (ls ++ unless_refused y.output (l ∷ [])) y

abbrev is_complete : Output → Bool
is_complete nothing = false
is_complete (complete n rows) = true
is_complete (refused n) = false

-- a call that takes no line and says nothing of rows
still : (k : Keeping) (ls : List Shown) (x : AfterCall) (out : Output) → is_complete out ≡ false → HoldsRows k ls x
    → HoldsRows k (ls ++ []) (record { gatherer = x.gatherer; output = out; buffer = x.buffer })
still k ls x out e h =
    simp append-nil
    (record {
      keeping = h.keeping;
      judge = h.judge;
      heard = h.heard;
      rows = h.rows;
      done = λ n rows f. absurd (true≢false (sym (ap is_complete f) ∙ e));
    })

module _ (k : Keeping) (ls : List Shown) (x : AfterCall) (h : HoldsRows k ls x) (l : Shown) where
  -- a line that the judge hears
  heard_line : (r : Judged) → called VV5404 x.gatherer.judge l.given ≡ r → accepts r.ruling ≡ true
      → (after VV5404 Waiting (lines_of (ls ++ (l ∷ []))) ≡ r.judge) × (accepted VV5404 Waiting (lines_of (ls ++ (l ∷ []))) ≡ lines_of (ls ++ (l ∷ [])))
  heard_line r e a =
      let s : lines_of (ls ++ (l ∷ [])) ≡ lines_of ls ++ (l.given ∷ []) = lines_append ls (l ∷ []) in
      let c : called VV5404 (after VV5404 Waiting (lines_of ls)) l.given ≡ r = ap (λ (j : Judge). called VV5404 j l.given) h.judge ∙ e in (
        ap (after VV5404 Waiting) s ∙ after_snoc VV5404 Waiting (lines_of ls) l.given ∙ ap (λ (t : Judged). t.judge) c,
        ap (accepted VV5404 Waiting) s
            ∙ accepted_snoc VV5404 Waiting (lines_of ls) l.given
            ∙ ap (λ (t : Judged). accepted VV5404 Waiting (lines_of ls) ++ cond (accepts t.ruling) (l.given ∷ []) []) c
            ∙ ap (λ (t : Bool). accepted VV5404 Waiting (lines_of ls) ++ cond t (l.given ∷ []) []) a
            ∙ ap (λ (t : List Line). t ++ (l.given ∷ [])) h.heard
            ∙ sym s,
      )

  -- it leaves this judge, these bytes of rows and this buffer, and nothing is said of rows
  takes : (r : Judged) (kept : ℕ) (buffer : List ℕ) → called VV5404 x.gatherer.judge l.given ≡ r → accepts r.ruling ≡ true
      → Rows k (ls ++ (l ∷ [])) r.judge kept buffer → HoldsRows k (ls ++ (l ∷ [])) (quiet (moved x.gatherer r.judge kept) buffer)
  takes r kept buffer e a rows =
      record {
        keeping = h.keeping;
        judge = (heard_line r e a).0;
        heard = (heard_line r e a).1;
        rows = rows;
        done = λ n w f. absurd (true≢false (sym (ap is_complete f)));
      }

  -- The rows, with this line's.

  first_rows : is_first l ≡ true → (s : Option Borders) (place kept : ℕ) (buffer : List ℕ) → KeptRows k (l ∷ []) place kept buffer → Rows k (ls ++ (l ∷ [])) (Due place s) kept buffer
  first_rows e s place kept buffer r = subst (λ (own : List Shown). KeptRows k own place kept buffer) (sym (latest_snoc ls l true e)) r

  later_rows : is_first l ≡ false → (s : Option Borders) (place kept : ℕ) (buffer : List ℕ) → KeptRows k (latest ls ++ (l ∷ [])) place kept buffer
      → Rows k (ls ++ (l ∷ [])) (Due place s) kept buffer
  later_rows e s place kept buffer r = subst (λ (own : List Shown). KeptRows k own place kept buffer) (sym (latest_snoc ls l false e)) r

  -- A line while the judge is in a frame.

  passing : passes VV5404 x.gatherer.judge ≡ true
  passing = sym (ap (passes VV5404) h.judge) ∙ reached_passes VV5404 (lines_of ls)

  kept_rows : (place : ℕ) (b : Option Borders) → x.gatherer.judge ≡ Due place b → Rows k ls (Due place b) x.gatherer.kept x.buffer
  kept_rows place b q = subst (λ (j : Judge). Rows k ls j x.gatherer.kept x.buffer) q h.rows

  -- a line that breaks no frame is no SOF numbered 0
  not_first_within : (place : ℕ) (b : Option Borders) (r : Judged) → x.gatherer.judge ≡ Due place b → called VV5404 x.gatherer.judge l.given ≡ r → is_break r.ruling ≡ false → is_first l ≡ false
  not_first_within place b r q c e = by (is_first l) refl
    where
      by : (t : Bool) → is_first l ≡ t → is_first l ≡ false
      by false f = f
      by true f =
          absurd (true≢false
          (sym (ap (λ (t : Judged). is_break t.ruling) (sof_within VV5404 place b (sym (ap (passes VV5404) q) ∙ passing)))
          ∙ sym (ap (λ (y : Line). is_break (called VV5404 (Due place b) y).ruling) (opens_is l.given f))
          ∙ sym (ap (λ (j : Judge). is_break (called VV5404 j l.given).ruling) q)
          ∙ ap (λ (t : Judged). is_break t.ruling) c
          ∙ e))

  -- a line that was due, and not the last: the rows of the lines before it are kept
  going : (own : List Shown) (place kept : ℕ) (r : Judged) → called VV5404 x.gatherer.judge l.given ≡ r → accepts r.ruling ≡ true
      → KeptRows x.gatherer.keeping own place kept x.buffer
      → ((n : ℕ) (buffer : List ℕ) → KeptRows x.gatherer.keeping (own ++ (l ∷ [])) (place + 1) n buffer → Rows k (ls ++ (l ∷ [])) r.judge n buffer)
      → HoldsNext k ls l (row_kept x.gatherer r.judge kept place l.given.kind l.body x.buffer)
  unfolding row_kept
  going own place kept r e a rows then = by (row_fits x.gatherer.keeping kept l.given.kind l.body x.buffer) refl
    where
      n : ℕ
      n = kept + row_size x.gatherer.keeping l.given.kind

      held : List ℕ
      held = with_row x.gatherer.keeping kept place l.given.kind l.body x.buffer

      by : (t : Bool) → row_fits x.gatherer.keeping kept l.given.kind l.body x.buffer ≡ t
          → HoldsNext k ls l (cond t (quiet (moved x.gatherer r.judge n) held) (refuses x.gatherer no_room x.buffer))
      by true f = takes r n held e a (then n held (row_more x.gatherer.keeping own place kept x.buffer l rows f))
      by false f = still k ls x (refused no_room) refl h

  -- so the first line of a frame
  opening : (v : Ruling) → is_first l ≡ true → called VV5404 x.gatherer.judge l.given ≡ gives begun v → accepts v ≡ true
      → HoldsNext k ls l (row_kept x.gatherer begun 0 0 l.given.kind l.body x.buffer)
  opening v f e a =
      going [] 0 0 (gives begun v) e a (no_rows x.gatherer.keeping x.buffer)
      (λ n buffer r. first_rows f None 1 n buffer (subst (λ (m : Keeping). KeptRows m (l ∷ []) 1 n buffer) h.keeping r))

  -- and a line within one
  mid_frame : (place : ℕ) (b c : Option Borders) → x.gatherer.judge ≡ Due place b → called VV5404 x.gatherer.judge l.given ≡ gives (Due (place + 1) c) ruling.Going
      → HoldsNext k ls l (row_kept x.gatherer (Due (place + 1) c) x.gatherer.kept (place_due x.gatherer.judge) l.given.kind l.body x.buffer)
  mid_frame place b c q e =
      let s : Gatherer = x.gatherer in
      let later : is_first l ≡ false = not_first_within place b (gives (Due (place + 1) c) ruling.Going) q e refl in
      subst (λ (i : ℕ). HoldsNext k ls l (row_kept s (Due (place + 1) c) s.kept i l.given.kind l.body x.buffer)) (sym (ap place_due q))
      (going (latest ls) place s.kept (gives (Due (place + 1) c) ruling.Going) e refl
      (subst (λ (m : Keeping). KeptRows m (latest ls) place s.kept x.buffer) (sym h.keeping) (kept_rows place b q))
      (λ n buffer r. later_rows later c (place + 1) n buffer (subst (λ (m : Keeping). KeptRows m (latest ls ++ (l ∷ [])) (place + 1) n buffer) h.keeping r)))

  -- a frame's last line
  ending : (place : ℕ) (b : Option Borders) → x.gatherer.judge ≡ Due place b → IsDue VV5404 b place l.given → last_place VV5404 ≤ place
      → called VV5404 x.gatherer.judge l.given ≡ gives Waiting ruling.Complete
      → HoldsNext k ls l (completed x.gatherer Waiting (place_due x.gatherer.judge) l.given.kind l.body x.buffer)
  unfolding completed
  ending place b q d g e = by (row_fits s.keeping s.kept l.given.kind l.body x.buffer) refl
    where
      s : Gatherer
      s = x.gatherer

      r : Judged
      r = gives Waiting ruling.Complete

      n : ℕ
      n = s.kept + row_size s.keeping l.given.kind

      held : List ℕ
      held = with_row s.keeping s.kept (place_due s.judge) l.given.kind l.body x.buffer

      blank : l.given.kind ≡ kind_number BL
      blank =
          let (c, e) = due_with VV5404 b place l.given.kind l.given.number d.0 in
          last_blank c l.given.kind
          (subst (λ (n : ℕ). stands_at VV5404 c n l.given.kind ≡ true) (omega (arith, passes_high VV5404 place b (sym (ap (passes VV5404) q) ∙ passing))) (and_left _ _ e))

      later : is_first l ≡ false
      later = ap (λ (k : ℕ). opens k l.given.number) blank

      kept : KeptRows s.keeping (latest ls) (place_due s.judge) s.kept x.buffer
      kept =
          subst (λ (i : ℕ). KeptRows s.keeping (latest ls) i s.kept x.buffer) (sym (ap place_due q))
          (subst (λ (m : Keeping). KeptRows m (latest ls) place s.kept x.buffer) (sym h.keeping) (kept_rows place b q))

      done : row_fits s.keeping s.kept l.given.kind l.body x.buffer ≡ true → CompletesRows k (ls ++ (l ∷ [])) n (take n held)
      done fit =
          let c = complete_frame VV5404 (lines_of ls) l.given (ap (λ (j : Judge). (called VV5404 j l.given).ruling) h.judge ∙ ap (λ (t : Judged). t.ruling) e) in
          let a : lines_of (ls ++ (l ∷ [])) ≡ c.1 ++ c.2 = sym (heard_line r e refl).1 ∙ ap (accepted VV5404 Waiting) (lines_append ls (l ∷ [])) ∙ c.3 in
          let t = split (ls ++ (l ∷ [])) c.1 c.2 a in
          let f : IsFrame VV5404 c.0 (lines_of t.back) = subst (IsFrame VV5404 c.0) (sym t.back_lines) c.4 in
          let m : latest ls ++ (l ∷ []) ≡ t.back = sym (latest_snoc ls l false later) ∙ ap latest t.joined ∙ frame_latest c.0 t.front t.back f in
          let w = row_more s.keeping (latest ls) (place_due s.judge) s.kept x.buffer l kept fit in
          let v : Every WholeBody t.back = subst (Every WholeBody) m w.bodies in
          let z : take n held ≡ rows_of k t.back = w.front ∙ ap (rows_of s.keeping) m ∙ ap (λ (o : Keeping). rows_of o t.back) h.keeping in
          record {
            borders = c.0;
            earlier = t.front;
            frame = t.back;
            ends = t.joined;
            whole = f;
            bodies = v;
            shows = z;
            sized = ap length z ∙ frame_size_lem k c.0 t.back f v;
            used = sym (length-take-le n held w.inside);
          }

      says : CompletesRows k (ls ++ (l ∷ [])) n (take n held) → (m : ℕ) (rows : List ℕ) → complete n (take n held) ≡ complete m rows → CompletesRows k (ls ++ (l ∷ [])) m rows
      says c m rows z =
          let a : n ≡ m = cc in
          let b : take n held ≡ rows = cc in
          subst (λ (m : ℕ). CompletesRows k (ls ++ (l ∷ [])) m rows) a (subst (λ (w : List ℕ). CompletesRows k (ls ++ (l ∷ [])) n w) b c)

      by : (t : Bool) → row_fits s.keeping s.kept l.given.kind l.body x.buffer ≡ t
          → HoldsNext k ls l (cond t (completing s Waiting n held) (refuses s no_room x.buffer))
      by true f = record { keeping = h.keeping; judge = (heard_line r e refl).0; heard = (heard_line r e refl).1; rows = refl; done = says (done f) }
      by false f = still k ls x (refused no_room) refl h

  -- any line
  holds_line : HoldsNext k ls l (handed x.gatherer l x.buffer)
  unfolding handed refused_by after_break
  holds_line = by (called VV5404 x.gatherer.judge l.given) (effect VV5404 x.gatherer.judge l.given passing) refl
    where
      by : (r : Judged) → Effect VV5404 x.gatherer.judge l.given r → called VV5404 x.gatherer.judge l.given ≡ r
          → HoldsNext k ls l (by_ruling x.gatherer l x.buffer r.judge r.ruling)
      by _ wrong_kind e = still k ls x (refused bad_kind) refl h
      by _ wrong_number e = still k ls x (refused number_too_large) refl h
      by _ waits e = takes _ 0 x.buffer e refl refl
      by _ breaks e = takes _ 0 x.buffer e refl refl
      by _ strays e = takes _ 0 x.buffer e refl refl
      by _ (starts q f) e =
          let z : x.gatherer.kept ≡ 0 = subst (λ (j : Judge). Rows k ls j x.gatherer.kept x.buffer) q h.rows in
          subst (λ (j : Judge). HoldsNext k ls l (row_kept x.gatherer begun x.gatherer.kept (place_due j) l.given.kind l.body x.buffer)) (sym q)
          (subst (λ (n : ℕ). HoldsNext k ls l (row_kept x.gatherer begun n 0 l.given.kind l.body x.buffer)) (sym z) (opening ruling.Going f e refl))
      by _ (restarts f) e = opening (ruling.Refused (record { 0 = not_the_line_due })) f e refl
      by _ (goes place b q d g) e = mid_frame place b _ q e
      by _ (ends place b q d g) e = ending place b q d g e

-- What a call hands to the judge: nothing, or one line.

-- an answer hands no line over, or one
pub data Hands (x : AfterCall) : List Shown → AfterCall → Type 0 where
  none : Hands x [] (quiet x.gatherer x.buffer)
  one : (l : Shown) → Hands x (l ∷ []) (handed x.gatherer l x.buffer)

pub hands : (x : AfterCall) (g : Given) → Hands x (shown (handed_lines g.answer) g.held) (call x g)
unfolding take_of
hands x g = by (handed_over g.answer)
  where
    by : (h : Option HandedLine) → Hands x (shown (as_lines h) g.held) (handing x.gatherer h g.held x.buffer)
    by None = none
    by (Some l) = one (shown_as l.kind l.number g.held)

-- Calls.

holds_call : (k : Keeping) (ls : List Shown) (x : AfterCall) (g : Given) → HoldsRows k ls x
    → HoldsRows k (ls ++ unless_refused (call x g).output (shown (handed_lines g.answer) g.held)) (call x g)
holds_call k ls x g h = by (shown (handed_lines g.answer) g.held) (call x g) (hands x g)
  where
    by : (ms : List Shown) (y : AfterCall) → Hands x ms y → HoldsRows k (ls ++ unless_refused y.output ms) y
    by _ _ none = still k ls x nothing refl h
    by _ _ (one l) = holds_line k ls x h l

pub holds_calls : (k : Keeping) (ls : List Shown) (x : AfterCall) (gs : List Given) → HoldsRows k ls x → HoldsRows k (ls ++ taken x gs) (calls x gs)
holds_calls k ls x [] h = subst (λ (t : List Shown). HoldsRows k t x) (sym (append-nil ls)) h
holds_calls k ls x (g ∷ gs) h =
    let a : List Shown = unless_refused (call x g).output (shown (handed_lines g.answer) g.held) in
    subst (λ (t : List Shown). HoldsRows k t (calls (call x g) gs)) (append_assoc ls a (taken (call x g) gs))
    (holds_calls k (ls ++ a) (call x g) gs (holds_call k ls x g h))

pub holds_start : (k : Keeping) (buffer : List ℕ) → HoldsRows k [] (start k buffer)
holds_start k buffer = record { keeping = refl; judge = refl; heard = refl; rows = refl; done = λ n w f. absurd (true≢false (sym (ap is_complete f))) }

-- whenever the last call says complete, the lines taken end in a whole frame, and the rows are those of its lines, top to bottom: of pixels 292 or
-- 288, of lines 304
pub complete_rows : (k : Keeping) (buffer : List ℕ) (gs : List Given) (n : ℕ) (rows : List ℕ) → (calls (start k buffer) gs).output ≡ complete n rows
    → CompletesRows k (taken (start k buffer) gs) n rows
complete_rows k buffer gs n rows e = (holds_calls k [] (start k buffer) gs (holds_start k buffer)).done n rows e
