-- Laws of a picture's file: writing makes, and reading accepts, exactly the files of pictures; rows come back as written; a file that is read
-- writes back to the same bytes; no two different row lists give one file.
use Rattle.std.specs.Prelude.{◌≡◌, refl, Bool, true, false, ◌&&◌, cond, List, [], ◌∷◌, ◌++◌, ℕ, ◌+◌, ◌<◌, ◌≤◌, eqb, length, drop, Ok, Result}
use Rattle.std.proofs.Common.{sym, ap, ◌∙◌, true≢false, not-suc-le-zero, le_of_suc-le-suc, arith, eqb-true, eq-eqb, lit≤, length-append, length-take, drop_at}
use Rattle.std.proofs.Math.Bool.{and-false}
use Rattle.bits.specs.Every.{and_left, and_right}
use Rattle.text.specs.Text.{ascii, space, newline, decimal}
use Rattle.refusal.specs.Refusal.{bad_header, wrong_picture_length}
use Rattle.profile.specs.Profile.{width}
use Rattle.lent_buffer.specs.Filled.{Output, used, refused, output_of, Gives, require}
use Rattle.lent_buffer.specs.FilledLaws.{fitted_used, passed, used_fitted}
use Rattle.picture_file.specs.declared.Format.{Format}
use Rattle.picture_file.specs.declared.Format.TheVariants.{Bordered, Plain}
use Rattle.picture_file.specs.PictureFile.{height, size, maxval, three_digits, header, header_length, image_of, pixels, Picture, starts, either, write_as, write_of, read_as, read_of}
use Rattle.refusal.specs.declared.Refusal.{Refusal}

-- The header.

pub header_on : header Bordered ≡ ascii "P5\n356 292\n255\n"
unfolding header decimal
header_on = refl

pub header_off : header Plain ≡ ascii "P5\n356 288\n255\n"
unfolding header decimal
header_off = refl

-- each of its numbers has three digits
pub header_digits : (b : Format)
    → header b ≡ ascii "P5\n" ++ (three_digits width ++ (space ∷ (three_digits (height b) ++ (newline ∷ (three_digits maxval ++ (newline ∷ []))))))
unfolding header decimal
header_digits Bordered = refl
header_digits Plain = refl

pub header_length_lem : (b : Format) → length (header b) ≡ header_length
unfolding header decimal
header_length_lem Bordered = refl
header_length_lem Plain = refl

pub image_length_lem : (b : Format) (rows : List ℕ) → length (image_of b rows) ≡ header_length + length rows
image_length_lem b rows = length-append (header b) rows ∙ ap (λ (n : ℕ). n + length rows) (header_length_lem b)

after_header : (b : Format) (rows : List ℕ) → drop header_length (image_of b rows) ≡ rows
after_header b rows = drop_at (header b) rows header_length (header_length_lem b)

started : (bytes file : List ℕ) → starts bytes file ≡ true → file ≡ bytes ++ drop (length bytes) file
started [] file h = refl
started (b ∷ bs) [] h = absurd (true≢false (sym h))
started (b ∷ bs) (x ∷ xs) h =
    ap (λ (k : ℕ). k ∷ xs) (eqb-true x b (and_left _ (starts bs xs) h)) ∙ ap (λ (l : List ℕ). b ∷ l) (started bs xs (and_right (eqb x b) _ h))

starts_short : (bytes file : List ℕ) → length file < length bytes → starts bytes file ≡ false
starts_short [] file h = absurd (not-suc-le-zero h)
starts_short (b ∷ bs) [] h = refl
starts_short (b ∷ bs) (x ∷ xs) h = ap (λ (t : Bool). eqb x b && t) (starts_short bs xs (le_of_suc-le-suc h)) ∙ and-false (eqb x b)

cut : (b : Format) (file : List ℕ) → length file < header_length → starts (header b) file ≡ false
cut b file h = starts_short (header b) file (omega (arith, header_length_lem b))

headed : (b : Format) (file : List ℕ) → starts (header b) file ≡ true → file ≡ image_of b (drop header_length file)
headed b file h = started (header b) file h ∙ ap (λ (k : ℕ). image_of b (drop k file)) (header_length_lem b)

-- The border setting that a size or a header tells.

pub height_most : (b : Format) → height b ≤ height Bordered
height_most Bordered = lit≤ tt
height_most Plain = lit≤ tt

pub size_tells : (then : Format → Output) (n : ℕ) (b : Format) (m : ℕ) → m ≡ size b → either (λ x. eqb m (size x)) then n ≡ then b
unfolding either
size_tells then n Bordered m e = simp e
size_tells then n Plain m e = simp e

header_tells : (then : Format → Output) (n : ℕ) (b : Format) (rows : List ℕ) → either (λ x. starts (header x) (image_of b rows)) then n ≡ then b
unfolding either header decimal
header_tells then n Bordered rows = refl
header_tells then n Plain rows = refl

record Chosen (test : Format → Bool) (then : Format → Output) (n : ℕ) (w : List ℕ) : Type 0 where
  format : Format
  passes : test format ≡ true
  gives : then format ≡ used n w

chosen : (test : Format → Bool) (then : Format → Output) (r : ℕ) {n : ℕ} {w : List ℕ} → either test then r ≡ used n w → Chosen test then n w
unfolding either
chosen test then r {n} {w} = by (test Bordered) (test Plain) refl refl
  where
    by : (s t : Bool) → test Bordered ≡ s → test Plain ≡ t → cond s (then Bordered) (cond t (then Plain) (refused r)) ≡ used n w → Chosen test then n w
    by true t e f h = record { format = Bordered; passes = e; gives = h }
    by false true e f h = record { format = Plain; passes = f; gives = h }
    by false false e f h = absurd (let z : true ≡ false = cc in true≢false z)

-- No rows hold the two bytes that are no pixels.

pub no_pixel_00 : (ps : List ℕ) → pixels (0x00 ∷ ps) ≡ false
no_pixel_00 ps = refl

pub no_pixel_ff : (ps : List ℕ) → pixels (0xFF ∷ ps) ≡ false
no_pixel_ff ps = refl

-- Writing makes exactly the files of pictures.

pub picture_written : (rows file : List ℕ) (room : ℕ) → Picture rows file → length file ≤ room → write_of rows room ≡ used (length file) file
unfolding write_of require
picture_written rows file room p h =
    let b = p.format in
    size_tells (λ x. write_as x rows room) _ b _ p.sized ∙ simp (p.good, ← p.made) (fitted_used file room h)

pub written_picture : (rows file : List ℕ) (room n : ℕ) → write_of rows room ≡ used n file → Picture rows file
unfolding write_of
written_picture rows file room n h =
    let t = chosen (λ b. eqb (length rows) (size b)) (λ b. write_as b rows room) _ h in
    let p = passed (pixels rows) _ _ t.gives in
    record { format = t.format; sized = eqb-true _ _ t.passes; good = p.0; made = (used_fitted (image_of t.format rows) room p.1).0 }

-- the length used is within the buffer
pub written_within : (rows before after : List ℕ) (room : ℕ) (y : Result ℕ Refusal) (n : ℕ) → Gives (write_of rows room) y before after → y ≡ Ok n
    → n ≤ length after
unfolding write_of
written_within rows before after room y n g e =
    let t = chosen (λ b. eqb (length rows) (size b)) (λ b. write_as b rows room) _ (sym g.says ∙ ap (λ (x : Result ℕ Refusal). output_of x after) e) in
    let f = used_fitted (image_of t.format rows) room (passed (pixels rows) _ _ t.gives).1 in
    omega (arith, f.1, ap length f.0, length-take n after)

-- Reading accepts exactly the files of pictures.

pub picture_read : (rows file : List ℕ) (room : ℕ) → Picture rows file → length rows ≤ room → read_of file room ≡ used (length rows) rows
unfolding read_of require
picture_read rows file room p h =
    let b = p.format in
    ap (λ (f : List ℕ). read_of f room) p.made
    ∙ header_tells (λ x. read_as x (drop header_length (image_of b rows)) room) _ b rows
    ∙ ap (λ (l : List ℕ). read_as b l room) (after_header b rows)
    ∙ simp (eq-eqb _ _ p.sized, p.good) (fitted_used rows room h)

pub read_picture : (rows file : List ℕ) (room n : ℕ) → read_of file room ≡ used n rows → Picture rows file
unfolding read_of
read_picture rows file room n h =
    let t = chosen (λ b. starts (header b) file) (λ b. read_as b (drop header_length file) room) _ h in
    let l = passed (eqb (length (drop header_length file)) (size t.format)) _ _ t.gives in
    let p = passed (pixels (drop header_length file)) _ _ l.1 in
    let e : rows ≡ drop header_length file = (used_fitted (drop header_length file) room p.1).0 in
    record {
      format = t.format;
      sized = ap length e ∙ eqb-true _ _ l.0;
      good = ap pixels e ∙ p.0;
      made = headed t.format file t.passes ∙ ap (image_of t.format) (sym e);
    }

-- Cases at the edges.

pub no_rows : (room : ℕ) → write_of [] room ≡ refused wrong_picture_length
unfolding write_of either
no_rows room = refl

-- a file cut inside the header is refused for its header, not for its length
pub cut_header : (file : List ℕ) (room : ℕ) → length file < header_length → read_of file room ≡ refused bad_header
unfolding read_of either
cut_header file room h = simp (cut Bordered file h, cut Plain file h)

-- 292 rows under the header of 288
pub lower_header : (rows : List ℕ) (room : ℕ) → length rows ≡ size Bordered → read_of (image_of Plain rows) room ≡ refused wrong_picture_length
unfolding read_of require
lower_header rows room e =
    header_tells (λ x. read_as x (drop header_length (image_of Plain rows)) room) _ Plain rows
    ∙ ap (λ (l : List ℕ). read_as Plain l room) (after_header Plain rows)
    ∙ simp e

-- What 02 asks.

rows_of : (rows file : List ℕ) → Picture rows file → drop header_length file ≡ rows
rows_of rows file p = ap (drop header_length) p.made ∙ after_header p.format rows

-- rows come back as written, at both sizes
pub rows_back : (rows file : List ℕ) (room room' n : ℕ) → write_of rows room ≡ used n file → length rows ≤ room' → read_of file room' ≡ used (length rows) rows
rows_back rows file room room' n h = picture_read rows file room' (written_picture rows file room n h)

-- a file that is read writes back to the same bytes
pub file_back : (rows file : List ℕ) (room room' n : ℕ) → read_of file room ≡ used n rows → length file ≤ room' → write_of rows room' ≡ used (length file) file
file_back rows file room room' n h = picture_written rows file room' (read_picture rows file room n h)

-- no two different row lists give one file
pub one_file : (rows rows' file : List ℕ) (room room' n n' : ℕ) → write_of rows room ≡ used n file → write_of rows' room' ≡ used n' file → rows ≡ rows'
one_file rows rows' file room room' n n' h g =
    sym (rows_of rows file (written_picture rows file room n h)) ∙ rows_of rows' file (written_picture rows' file room' n' g)
