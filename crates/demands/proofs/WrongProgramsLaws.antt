-- 01's wrong readers and writers are excluded by the statements themselves, whatever the program: of a clean stream of two lines with two numbers
-- demand 3 wants both lines out, which no reader of these sorts gives; and for a line that may be written the table wants it written.
use Rattle.std.specs.Prelude.{◌≡◌, refl, Bool, true, false, List, [], ◌∷◌, ◌++◌, ℕ, length, replicate, get_or, Result}
use Rattle.std.proofs.Common.{sym, ap, ◌∙◌, true≢false, arith, lit≤}
use Rattle.lent_buffer.specs.Filled.{Output, used, refused, output_of, buffer_after}
use Rattle.line_code.specs.declared.Kind.TheVariants.{BL}
use Rattle.profile.specs.declared.Profile.{Profile}
use Rattle.profile.specs.declared.Profile.TheVariants.{VV5404, VV5300}
use Rattle.profile.specs.Profile.{body_length}
use Rattle.stream.specs.Written.{Sent, AllWritable, no_lines, and_line, written}
use Rattle.stream.specs.Nibbles.{AllNibbles, no_nibble, and_nibble}
use Rattle.writer.specs.Writer.{room_for}
use Rattle.writer.specs.WriterTable.{write_sent}
use Rattle.recovery.specs.Calls.{Call, feed, done, CallResult, changed, LineOut, as_sent, on_taken, on_lines, MeetsDemandThree}
use Rattle.recovery.specs.WrittenLaws.{all_changed}
use Rattle.recovery.proofs.Examples.{sample, sample_writable, fed_then_done, finish_last, room}
use Rattle.demands.specs.Examples.{written_as}
use Rattle.demands.specs.WrongPrograms.{TakesNibbles, RefusesEachMark, ReportsAlways, CopiesFirst, WriteCall, WritesByTable, WritesNothing, RefusesAlways}
use Rattle.refusal.specs.declared.Refusal.{Refusal}

-- Readers.

-- a clean stream of two lines
abbrev two : Profile → List Sent
two p = sample p BL 3 ∷ sample p BL 4 ∷ []

two_writable : (p : Profile) → AllWritable p (two p)
two_writable p = and_line (sample_writable p BL 3 (lit≤ tt)) (and_line (sample_writable p BL 4 (lit≤ tt)) no_lines)

abbrev nibbles_of_two : Profile → List ℕ
nibbles_of_two p = changed (two p) 0 0 []

module _ {R : Type 0} (on : R → Call → CallResult R) (p : Profile) (r : R) where
  abbrev blank : List ℕ
  blank = replicate (body_length p) 0

  abbrev calls : List Call
  calls = fed_then_done blank (nibbles_of_two p)

  all_fed : TakesNibbles on p → {w : List ℕ} → AllNibbles w → (s : R) → on_taken on s (fed_then_done blank w) ≡ w
  all_fed t no_nibble s = refl
  all_fed t (and_nibble {n} {t = w} l g) s =
      t s n blank (on_taken on (on s (feed n blank)).reader (fed_then_done blank w)) (omega arith) (room p)
      ∙ ap {B = List ℕ} (λ v. n ∷ v) (all_fed t g (on s (feed n blank)).reader)

  -- demand 3 wants both lines out, and no other
  two_out : TakesNibbles on p → MeetsDemandThree on p r → on_lines on p r calls ≡ as_sent (sample p BL 3) ∷ as_sent (sample p BL 4) ∷ []
  two_out t m =
      let taken : on_taken on r calls ≡ nibbles_of_two p = all_fed t (all_changed p (two_writable p) 0 0 no_nibble) r in
      (m (two p) (two_writable p) 0 0 (omega arith) (omega arith) [] calls (finish_last blank (nibbles_of_two p)) taken).lines_after [] calls refl refl

  differ : as_sent (sample p BL 4) ≡ as_sent (sample p BL 3) → ⊥
  differ e =
      let n : ◌≡◌ {A = ℕ} 4 3 = ap (λ (l : LineOut). l.number) e in
      omega arith

  pub copy_excluded : TakesNibbles on p → CopiesFirst on p r → MeetsDemandThree on p r → ⊥
  copy_excluded t c m = differ (c calls (as_sent (sample p BL 3)) (as_sent (sample p BL 4)) [] [] (two_out t m))

  pub same_line_excluded : (l : LineOut) → TakesNibbles on p → ReportsAlways on p r l → MeetsDemandThree on p r → ⊥
  same_line_excluded l t c m =
      let first : LineOut = as_sent (sample p BL 3) in
      let second : LineOut = as_sent (sample p BL 4) in
      differ (c calls second (first ∷ []) [] (two_out t m) ∙ sym (c calls first [] (second ∷ []) (two_out t m)))

  none_out : RefusesEachMark on p → (s : R) (cs : List Call) → on_lines on p s cs ≡ []
  none_out h s [] = refl
  none_out h s (feed n buffer ∷ cs) = ap (λ (l : List LineOut). l ++ on_lines on p (on s (feed n buffer)).reader cs) (h s (feed n buffer)) ∙ none_out h (on s (feed n buffer)).reader cs
  none_out h s (done ∷ cs) = ap (λ (l : List LineOut). l ++ on_lines on p (on s done).reader cs) (h s done) ∙ none_out h (on s done).reader cs

  pub refusing_excluded : TakesNibbles on p → RefusesEachMark on p → MeetsDemandThree on p r → ⊥
  refusing_excluded t h m =
      let n : ◌≡◌ {A = ℕ} 0 2 = ap (λ (l : List LineOut). length l) (sym (none_out h r calls) ∙ two_out t m) in
      omega arith

-- Writers.

-- a buffer of zeros with room for a line
abbrev zeros : Profile → List ℕ
zeros p = replicate (room_for p 2) 0

zeros_room : (p : Profile) → length (zeros p) ≡ room_for p 2
zeros_room VV5404 = refl
zeros_room VV5300 = refl

zeros_first : (p : Profile) → get_or (zeros p) 0 0 ≡ 0
zeros_first VV5404 = refl
zeros_first VV5300 = refl

abbrev is_used : Output → Bool
is_used (used n bytes) = true
is_used (refused n) = false

module _ (p : Profile) (write : Sent → List ℕ → WriteCall) where
  abbrev blank_line : Sent
  blank_line = sample p BL 3

  due : write_sent p blank_line (length (zeros p)) ≡ used (length (written blank_line)) (written blank_line)
  due = ap (write_sent p blank_line) (zeros_room p) ∙ written_as p blank_line (sample_writable p BL 3 (lit≤ tt))

  -- a line begins with F, and F is no 0
  pub nothing_written_excluded : WritesByTable p write → WritesNothing p write → ⊥
  nothing_written_excluded g h =
      let left : zeros p ≡ written blank_line ++ _ = sym (h blank_line (zeros p)) ∙ (g blank_line (zeros p)).leaves ∙ ap (λ (o : Output). buffer_after o (zeros p)) due in
      let n : ◌≡◌ {A = ℕ} 0 15 = sym (zeros_first p) ∙ ap (λ (l : List ℕ). get_or l 0 0) left in
      omega arith

  pub always_refused_excluded : WritesByTable p write → RefusesAlways p write → ⊥
  always_refused_excluded g h =
      let says : output_of (write blank_line (zeros p)).answer (write blank_line (zeros p)).buffer ≡ used (length (written blank_line)) (written blank_line) = (g blank_line (zeros p)).says ∙ due in
      let said = ap (λ (a : Result ℕ Refusal). is_used (output_of a (write blank_line (zeros p)).buffer)) (h blank_line (zeros p)).1 in
      true≢false (sym (ap is_used says) ∙ said)
