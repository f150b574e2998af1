-- Demand 3 at work at the reader's own calls: the lines and the stretch of recovery's example, with refused calls between all nibbles. No hypothesis
-- of demand 3 is empty: the writer writes such lines, and such lists of calls there are, of singles and of runs.
use Rattle.std.specs.Prelude.{◌≡◌, refl, Bool, true, false, List, [], ◌∷◌, ◌++◌, ℕ, ◌≤◌, ◌<◌, length, take, replicate}
use Rattle.std.proofs.Common.{◌∙◌, ap, ap₂, sym, arith, lit≤}
use Rattle.std.proofs.Math.Path.{subst}
use Rattle.std.proofs.Math.Bool.{cond}
use borrow.Author.Tests.{le-leb, lt-leb}
use Rattle.refusal.specs.Refusal.{not_a_nibble, no_room}
use Rattle.lent_buffer.specs.Filled.{used}
use Rattle.line_code.specs.declared.Kind.TheVariants.{BL, VL, SOF, EOF}
use Rattle.profile.specs.declared.Profile.{Profile}
use Rattle.profile.specs.declared.Profile.TheVariants.{VV5404, VV5300}
use Rattle.profile.specs.Profile.{body_length}
use Rattle.stream.specs.declared.Answer.TheVariants as answers
use Rattle.stream.specs.Answers.{nothing, refused, answer_for, is_answer}
use Rattle.stream.specs.Written.{Sent, Writable, written, stream}
use Rattle.stream.specs.Nibbles.{AllNibbles, no_nibble, and_nibble, nibbles_only}
use Rattle.stream.specs.NibblesLaws.{only_nibbles}
use Rattle.reader.specs.declared.Reader.{Reader}
use Rattle.reader.specs.Reader.{Took, fresh_reader, taking}
use Rattle.reader.specs.ReaderLaws.{take_profile}
use Rattle.run.specs.Run.{Ran, ran, run_of}
use Rattle.writer.specs.Writer.{room_for}
use Rattle.writer.specs.WriterTable.{write_sent}
use Rattle.writer.specs.WriterLaws.{writes}
use Rattle.mark_answer.specs.SoundLaws.{at_most_nine}
use Rattle.reader.specs.ReaderLaws.{take_sound}
use Rattle.reader_laws.proofs.Passes.{passes_test, fresh_ok, take_ok}
use Rattle.reader_laws.specs.Passing.{Ok}
use Rattle.recovery.specs.Calls.{Call, feed, done, FinishLast, CallResult, changed, taken_by, on_taken, DemandThree}
use Rattle.recovery.specs.Calls as calls
use Rattle.recovery.specs.WrittenLaws.{all_changed}
use Rattle.recovery.proofs.Examples.{sample, sample_writable, four, four_writable, from, to, new, new_nibbles, room, stretch_ordered, stretch_within}
use Rattle.refinement.specs.CallTable.{not_a_nibble_lem, no_room_lem, taken}
use Rattle.refinement.proofs.CallTableLaws.{feeds_by_table}
use Rattle.refinement.specs.ReaderCalls.{gives, reader_call}
use Rattle.refinement.specs.ReaderCallsLaws.{reader_demand_three}
use Rattle.refinement.specs.Runs.{RunCall, run, one, runs_taken, all_one_by_one, FinishLastRun, done_last, run_first, SameAsFeeds}
use Rattle.refinement.proofs.RunsLaws.{takes_it}
use Rattle.refinement.specs.RunAnswers.{runs_finish}
use Rattle.refinement.specs.RunBySingles.{untouched}
use Rattle.demands.specs.DemandThreeWritten.{WroteAll, wrote_none, and_wrote}
use Rattle.demands.specs.DemandThreeWrittenLaws.{demand_three_written}

-- The writer writes these lines.

pub written_as : (p : Profile) (s : Sent) → Writable p s → write_sent p s (room_for p s.nulls) ≡ used (length (written s)) (written s)
written_as p s g = (writes p s (room_for p s.nulls)).1 (g, omega arith)

pub four_wrote : (p : Profile) → WroteAll p (four p) (stream (four p))
four_wrote p =
    and_wrote _ _ (written_as p (sample p SOF 0) (sample_writable p SOF 0 (lit≤ tt)))
    (and_wrote _ _ (written_as p (sample p BL 3) (sample_writable p BL 3 (lit≤ tt)))
    (and_wrote _ _ (written_as p (sample p VL 10) (sample_writable p VL 10 (lit≤ tt)))
    (and_wrote _ _ (written_as p (sample p EOF 302) (sample_writable p EOF 302 (lit≤ tt))) wrote_none)))

-- Single calls of a reader of the profile p that passes its own test.

record At (p : Profile) (r : Reader) : Type 0 where
  ok : Ok r.head
  profile_is : r.head.profile ≡ p

some_body : (q : Profile) → 0 < body_length q
some_body VV5404 = lit≤ tt
some_body VV5300 = lit≤ tt

module _ (p : Profile) (buffer : List ℕ) (enough : body_length p ≤ length buffer) where
  roomy : {r : Reader} → At p r → body_length r.head.profile ≤ length buffer
  roomy a = subst (λ (q : Profile). body_length q ≤ length buffer) (sym a.profile_is) enough

  next_at : (r : Reader) (n : ℕ) → n ≤ 15 → At p r → At p (taking r n).reader
  next_at r n l a = record { ok = take_ok r n (omega arith) a.ok; profile_is = take_profile r.head _ n ∙ a.profile_is }

  -- above 15: 10
  above : (r : Reader) → At p r → reader_call r (feed 16 buffer) ≡ untouched r (answers.Refused (record { 0 = not_a_nibble })) buffer
  above r a = ap (λ (t : Took). gives t buffer) ((feeds_by_table r 16 (length buffer) _).1 (not_a_nibble_lem (passes_test r.head a.ok.test) (lit≤ tt)))

  -- no room at all: 12
  short : (r : Reader) (n : ℕ) → n ≤ 15 → At p r → reader_call r (feed n []) ≡ untouched r (answers.Refused (record { 0 = no_room })) []
  short r n l a = ap (λ (t : Took). gives t []) ((feeds_by_table r n 0 _).1 (no_room_lem (passes_test r.head a.ok.test) l (some_body r.head.profile)))

  -- rightly
  right : (r : Reader) (n : ℕ) → n ≤ 15 → At p r → reader_call r (feed n buffer) ≡ gives (taking r n) buffer
  right r n l a = ap (λ (t : Took). gives t buffer) ((feeds_by_table r n (length buffer) _).1 (taken (passes_test r.head a.ok.test) l (roomy a)))

  -- each nibble, and before it an input above 15 and the nibble with no room
  abbrev singles : List ℕ → List Call
  singles [] = done ∷ []
  singles (n ∷ w) = feed 16 buffer ∷ feed n [] ∷ feed n buffer ∷ singles w

  singles_last : (w : List ℕ) → FinishLast (singles w)
  singles_last [] = calls.done_last
  singles_last (n ∷ w) = calls.feed_first (calls.feed_first (calls.feed_first (singles_last w)))

  -- what a call takes, by what it gives back
  abbrev takes_by : Call → List Call → CallResult Reader → List ℕ
  takes_by c cs g = taken_by c g.answer (on_taken reader_call g.reader cs)

  singles_taken : {w : List ℕ} → AllNibbles w → (r : Reader) → At p r → on_taken reader_call r (singles w) ≡ w
  singles_taken no_nibble r a = refl
  singles_taken (and_nibble {n} {t = w} h q) r a =
      let l : n ≤ 15 = omega arith in
      let cs = singles w in
      ap (takes_by (feed 16 buffer) (feed n [] ∷ feed n buffer ∷ cs)) (above r a)
      ∙ ap (takes_by (feed n []) (feed n buffer ∷ cs)) (short r n l a)
      ∙ ap (takes_by (feed n buffer) cs) (right r n l a)
      ∙ takes_it (taking r n).outcome (at_most_nine (take_sound r.head r.body n)) n _
      ∙ ap (λ (v : List ℕ). n ∷ v) (singles_taken q (taking r n).reader (next_at r n l a))

  -- Runs.

  short_run : (r : Reader) (n : ℕ) → At p r → run_of r (n ∷ []) 0 ≡ ran r (refused no_room) 0
  unfolding run_of
  short_run r n a = simp (passes_test r.head a.ok.test, lt-leb _ _ (some_body r.head.profile))

  empty_run : (r : Reader) → At p r → run_of r [] (length buffer) ≡ ran r nothing 0
  unfolding run_of
  empty_run r a = simp (passes_test r.head a.ok.test, le-leb _ _ (roomy a))

  -- a nibble and an input above 15: the nibble is taken, and where it gives no answer the run is stopped by a 10
  record OneTaken (r : Reader) (n : ℕ) (t : Ran) : Type 0 where
    one_only : t.taken ≡ 1
    leaves : t.reader ≡ (taking r n).reader

  stopped_run : (r : Reader) (n : ℕ) → n ≤ 15 → At p r → OneTaken r n (run_of r (n ∷ 16 ∷ []) (length buffer))
  unfolding run_of
  stopped_run r n l a = subst (OneTaken r n) (sym begins) (go (is_answer (answer_for (taking r n).outcome)))
    where
      begins : run_of r (n ∷ 16 ∷ []) (length buffer)
          ≡ cond (is_answer (answer_for (taking r n).outcome)) (ran (taking r n).reader (taking r n).outcome 1) (ran (taking r n).reader (refused not_a_nibble) 1)
      begins = simp (passes_test r.head a.ok.test, le-leb _ _ (roomy a), le-leb n 15 l)

      go : (b : Bool) → OneTaken r n (cond b (ran (taking r n).reader (taking r n).outcome 1) (ran (taking r n).reader (refused not_a_nibble) 1))
      go true = record { one_only = refl; leaves = refl }
      go false = record { one_only = refl; leaves = refl }

  -- each nibble in a run that an input above 15 stops, and before it a run with no room and an empty one
  abbrev runs : List ℕ → List RunCall
  runs [] = one done ∷ []
  runs (n ∷ w) = run (n ∷ []) [] ∷ run [] buffer ∷ run (n ∷ 16 ∷ []) buffer ∷ runs w

  runs_last : (w : List ℕ) → FinishLastRun (runs w)
  runs_last [] = done_last
  runs_last (n ∷ w) = run_first (run_first (run_first (runs_last w)))

  -- what a run takes, by what it does
  abbrev ran_takes : List ℕ → List RunCall → Ran → List ℕ
  ran_takes w cs t = take t.taken w ++ runs_taken t.reader cs

  runs_taken_lem : {w : List ℕ} → AllNibbles w → (r : Reader) → At p r → runs_taken r (runs w) ≡ w
  runs_taken_lem no_nibble r a = refl
  runs_taken_lem (and_nibble {n} {t = w} h q) r a =
      let l : n ≤ 15 = omega arith in
      let cs = runs w in
      let k = stopped_run r n l a in
      ap (ran_takes (n ∷ []) (run [] buffer ∷ run (n ∷ 16 ∷ []) buffer ∷ cs)) (short_run r n a)
      ∙ ap (ran_takes [] (run (n ∷ 16 ∷ []) buffer ∷ cs)) (empty_run r a)
      ∙ ap₂ (λ (i : ℕ) (x : Reader). take i (n ∷ 16 ∷ []) ++ runs_taken x cs) k.one_only k.leaves
      ∙ ap (λ (v : List ℕ). n ∷ v) (runs_taken_lem q (taking r n).reader (next_at r n l a))

-- Demand 3.

-- the changed stream
abbrev changed_four : Profile → List ℕ
changed_four p = changed (four p) (from p) (to p) new

these_nibbles : (p : Profile) → AllNibbles (changed_four p)
these_nibbles p = all_changed p (four_writable p) (from p) (to p) new_nibbles

fresh_at : (p : Profile) → At p (fresh_reader p)
fresh_at p = record { ok = fresh_ok p; profile_is = refl }

-- the buffer
abbrev blank : Profile → List ℕ
blank p = replicate (body_length p) 0

-- over single calls, with a 10 and a 12 before each nibble
pub singles_recovered : (p : Profile) → DemandThree reader_call p (fresh_reader p) (four p) (from p) (to p) new (singles p (blank p) (room p) (changed_four p))
singles_recovered p =
    reader_demand_three p (four p) (four_writable p) (from p) (to p) (stretch_ordered p) (stretch_within p) new (singles p (blank p) (room p) (changed_four p))
    (singles_last p (blank p) (room p) (changed_four p)) (singles_taken p (blank p) (room p) (these_nibbles p) (fresh_reader p) (fresh_at p))

-- over runs, of what the writer wrote
pub runs_recovered : (p : Profile)
    → SameAsFeeds p (fresh_reader p) (runs p (blank p) (room p) (changed_four p))
    × DemandThree reader_call p (fresh_reader p) (four p) (from p) (to p) new (all_one_by_one (fresh_reader p) (runs p (blank p) (room p) (changed_four p)))
runs_recovered p =
    demand_three_written p (four p) (stream (four p)) (four_wrote p) (from p) (to p) (stretch_ordered p) (stretch_within p) new (runs p (blank p) (room p) (changed_four p))
    (runs_last p (blank p) (room p) (changed_four p)) (runs_taken_lem p (blank p) (room p) (these_nibbles p) (fresh_reader p) (fresh_at p))

-- Calls that take any nibbles, for the other examples: runs that a 10 stops, with a 12 before each, and finish.

-- a list of calls that takes these nibbles
abbrev pub calls_on : Profile → List ℕ → List RunCall
calls_on p w = runs p (blank p) (room p) w

pub calls_last : (p : Profile) (w : List ℕ) → FinishLastRun (calls_on p w)
calls_last p w = runs_last p (blank p) (room p) w

pub calls_taken : (p : Profile) (w : List ℕ) → nibbles_only w ≡ true → runs_taken (fresh_reader p) (calls_on p w) ≡ w
calls_taken p w h = runs_taken_lem p (blank p) (room p) (only_nibbles w h) (fresh_reader p) (fresh_at p)

pub calls_finish : (p : Profile) (w : List ℕ) → runs_finish (calls_on p w) ≡ true
calls_finish p [] = refl
calls_finish p (n ∷ w) = calls_finish p w
