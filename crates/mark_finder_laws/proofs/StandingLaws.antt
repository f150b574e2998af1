-- Whatever the pieces, a finder finds the capture's own marks: a call takes what a run takes, whose nibbles bring nothing before its answer.
use Rattle.std.specs.Prelude.{◌≡◌, Bool, drop, get_or, replicate}
use Rattle.std.proofs.Math.Path.{refl, ap, subst}
use Rattle.std.proofs.Common.{◌∙◌, ap₂, sym, true≢false, zero-add, add-zero, arith, length-drop, take-append-drop, take-add, take_all, take_at, lt-ltb}
use Rattle.std.proofs.Math.Bool.{true, false, cond}
use mathlib.Core.List.{List, [], ◌∷◌, ◌++◌, append-nil, append_assoc}
use Prim.Native.Nat.{ℕ, zero, suc, ◌+◌, ◌-◌, ◌*◌, ◌/◌, ◌%◌, ◌≤◌, ◌<◌, min}
use Rattle.std.proofs.Math.Dec.{eqb}
use Rattle.std.proofs.Math.ListN.{length, take, length-append}
use Rattle.std.proofs.lemmas.List.{length-replicate}
use Rattle.std.proofs.Math.Seq.{length-take-le}
use Rattle.counts.specs.Counts.{greatest_count, one_more}
use Rattle.text.specs.Put.{Puts}
use Rattle.text.specs.PutLaws.{then, puts_none}
use Rattle.profile.specs.declared.Profile.{Profile}
use Rattle.profile.specs.Profile.{longest}
use Rattle.stream.specs.Answers.{Outcome, nothing, line, gap, refused, answer_for, is_answer}
use Rattle.stream.specs.AnswersLaws.{no_answer}
use Rattle.stream.specs.Stream.{State, fresh, run, outcomes, finish}
use Rattle.stream.specs.Written.{nibbles}
use Rattle.stream.specs.NibblesLaws.{all_nibbles_drop, nibbles_length, nibbles_append}
use Rattle.recovery.specs.Calls.{mark_nibbles}
use Rattle.recovery.specs.CleanAnswers.{said_in, said}
use Rattle.recovery.specs.CollectedLaws.{collected_append}
use Rattle.recovery.specs.ReadBackLaws.{run_append, outcomes_append}
use Rattle.recovery.proofs.Damage.{outcomes_length, outcomes_take}
use Rattle.reader.specs.Reader.{fresh_reader, finish_of}
use Rattle.run.specs.Run.{Ran, onward}
use Rattle.reader_laws.proofs.ByRunsLaws.{lent_onward}
use Rattle.refinement.specs.Refine.{Follows}
use Rattle.refinement.specs.RefineLaws.{fresh_follows, finish_steps}
use Rattle.refinement.specs.Stored.{stored_length}
use Rattle.capture_bytes.specs.Unpacked.{run_from}
use Rattle.capture_bytes.specs.UnpackedLaws.{nibbles_small}
use Rattle.mark_finder.specs.declared.Finder.{Finder}
use Rattle.mark_finder.specs.MarkFinder.{fresh_finder, span, kind_before_it, refusal_in, located, answering, going_on, find_by, find_of, end_piece_of}
use Rattle.mark_finder_laws.specs.Standing.{front_piece, so_far, answers, begin_from, begin_in, KeepsBytes, StandsAt, FindsNext}
use Rattle.mark_finder_laws.proofs.RunMeans.{RunMeans, run_means}

-- Outcomes, and outcomes after them.

start_append : (os qs : List Outcome) (s i : ℕ) → begin_from s i (os ++ qs) ≡ begin_from (begin_from s i os) (i + length os) qs
start_append [] qs s i = ap (λ (j : ℕ). begin_from s j qs) (sym (add-zero i))
start_append (o ∷ os) qs s i =
    start_append os qs (cond (is_answer (answer_for o)) (i + 1 - mark_nibbles) s) (i + 1)
    ∙ ap (λ (j : ℕ). begin_from (begin_from (cond (is_answer (answer_for o)) (i + 1 - mark_nibbles) s) (i + 1) os) j qs) (let z : i + 1 + length os ≡ i + suc (length os) = omega arith in z)

said_answer : (o : Outcome) → is_answer (answer_for o) ≡ true → said_in o ≡ o ∷ []
said_answer nothing e = absurd (true≢false (sym e))
said_answer (line f body) e = refl
said_answer (gap g) e = refl
said_answer (refused n) e = refl

-- Nibbles taken.

so_far_length : (before piece : List ℕ) (from : ℕ) → from ≤ 2 * length piece → length (so_far before piece from) ≡ 2 * length before + from
so_far_length before piece from h =
    length-append (nibbles before) (take from (nibbles piece))
    ∙ ap₂ ◌+◌ (nibbles_length before) (length-take-le from (nibbles piece) (omega (arith, nibbles_length piece)))

so_far_more : (before piece : List ℕ) (from k : ℕ) → so_far before piece (from + k) ≡ so_far before piece from ++ take k (drop from (nibbles piece))
so_far_more before piece from k =
    ap (λ (w : List ℕ). nibbles before ++ w) (take-add from k (nibbles piece))
    ∙ sym (append_assoc (nibbles before) (take from (nibbles piece)) (take k (drop from (nibbles piece))))

-- A mark's bytes, with more of the piece.

keeps_more : {before piece : List ℕ} {start begin to n n' : ℕ} {held held' : List ℕ} → KeepsBytes before piece start begin n held → begin ≤ to
    → Puts held n (span piece begin to) n' held' → KeepsBytes before piece start to n' held'
keeps_more {before} {piece} {start} {begin} {to} k h q =
    record {
      older = k.older;
      bytes = k.bytes ++ span piece begin to;
      splits =
          sym (append_assoc k.older k.bytes (span piece begin to))
          ∙ ap (λ (w : List ℕ). w ++ span piece begin to) k.splits
          ∙ append_assoc before (take begin piece) (span piece begin to)
          ∙ ap (λ (w : List ℕ). before ++ w)
          (sym (take-add begin (to - begin) piece) ∙ ap (λ (i : ℕ). take i piece) (let z : begin + (to - begin) ≡ to = omega arith in z));
      older_is = k.older_is;
      base = k.base;
      kept = then k.kept q;
    }

-- A call.

module _ {p : Profile} {before piece : List ℕ} {from : ℕ} {f : Finder} {held : List ℕ} (s : StandsAt p before piece from f held)
    (known : (i : ℕ) → get_or piece i 0 < 256) (within : from ≤ 2 * length piece) (eight : is_answer (answer_for (run_from f.reader.head f.reader.body piece from longest).outcome) ≡ true → 8 ≤ from)
    (few : f.number < greatest_count) (small : length before + length piece ≤ greatest_count) where
  abbrev u : List ℕ
  u = so_far before piece from

  abbrev v : List ℕ
  v = drop from (nibbles piece)

  abbrev x : State
  x = run p fresh u

  full : length f.reader.body ≡ longest
  full = ap length s.follows.same.body_same ∙ stored_length s.follows.same.base (drop 8 x.text) ∙ s.follows.same.base_length

  abbrev t : Ran
  t = onward f.reader v 0

  goes : run_from f.reader.head f.reader.body piece from longest ≡ t
  goes = lent_onward f.reader.head f.reader.body v longest s.follows.ok full refl

  m : RunMeans p x v 0 t
  m = run_means p (all_nibbles_drop (nibbles_small piece known) from) f.reader x 0 s.follows

  taken_is : t.taken ≡ m.count
  taken_is = m.counted ∙ zero-add m.count

  next_is : so_far before piece (from + t.taken) ≡ u ++ take m.count v
  next_is = ap (λ (k : ℕ). so_far before piece (from + k)) taken_is ∙ so_far_more before piece from m.count

  inside : from + t.taken ≤ 2 * length piece
  inside = omega (arith, taken_is, m.within, length-drop from (nibbles piece), nibbles_length piece, within)

  follows_there : Follows p t.reader (run p fresh (so_far before piece (from + t.taken)))
  follows_there = subst (Follows p t.reader) (sym (ap (run p fresh) next_is ∙ run_append p fresh u (take m.count v))) m.follows

  outcomes_there : outcomes p fresh (so_far before piece (from + t.taken)) ≡ outcomes p fresh u ++ outcomes p x (take m.count v)
  outcomes_there = ap (outcomes p fresh) next_is ∙ outcomes_append p fresh u (take m.count v)

  answers_there : answers p (so_far before piece (from + t.taken)) ≡ answers p u ++ said_in t.outcome
  answers_there =
      ap said outcomes_there
      ∙ collected_append said_in (outcomes p fresh u) (outcomes p x (take m.count v))
      ∙ ap (λ (os : List Outcome). answers p u ++ os) m.says

  start_there : begin_in p (so_far before piece (from + t.taken)) ≡ cond (is_answer (answer_for t.outcome)) (2 * length before + (from + t.taken) - mark_nibbles) (begin_in p u)
  start_there =
      ap (begin_from 0 0) outcomes_there
      ∙ start_append (outcomes p fresh u) (outcomes p x (take m.count v)) 0 0
      ∙ m.starts (begin_in p u) (0 + length (outcomes p fresh u))
      ∙ ap (λ (k : ℕ). cond (is_answer (answer_for t.outcome)) (k - mark_nibbles) (begin_in p u))
      (let z : 0 + length (outcomes p fresh u) + m.count ≡ 2 * length before + (from + t.taken) =
      omega (arith, outcomes_length p fresh u, so_far_length before piece from within, taken_is) in z)

  -- none is answered
  quiet : is_answer (answer_for t.outcome) ≡ false → FindsNext p before piece from (going_on f held t)
  quiet e =
      let same : begin_in p (so_far before piece (from + t.taken)) ≡ begin_in p u =
      start_there ∙ ap (λ (b : Bool). cond b (2 * length before + (from + t.taken) - mark_nibbles) (begin_in p u)) e in
      let none : answers p (so_far before piece (from + t.taken)) ≡ answers p u =
      answers_there ∙ ap (λ (o : Outcome). answers p u ++ said_in o) (no_answer t.outcome e) ∙ append-nil (answers p u) in
      let far = s.begins in
      record {
        stands =
            record {
              follows = follows_there;
              number_is = s.number_is ∙ ap length (sym none);
              offset_is = s.offset_is;
              place_is = s.place_is ∙ ap (λ (k : ℕ). k / 2) (sym same);
              low_is = s.low_is ∙ ap (λ (k : ℕ). eqb (k % 2) 1) (sym same);
              begins = omega arith;
              keeps = subst (λ (k : ℕ). KeepsBytes before piece k f.begin f.length held) (sym same) s.keeps;
            };
        tells = λ g. absurd (true≢false (sym g));
        ends = λ g. omega (arith, taken_is, m.whole e, length-drop from (nibbles piece), nibbles_length piece, within);
      }

  -- one is: its bytes go on to the byte of the last nibble, and the next mark begins
  heard : is_answer (answer_for t.outcome) ≡ true → FindsNext p before piece from (answering f piece (from + t.taken) held t)
  unfolding one_more
  heard e =
      let next : ℕ = from + t.taken in
      let i : ℕ = (next - mark_nibbles) / 2 in
      let there : begin_in p (so_far before piece next) ≡ 2 * length before + next - mark_nibbles =
      start_there ∙ ap (λ (b : Bool). cond b (2 * length before + next - mark_nibbles) (begin_in p u)) e in
      let more : answers p (so_far before piece next) ≡ answers p u ++ (t.outcome ∷ []) =
      answers_there ∙ ap (λ (os : List Outcome). answers p u ++ os) (said_answer t.outcome e) in
      let far = s.begins in
      let to : ℕ = next / 2 + next % 2 in
      let at = inside in
      let far_on = eight (ap (λ (y : Ran). is_answer (answer_for y.outcome)) goes ∙ e) in
      let put : KeepsBytes before piece (begin_in p u) to (answering f piece next held t).found.length (answering f piece next held t).buffer =
      keeps_more s.keeps (omega arith) (record { place = refl; stored = refl }) in
      record {
        stands =
            record {
              follows = follows_there;
              number_is =
                  ap (λ (b : Bool). cond b (f.number + 1) f.number) (lt-ltb f.number greatest_count few)
                  ∙ (let z : f.number + 1 ≡ length (answers p (so_far before piece next)) =
                  omega (arith, s.number_is, ap length more, length-append (answers p u) (t.outcome ∷ [])) in z);
              offset_is = s.offset_is;
              place_is = (let z : min (f.offset + i) greatest_count ≡ begin_in p (so_far before piece next) / 2 = omega (arith, there, s.offset_is) in z);
              low_is = ap (λ (k : ℕ). eqb k 1) (let z : (next - mark_nibbles) % 2 ≡ begin_in p (so_far before piece next) % 2 = omega (arith, there) in z);
              begins = omega arith;
              keeps =
                  record {
                    older = before ++ take i piece;
                    bytes = [];
                    splits = append-nil (before ++ take i piece);
                    older_is =
                        length-append before (take i piece)
                        ∙ (let z : length before + length (take i piece) ≡ begin_in p (so_far before piece next) / 2 =
                        omega (arith, there, length-take-le i piece (omega arith)) in z);
                    base = (answering f piece next held t).buffer;
                    kept = puts_none _ 0;
                  };
            };
        tells = λ g.
            record {
              answer = t.outcome;
              next_answer = more;
              refusal_is = refl;
              number_is = s.number_is;
              place_is = ap (λ (k : ℕ). k - 4) s.place_is;
              low_is = s.low_is;
              before_is = ap kind_before_it s.follows.same.head_same.at_same;
              keeps = put;
            };
        ends = λ g. absurd (true≢false g);
      }

  -- the law of a call
  pub finds_next : FindsNext p before piece from (find_of f piece from held)
  unfolding find_of
  finds_next = subst (λ (y : Ran). FindsNext p before piece from (find_by f piece from held y)) (sym goes) (by (is_answer (answer_for t.outcome)) refl)
    where
      by : (b : Bool) → is_answer (answer_for t.outcome) ≡ b
          → FindsNext p before piece from (cond (is_answer (answer_for t.outcome)) (answering f piece (from + t.taken) held t) (going_on f held t))
      by true e =
          subst (λ (c : Bool). FindsNext p before piece from (cond c (answering f piece (from + t.taken) held t) (going_on f held t))) (sym e) (heard e)
      by false e =
          subst (λ (c : Bool). FindsNext p before piece from (cond c (answering f piece (from + t.taken) held t) (going_on f held t))) (sym e) (quiet e)

-- The first piece.

-- a fresh finder stands before it
fresh_stands : (p : Profile) (held : List ℕ) → StandsAt p [] front_piece 0 (fresh_finder p) held
fresh_stands p held =
    record {
      follows = fresh_follows p;
      number_is = refl;
      offset_is = refl;
      place_is = refl;
      low_is = refl;
      begins = omega arith;
      keeps = record { older = []; bytes = []; splits = refl; older_is = refl; base = held; kept = puts_none held 0 };
    }

front_bytes : (i : ℕ) → get_or front_piece i 0 < 256
front_bytes zero = omega arith
front_bytes (suc zero) = omega arith
front_bytes (suc (suc zero)) = omega arith
front_bytes (suc (suc (suc zero))) = omega arith
front_bytes (suc (suc (suc (suc i)))) = omega arith

quiet_front : (n k : ℕ) → said (take n (replicate k nothing)) ≡ []
quiet_front zero k = refl
quiet_front (suc n) zero = refl
quiet_front (suc n) (suc k) = quiet_front n k

absurdly : ◌≡◌ {A = ℕ} 1 0 → ⊥
absurdly e = omega arith

silent : (o : Outcome) → said_in o ≡ [] → is_answer (answer_for o) ≡ false
silent nothing e = refl
silent (line f body) e = absurd (absurdly (ap length e))
silent (gap g) e = absurd (absurdly (ap length e))
silent (refused n) e = absurd (absurdly (ap length e))

-- it is taken, and nothing is answered there
pub front_taken : (p : Profile) (held : List ℕ) → FindsNext p [] front_piece 0 (find_of (fresh_finder p) front_piece 0 held)
front_taken p held =
    finds_next (fresh_stands p held) front_bytes (omega arith) (λ e. absurd (true≢false (sym e ∙ none))) (omega arith) (omega arith)
  where
    v₀ : List ℕ
    v₀ = nibbles front_piece

    t₀ : Ran
    t₀ = onward (fresh_reader p) v₀ 0

    m₀ : RunMeans p fresh v₀ 0 t₀
    m₀ = run_means p (nibbles_small front_piece front_bytes) (fresh_reader p) fresh 0 (fresh_follows p)

    none : is_answer (answer_for (run_from (fresh_reader p).head (fresh_reader p).body front_piece 0 longest).outcome) ≡ false
    none =
        ap (λ (y : Ran). is_answer (answer_for y.outcome)) (lent_onward (fresh_reader p).head (fresh_reader p).body v₀ longest (fresh_follows p).ok (length-replicate {A = ℕ} longest 0) refl)
        ∙ silent t₀.outcome
        (sym m₀.says ∙ ap said (outcomes_take p fresh m₀.count v₀) ∙ quiet_front m₀.count 8)

-- A piece that is left.

-- the next one begins with its last four bytes
pub pass_stands : (p : Profile) (before piece : List ℕ) (f : Finder) (held more : List ℕ) → StandsAt p before piece (2 * length piece) f held
    → 4 ≤ length piece → length before + length piece ≤ greatest_count
    → StandsAt p (before ++ take (length piece - 4) piece) (drop (length piece - 4) piece ++ more) 8 (end_piece_of f piece held).finder (end_piece_of f piece held).buffer
unfolding end_piece_of
pass_stands p before piece f held more s four small =
    record {
      follows = subst (λ (w : List ℕ). Follows p f.reader (run p fresh w)) (sym same) s.follows;
      number_is = s.number_is ∙ ap (λ (w : List ℕ). length (answers p w)) (sym same);
      offset_is =
          (let z : min (f.offset + k) greatest_count ≡ length before + length (take k piece) = omega (arith, s.offset_is, length-take-le k piece (omega arith)) in z)
          ∙ sym (length-append before (take k piece));
      place_is = s.place_is ∙ ap (λ (w : List ℕ). begin_in p w / 2) (sym same);
      low_is = s.low_is ∙ ap (λ (w : List ℕ). eqb (begin_in p w % 2) 1) (sym same);
      begins = omega arith;
      keeps =
          record {
            older = put.older;
            bytes = put.bytes;
            splits = put.splits ∙ joined;
            older_is = put.older_is ∙ ap (λ (w : List ℕ). begin_in p w / 2) (sym same);
            base = put.base;
            kept = put.kept;
          };
    }
  where
    n : ℕ
    n = length piece

    k : ℕ
    k = n - 4

    last : List ℕ
    last = drop k piece

    last_four_lem : length last ≡ 4
    last_four_lem = omega (arith, length-drop k piece, four)

    same : so_far (before ++ take k piece) (last ++ more) 8 ≡ so_far before piece (2 * n)
    same =
        ap₂ ◌++◌ (nibbles_append before (take k piece))
        (ap (take 8) (nibbles_append last more) ∙ take_at (nibbles last) (nibbles more) 8 (nibbles_length last ∙ ap (λ (j : ℕ). 2 * j) last_four_lem))
        ∙ append_assoc (nibbles before) (nibbles (take k piece)) (nibbles last)
        ∙ ap (λ (w : List ℕ). nibbles before ++ w)
        (sym (nibbles_append (take k piece) last) ∙ ap nibbles (take-append-drop k piece) ∙ sym (take_all (2 * n) (nibbles piece) (omega (arith, nibbles_length piece))))

    put : KeepsBytes before piece (begin_in p (so_far before piece (2 * n))) n (end_piece_of f piece held).finder.length (end_piece_of f piece held).buffer
    put = let far = s.begins in keeps_more s.keeps (omega arith) (record { place = refl; stored = refl })

    joined : before ++ take n piece ≡ (before ++ take k piece) ++ take 4 (last ++ more)
    joined =
        ap (λ (w : List ℕ). before ++ w) (take_all n piece (omega arith) ∙ sym (take-append-drop k piece))
        ∙ sym (append_assoc before (take k piece) last)
        ∙ ap (λ (w : List ℕ). (before ++ take k piece) ++ w) (sym (take_at last more 4 last_four_lem))

-- The end of the capture: the last mark is answered as the meaning's finish does.
pub last_answer_is : {p : Profile} {before piece : List ℕ} {from : ℕ} {f : Finder} {held : List ℕ} → StandsAt p before piece from f held
    → (located f (answer_for (finish_of f.reader).outcome)).refusal ≡ refusal_in (answer_for (finish p (run p fresh (so_far before piece from))).outcome)
last_answer_is {p} {before} {piece} {from} {f} s =
    ap (λ (o : Outcome). refusal_in (answer_for o)) (finish_steps p f.reader (run p fresh (so_far before piece from)) s.follows).outcome_same
