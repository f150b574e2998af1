-- What nibbles hand to the judge: of a clean stream its lines as sent, in order, and nothing else, from any state at rest.
use Rattle.std.specs.Prelude.{◌≡◌, refl, Bool, true, false, ◌&&◌, cond, List, [], ◌∷◌, ◌++◌, map, ℕ, leb, ltb, None}
use Rattle.std.proofs.Common.{◌∙◌, ap, ap₂, append-nil, arith, ltb-false}
use Rattle.std.proofs.Math.Option.{Option, some}
use Rattle.std.proofs.lemmas.Bool.{lt-leb}
use Rattle.refusal.specs.Refusal.{bad_gap, not_a_nibble, no_end_of_line}
use Rattle.line_code.specs.declared.Meaning.TheVariants.{EndOfLine, Line}
use Rattle.line_code.specs.declared.Reading.{Reading}
use Rattle.line_code.specs.declared.Reading.TheVariants.{Says}
use Rattle.line_code.specs.declared.Repair.TheVariants.{Clean}
use Rattle.line_code.specs.LineCode.{clean_byte, reading_of}
use Rattle.line_code.specs.LineCodeLaws.{clean_reading}
use Rattle.profile.specs.declared.Profile.{Profile}
use Rattle.profile.specs.declared.Profile.TheVariants.{VV5404}
use Rattle.stream.specs.declared.Before.{Before}
use Rattle.stream.specs.declared.Before.TheVariants.{NoLine, RefusedLine, HandedOut}
use Rattle.stream.specs.declared.Mark.TheVariants.{Open}
use Rattle.stream.specs.Answers.{Outcome, refused, answer_for, require, good_gap, turned, all_f, after_code, gap_answer, by_reading, answer_of}
use Rattle.stream.specs.Stream.{State, fresh, answer_at, run, outcomes}
use Rattle.stream.specs.Written.{Sent, Writable, AllWritable, no_lines, and_line, mark_of, content, tail, written, stream}
use Rattle.frame_judge.specs.Calls as judged
use Rattle.frame_handing.specs.Handing.{is_broken_line, hand, handed_lines, as_lines}
use Rattle.frame_judge.specs.Frame.{broken_kind}
use Rattle.frame_laws.specs.SentFrames.{judged_line}
use Rattle.recovery.specs.Collected.{nothings, collected}
use Rattle.recovery.specs.CollectedLaws.{collected_append, collected_nothings}
use Rattle.recovery.specs.Resync.{state_with, opened, becomes}
use Rattle.recovery.specs.MarkFreeLaws.{NoGroup, no_group_empty}
use Rattle.recovery.specs.ReadBack.{gap_text, rest_told}
use Rattle.recovery.specs.ReadBackLaws.{run_append, outcomes_append, marked, comes_back, read_small, no_group_gap}

-- what an outcome hands to the judge, and what nibbles do
abbrev pub handed_by : Outcome → List judged.Line
handed_by o = handed_lines (answer_for o)

-- what nibbles hand to the judge
abbrev pub lines_handed : Profile → State → List ℕ → List judged.Line
lines_handed p x w = collected handed_by (outcomes p x w)

-- a refused call hands nothing over
pub call_unhanded : (n : ℕ) → ltb n not_a_nibble ≡ false → handed_by (refused n) ≡ []
unfolding is_broken_line
call_unhanded n e =
    let l = ltb-false n not_a_nibble e in
    let f : leb n no_end_of_line ≡ false = lt-leb n no_end_of_line (omega arith) in
    go (leb 1 n) (leb n no_end_of_line) f
  where
    go : (a b : Bool) → b ≡ false → as_lines (cond (a && b) (hand broken_kind 0) None) ≡ []
    go true true f = cc
    go true false f = refl
    go false b f = refl

-- nibbles hand over these lines, and lead to that state
pub record HandsOver (p : Profile) (x : State) (w : List ℕ) (ls : List judged.Line) (y : State) : Type 0 where
  pub over : lines_handed p x w ≡ ls
  pub leads : run p x w ≡ y

pub hands_over_then : {p : Profile} {x y z : State} {u v : List ℕ} {ls ms : List judged.Line} → HandsOver p x u ls y → HandsOver p y v ms z → HandsOver p x (u ++ v) (ls ++ ms) z
hands_over_then {p} {x} {y} {z} {u} {v} h k =
    record {
      over =
          ap (collected handed_by) (outcomes_append p x u v)
          ∙ collected_append handed_by (outcomes p x u) (outcomes p (run p x u) v)
          ∙ ap₂ ◌++◌ h.over (ap (λ (q : State). lines_handed p q v) h.leads ∙ k.over);
      leads = run_append p x u v ∙ ap (λ (q : State). run p q v) h.leads ∙ k.leads;
    }

-- a state at rest hands nothing over at the next mark or finish: its mark is none or an end of line, and no F F F F 0 0 stands in its text
pub record AtRest (x : State) : Type 0 where
  pub no_group : NoGroup x.text
  pub hands_nothing : (t : List ℕ) (next : Option ℕ) → handed_by (answer_at VV5404 x.at t next) ≡ []

pub fresh_at_rest : AtRest fresh
fresh_at_rest = record { no_group = no_group_empty; hands_nothing = λ t next. refl }

-- the end mark's answer, a gap or 8 or 9, is not handed over
pub end_unhanded : (before : Before) (c : ℕ) → reading_of c ≡ Says EndOfLine Clean → (t : List ℕ) (next : Option ℕ) → handed_by (answer_at VV5404 (Open before c) t next) ≡ []
unfolding answer_of require good_gap is_broken_line
end_unhanded before c e t next = ap (λ (x : Reading). handed_by (by_reading VV5404 before x t next)) e ∙ by_kind before _
  where
    by_gap : (b : Bool) (n a d : ℕ) → handed_by (require b bad_gap (good_gap n a d)) ≡ []
    by_gap true n a d = refl
    by_gap false n a d = refl

    by_kind : (b : Before) (n : ℕ) → handed_by (gap_answer VV5404 b n t) ≡ []
    by_kind NoLine n = refl
    by_kind (RefusedLine k) n = by_gap (all_f (after_code (turned t []))) n _ _
    by_kind (HandedOut k) n = by_gap (all_f (after_code (turned t []))) n _ _

-- a mark after a state at rest hands nothing over
pub mark_handed : (x : State) → AtRest x → (c : ℕ) → HandsOver VV5404 x (mark_of c) [] (opened (becomes VV5404 x.at x.text c) c)
mark_handed x q c =
    let m = marked VV5404 x.at x.text c q.no_group in
    record {
      over = ap (collected handed_by) m.told ∙ append-nil (handed_by (answer_at VV5404 x.at x.text (some c))) ∙ q.hands_nothing x.text (some c);
      leads = m.state;
    }

-- nibbles hand over these lines, and lead to a state at rest
pub record HandsToRest (x : State) (w : List ℕ) (ls : List judged.Line) : Type 0 where
  pub to : State
  pub hands : HandsOver VV5404 x w ls to
  pub at_rest : AtRest to

line_handed : (s : Sent) → Writable VV5404 s → (x : State) → AtRest x → HandsToRest x (written s) (judged_line s ∷ [])
line_handed s g x q =
    let p = VV5404 in
    let start = clean_byte (Line s.kind) in
    let end = clean_byte EndOfLine in
    let b = comes_back p s g start end Clean Clean (clean_reading (Line s.kind)) (clean_reading EndOfLine) x in
    record {
      to = state_with (Open (HandedOut s.kind) end) (gap_text end s);
      hands = record {
        over =
            ap (collected handed_by) b.told
            ∙ collected_append handed_by (outcomes p x (mark_of start)) (rest_told s Clean Clean)
            ∙ ap₂ ◌++◌ (mark_handed x q start).over
            (collected_append handed_by (nothings (content s)) _
            ∙ ap₂ ◌++◌ (collected_nothings handed_by refl (content s)) (ap (λ (ls : List judged.Line). judged_line s ∷ ls) (collected_nothings handed_by refl (tail s))));
        leads = b.state;
      };
      at_rest = record {
        no_group = no_group_gap p s g end (read_small end Clean EndOfLine (clean_reading EndOfLine));
        hands_nothing = end_unhanded (HandedOut s.kind) end (clean_reading EndOfLine);
      };
    }

-- the law: a clean stream
pub lines_handed_lem : {ss : List Sent} → AllWritable VV5404 ss → (x : State) → AtRest x → HandsToRest x (stream ss) (map judged_line ss)
lines_handed_lem no_lines x q = record { to = x; hands = record { over = refl; leads = refl }; at_rest = q }
lines_handed_lem (and_line {s = s} g h) x q =
    let a = line_handed s g x q in
    let b = lines_handed_lem h a.to a.at_rest in
    record { to = b.to; hands = hands_over_then a.hands b.hands; at_rest = b.at_rest }
