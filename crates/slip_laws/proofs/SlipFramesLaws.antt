-- A slipped clip costs one frame (02, A14): what the calls hand to the judge is what the nibbles taken hand over, the other lines as sent and broken
-- lines in the stead of the one; and the judge answers those as LostRulings.antt says.
use Rattle.std.specs.Prelude.{◌≡◌, refl, Bool, true, false, List, [], ◌∷◌, ◌++◌, map, ℕ, replicate}
use Rattle.std.proofs.Common.{◌∙◌, ap, ap₂, sym, subst, append_assoc, append-nil}
use Rattle.std.proofs.Math.Option.{none}
use Rattle.profile.specs.declared.Profile.{Profile}
use Rattle.profile.specs.declared.Profile.TheVariants.{VV5404}
use Rattle.stream.specs.declared.Answer.{Answer}
use Rattle.stream.specs.declared.Answer.TheVariants as answer
use Rattle.stream.specs.Answers.{outcome_of}
use Rattle.stream.specs.Stream.{State, fresh, finish, run, outcomes}
use Rattle.stream.specs.Written.{Sent, AllWritable, stream}
use Rattle.reader.specs.declared.Reader.{Reader}
use Rattle.reader.specs.Reader.{fresh_reader}
use Rattle.recovery.specs.Collected.{collected}
use Rattle.recovery.specs.CollectedLaws.{collected_append}
use Rattle.recovery.specs.CallAnswers.{brought_by}
use Rattle.refinement.specs.Runs.{RunCall, run_result, runs_collected}
use Rattle.refinement.specs.RunAnswers.{runs_finish}
use Rattle.refinement.proofs.Brought.{of_each, of_each_lem, calls_bring}
use Rattle.frame_judge.specs.declared.Judge.TheVariants.{Waiting}
use Rattle.frame_judge.specs.Calls.{Line, rulings}
use Rattle.frame_handing.specs.Handing.{handed_lines, all_handed}
use Rattle.frame_laws.specs.SentFrames.{judged_line, all_lines}
use Rattle.slip_laws.specs.Slip.{slipped, Inside}
use Rattle.slip_laws.proofs.SlipLaws.{parted, with_content, left_of, left_short, slipped_is}
use Rattle.slip_laws.specs.SlipFrames.{runs_answers, CostsOneFrame}
use Rattle.slip_laws.specs.Handed.{handed_by, lines_handed, call_unhanded, hands_over_then, fresh_at_rest, HandsToRest, lines_handed_lem}
use Rattle.slip_laws.proofs.LeftHanded.{broken_one, left_handed}
use Rattle.slip_laws.proofs.LostRulings.{lost_incomplete, one_lost}

-- The calls.

answer_handed : (p : Profile) (a : Answer) (buffer : List ℕ) → handed_lines a ≡ handed_by (outcome_of p a buffer)
answer_handed p answer.Nothing buffer = refl
answer_handed p (answer.Line f) buffer = refl
answer_handed p (answer.Gap g) buffer = refl
answer_handed p (answer.Refused n) buffer = refl

answers_handed : (p : Profile) (cs : List RunCall) (r : Reader) → all_handed (runs_answers r cs) ≡ runs_collected (of_each handed_by) p r cs
answers_handed p [] r = refl
answers_handed p (c ∷ cs) r =
    let g = run_result r c in
    ap₂ (λ (u v : List Line). u ++ v) (answer_handed p g.answer g.buffer ∙ sym (of_each_lem handed_by c (outcome_of p g.answer g.buffer))) (answers_handed p cs g.reader)

-- finish hands nothing over
finished_handed : {w : List ℕ} {ls : List Line} → HandsToRest fresh w ls → (b : Bool) → collected handed_by (brought_by VV5404 fresh w b) ≡ ls
finished_handed h false = h.hands.over
finished_handed {w} h true =
    let y = run VV5404 fresh w in
    let none_over : handed_by (finish VV5404 y).outcome ≡ []
    = ap (λ (z : State). handed_by (finish VV5404 z).outcome) h.hands.leads ∙ h.at_rest.hands_nothing h.to.text none in
    collected_append handed_by (outcomes VV5404 fresh w) ((finish VV5404 y).outcome ∷ [])
    ∙ ap (λ (ls : List Line). lines_handed VV5404 fresh w ++ (ls ++ [])) none_over
    ∙ append-nil (lines_handed VV5404 fresh w)
    ∙ h.hands.over

-- The slipped stream: the other lines as sent, and broken lines in the stead of the one.

-- a slipped stream hands over every other line, and broken ones in between
pub record SlippedHanded (before after : List Sent) (w : List ℕ) : Type 0 where
  pub more : ℕ
  pub all : HandsToRest fresh w (map judged_line before ++ ((broken_one ∷ replicate more broken_one) ++ map judged_line after))

pub slipped_handed : (before : List Sent) (s : Sent) (after : List Sent) → AllWritable VV5404 (before ++ (s ∷ after)) → (i k : ℕ) → Inside s i k
    → SlippedHanded before after (slipped before s after i k)
slipped_handed before s after h i k n =
    let q = parted VV5404 before s after h in
    let a = lines_handed_lem q.earlier fresh fresh_at_rest in
    let b = left_handed s q.one (left_of s i k) (left_short VV5404 s q.one i k n) a.to a.at_rest in
    let c = lines_handed_lem q.later b.all.to b.all.at_rest in
    let all : HandsToRest fresh (stream before ++ (with_content s (left_of s i k) ++ stream after))
    (map judged_line before ++ ((broken_one ∷ replicate b.more broken_one) ++ map judged_line after))
    = record { to = c.to; hands = hands_over_then a.hands (hands_over_then b.all.hands c.hands); at_rest = c.at_rest } in
    record {
      more = b.more;
      all = subst (λ (w : List ℕ). HandsToRest fresh w (map judged_line before ++ ((broken_one ∷ replicate b.more broken_one) ++ map judged_line after)))
          (sym (slipped_is before s after i k n)) all;
    }

pub lines_around : (fs : List (List Sent)) (front : List Sent) (s : Sent) (back : List Sent) (gs : List (List Sent))
    → all_lines (fs ++ ((front ++ (s ∷ back)) ∷ gs)) ≡ (all_lines fs ++ front) ++ (s ∷ (back ++ all_lines gs))
lines_around [] front s back gs = append_assoc front (s ∷ back) (all_lines gs)
lines_around (f ∷ fs) front s back gs = ap (λ (ss : List Sent). f ++ ss) (lines_around fs front s back gs) ∙ simp append_assoc

-- the law, of the reader that runs
pub slip_costs_one_frame : CostsOneFrame (fresh_reader VV5404)
slip_costs_one_frame fs front s back gs whole h i k n cs last taken =
    let r = fresh_reader VV5404 in
    let before : List Sent = all_lines fs ++ front in
    let after : List Sent = back ++ all_lines gs in
    let q = slipped_handed before s after (subst (AllWritable VV5404) (lines_around fs front s back gs) h) i k n in
    record {
      more = q.more;
      rulings_are =
          ap (rulings VV5404 Waiting)
          (answers_handed VV5404 cs r
          ∙ calls_bring handed_by refl call_unhanded VV5404 last
          ∙ ap (λ (w : List ℕ). collected handed_by (brought_by VV5404 fresh w (runs_finish cs))) taken
          ∙ finished_handed q.all (runs_finish cs))
          ∙ one_lost fs front s back gs whole q.more;
      none_complete = lost_incomplete front back q.more;
    }
