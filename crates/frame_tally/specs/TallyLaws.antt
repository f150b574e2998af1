-- Laws of the tally: it counts each mark, it judges a capture as 01 says, a whole frame is counted complete, and a frame is counted complete
-- or broken exactly when one was told so.
use Rattle.std.specs.Prelude.{◌≡◌, refl, Bool, true, false, ◌||◌, cond, List, [], ◌∷◌, ◌++◌, ℕ, eqb, ltb, None, Option, Some}
use Rattle.std.proofs.Common.{sym, ap, ◌∙◌}
use Rattle.std.proofs.Math.Bool.{or-true, or-false, or_assoc}
use Rattle.refusal.specs.declared.Refusal.{Refusal}
use Rattle.refusal.specs.Refusal.{unfinished_line, bad_state}
use Rattle.line_code.specs.LineCode.{kind_number}
use Rattle.profile.specs.declared.Profile.{Profile}
use Rattle.profile.specs.declared.Profile.TheVariants.{VV5404, VV5300}
use Rattle.stream.specs.declared.Answer.{Answer}
use Rattle.stream.specs.declared.Answer.TheVariants as answer
use Rattle.frame_layout.specs.declared.Borders.{Borders}
use Rattle.frame_handing.specs.declared.HandedLine.{HandedLine}
use Rattle.frame_judge.specs.declared.Judge.{Judge}
use Rattle.frame_judge.specs.declared.Judge.TheVariants.{Waiting, Due}
use Rattle.frame_judge.specs.declared.Ruling.{Ruling}
use Rattle.frame_judge.specs.declared.Ruling.TheVariants as ruling
use Rattle.frame_layout.specs.FrameLayout.{last_place}
use Rattle.frame_judge.specs.Frame.{passes, refuses, broken, judge_of, breaks_frame}
use Rattle.frame_judge.specs.Calls.{Line, line, called, after, rulings, is_complete, is_break, IsFrame}
use Rattle.frame_handing.specs.Handing.{is_broken_line, handed_over, as_lines, handed_lines, all_handed}
use Rattle.frame_laws.specs.CompleteFrames.{to_complete}
use Rattle.frame_laws.specs.FrameLaws.{after_append}
use Rattle.frame_laws.proofs.WholeFrames.{frame_complete_lem}
use Rattle.counts.specs.Counts.{one_more, counting}
use Rattle.counts.specs.CountsLaws.{counted, some}
use Rattle.frame_tally.specs.declared.Tally.{Tally}
use Rattle.frame_tally.specs.declared.Told.{Told}
use Rattle.frame_tally.specs.declared.News.{News}
use Rattle.frame_tally.specs.declared.News.TheVariants.{Nothing, Complete, Broken, Cut}
use Rattle.frame_tally.specs.Tally.{fresh_tally, marked, moved, quiet, broken_by, refused_by, told, handed, handing, take_of, cut_within, cut_of, is_unfinished, ended, close_of}
use Rattle.frame_tally.specs.Answered.{tallied, news_of, with_mark, capture_tally, capture_news, says_complete, says_broken, lines_of, with_gaps, LineWithGap}

-- Marks.

told_marks : (t : Tally) (own : Option Refusal) (j : Judge) (v : Ruling) → (told t own j v).tally.marks ≡ t.marks
unfolding refused_by
told_marks t own j ruling.Waiting = refl
told_marks t own j ruling.Going = refl
told_marks t own j ruling.Complete = refl
told_marks t own j (ruling.Refused refusal) = either (breaks_frame refusal.0)
  where
    either : (b : Bool) → (cond b (broken_by t j refusal own) (quiet (moved t t.judge j))).tally.marks ≡ t.marks
    either true = refl
    either false = refl

handed_marks : (t : Tally) (k n : ℕ) (own : Option Refusal) → (handed t k n own).tally.marks ≡ t.marks
unfolding handed
handed_marks t k n own = told_marks t own (judge_of t.profile t.judge k n).judge (judge_of t.profile t.judge k n).ruling

handing_marks : (t : Tally) (h : Option HandedLine) (own : Option Refusal) → (handing t h own).tally.marks ≡ t.marks
handing_marks t None own = refl
handing_marks t (Some l) own = handed_marks t l.kind l.number own

take_marks : (t : Tally) (a : Answer) → (take_of t a).tally.marks ≡ with_mark t.marks a
unfolding take_of
take_marks t answer.Nothing = refl
take_marks t (answer.Line f) = handing_marks (marked t) (handed_over (answer.Line f)) None
take_marks t (answer.Gap g) = refl
take_marks t (answer.Refused r) = handing_marks (marked t) (handed_over (answer.Refused r)) (Some r)

cut_marks : (t : Tally) → (cut_of t).tally.marks ≡ t.marks
unfolding cut_of
cut_marks t = within t.judge
  where
    within : (j : Judge) → (cut_within t j).tally.marks ≡ t.marks
    within Waiting = refl
    within (Due place b) = refl

ended_marks : (d : Told) (n : News) → (ended d n).tally.marks ≡ d.tally.marks
ended_marks d Nothing = cut_marks d.tally
ended_marks d (Complete frame b mark) = refl
ended_marks d (Broken frame mark refusal own) = refl
ended_marks d (Cut frame) = refl

taken_marks : (t : Tally) (a : Answer) → (ended (take_of t a) (take_of t a).news).tally.marks ≡ with_mark t.marks a
taken_marks t a = ended_marks (take_of t a) (take_of t a).news ∙ take_marks t a

close_marks : (t : Tally) (a : Answer) → (close_of t a).tally.marks ≡ with_mark t.marks a
unfolding close_of
close_marks t answer.Nothing = taken_marks t answer.Nothing
close_marks t (answer.Line f) = taken_marks t (answer.Line f)
close_marks t (answer.Gap g) = taken_marks t (answer.Gap g)
close_marks t (answer.Refused r) = either (eqb r.0 unfinished_line)
  where
    either : (b : Bool)
        → (cond b (cut_of (marked t)) (ended (take_of t (answer.Refused r)) (take_of t (answer.Refused r)).news)).tally.marks ≡ one_more t.marks
    either true = cut_marks (marked t)
    either false = taken_marks t (answer.Refused r)

-- every answer but Nothing counts a mark, finish's too
pub marks_counted : (t : Tally) (a : Answer) → ((take_of t a).tally.marks ≡ with_mark t.marks a) × ((close_of t a).tally.marks ≡ with_mark t.marks a)
marks_counted t a = (take_marks t a, close_marks t a)

-- The judge and the counts are those that 01's calls give.

-- the judge and the counts d after these calls of the judge in t
pub record Judges (t : Tally) (ls : List Line) (d : Tally) : Type 0 where
  pub profile : d.profile ≡ t.profile
  pub judge : d.judge ≡ after t.profile t.judge ls
  pub complete : d.complete ≡ counting is_complete t.complete (rulings t.profile t.judge ls)
  pub broken : d.broken ≡ counting is_break t.broken (rulings t.profile t.judge ls)

-- the same, by the tally's own parts
by_told : (t : Tally) (own : Option Refusal) (j : Judge) (v : Ruling)
    → ((told t own j v).tally.profile ≡ t.profile)
    × ((told t own j v).tally.judge ≡ j)
    × ((told t own j v).tally.complete ≡ cond (is_complete v) (one_more t.complete) t.complete)
    × ((told t own j v).tally.broken ≡ cond (is_break v) (one_more t.broken) t.broken)
unfolding refused_by
by_told t own j ruling.Waiting = (refl, refl, refl, refl)
by_told t own j ruling.Going = (refl, refl, refl, refl)
by_told t own j ruling.Complete = (refl, refl, refl, refl)
by_told t own j (ruling.Refused refusal) = either (breaks_frame refusal.0)
  where
    either : (breaks : Bool)
        → let d : Told = cond breaks (broken_by t j refusal own) (quiet (moved t t.judge j)) in
        (d.tally.profile ≡ t.profile) × (d.tally.judge ≡ j) × (d.tally.complete ≡ t.complete) × (d.tally.broken ≡ cond breaks (one_more t.broken) t.broken)
    either true = (refl, refl, refl, refl)
    either false = (refl, refl, refl, refl)

nothing_judged : (t : Tally) → Judges t [] t
nothing_judged t = record { profile = refl; judge = refl; complete = refl; broken = refl }

one_judged : (t : Tally) (l : Line) (own : Option Refusal) → Judges t (l ∷ []) (handed (marked t) l.kind l.number own).tally
unfolding handed
one_judged t l own =
    let h = by_told (marked t) own (called t.profile t.judge l).judge (called t.profile t.judge l).ruling in
    record { profile = h.0; judge = h.1; complete = h.2; broken = h.3 }

handing_judged : (t : Tally) (h : Option HandedLine) (own : Option Refusal) → Judges t (as_lines h) (handing (marked t) h own).tally
handing_judged t None own = record { profile = refl; judge = refl; complete = refl; broken = refl }
handing_judged t (Some l) own = one_judged t (line l.kind l.number) own

take_judged : (t : Tally) (a : Answer) → Judges t (handed_lines a) (take_of t a).tally
unfolding take_of
take_judged t answer.Nothing = nothing_judged t
take_judged t (answer.Line f) = handing_judged t (handed_over (answer.Line f)) None
take_judged t (answer.Gap g) = handing_judged t None None
take_judged t (answer.Refused r) = handing_judged t (handed_over (answer.Refused r)) (Some r)

rulings_counted : (which : Ruling → Bool) (p : Profile) (j : Judge) (n : ℕ) (ls ms : List Line)
    → counting which n (rulings p j (ls ++ ms)) ≡ counting which (counting which n (rulings p j ls)) (rulings p (after p j ls) ms)
rulings_counted which p j n [] ms = refl
rulings_counted which p j n (l ∷ ls) ms = rulings_counted which p (called p j l).judge (cond (which (called p j l).ruling) (one_more n) n) ls ms

then_judged : {t d e : Tally} {ls ms : List Line} → Judges t ls d → Judges d ms e → Judges t (ls ++ ms) e
then_judged {t} {d} {e} {ls} {ms} p q =
    record {
      profile = q.profile ∙ p.profile;
      judge = q.judge ∙ simp (p.profile, p.judge) (sym (after_append t.profile t.judge ls ms));
      complete = q.complete ∙ simp (p.profile, p.judge, p.complete) (sym (rulings_counted is_complete t.profile t.judge t.complete ls ms));
      broken = q.broken ∙ simp (p.profile, p.judge, p.broken) (sym (rulings_counted is_break t.profile t.judge t.broken ls ms));
    }

-- whatever the answers: the judge is where 01's calls leave it, and each Complete and each 18 or 19 among its rulings is counted
pub judged_as_said : (t : Tally) (w : List Answer) → Judges t (all_handed w) (tallied t w)
judged_as_said t [] = nothing_judged t
judged_as_said t (a ∷ w) = then_judged (take_judged t a) (judged_as_said (take_of t a).tally w)

-- a line that the end of the capture cut off (finish's 3) leaves the judge as handing it over does, with 19; it is told as a frame cut off
pub cut_as_handed : (t : Tally) → passes t.profile t.judge ≡ true
    → (close_of t (answer.Refused (record { 0 = unfinished_line }))).tally.judge ≡ after t.profile t.judge (handed_lines (answer.Refused (record { 0 = unfinished_line })))
unfolding close_of cut_of judge_of is_broken_line
cut_as_handed t h = go t.judge refl h
  where
    go : (j : Judge) → t.judge ≡ j → passes t.profile j ≡ true
        → (cut_within (marked t) j).tally.judge ≡ (cond (passes t.profile j) (broken j) (refuses j bad_state)).judge
    go Waiting e q = e
    go (Due place b) e q = ap (λ (x : Bool). (cond x (broken (Due place b)) (refuses (Due place b) bad_state)).judge) (sym q)

-- A whole frame.

handed_lines_lem : (fs : List LineWithGap) → all_handed (with_gaps fs) ≡ lines_of fs
handed_lines_lem [] = refl
handed_lines_lem (f ∷ fs) = ap (λ (ls : List Line). line (kind_number f.facts.kind) f.facts.number ∷ ls) (handed_lines_lem fs)

-- one of its rulings is Complete, and none breaks it
counted_once : (p : Profile) → (counting is_complete 0 (to_complete (last_place p)) ≡ 1) × (counting is_break 0 (to_complete (last_place p)) ≡ 0)
unfolding one_more
counted_once VV5404 = (refl, refl)
counted_once VV5300 = (refl, refl)

-- the lines of a frame, repaired or not, each with its own gap, from a fresh tally
pub frame_tallied : (p : Profile) (b : Borders) (fs : List LineWithGap) → IsFrame p b (lines_of fs)
    → let t : Tally = tallied (fresh_tally p) (with_gaps fs) in
    (t.complete ≡ 1) × (t.broken ≡ 0)
frame_tallied p b fs e =
    let q = judged_as_said (fresh_tally p) (with_gaps fs) in
    let v : rulings p Waiting (all_handed (with_gaps fs)) ≡ to_complete (last_place p) = ap (rulings p Waiting) (handed_lines_lem fs) ∙ (frame_complete_lem p b (lines_of fs) e).0 in
    let c : (tallied (fresh_tally p) (with_gaps fs)).complete ≡ 1 = q.complete ∙ ap (counting is_complete 0) v ∙ (counted_once p).0 in
    let d : (tallied (fresh_tally p) (with_gaps fs)).broken ≡ 0 = q.broken ∙ ap (counting is_break 0) v ∙ (counted_once p).1 in
    (c, d)

-- Counted exactly when told.

-- a count is above 0 in d if it was before or the news say so
record Says (complete₀ broken₀ : ℕ) (d : Told) : Type 0 where
  complete : ltb 0 d.tally.complete ≡ (ltb 0 complete₀ || says_complete d.news)
  broken : ltb 0 d.tally.broken ≡ (ltb 0 broken₀ || says_broken d.news)

says_nothing : (t : Tally) → Says t.complete t.broken (quiet t)
says_nothing t = record { complete = sym (or-false _); broken = sym (or-false _) }

says_told : (t : Tally) (own : Option Refusal) (j : Judge) (v : Ruling) → Says t.complete t.broken (told t own j v)
unfolding refused_by
says_told t own j ruling.Waiting = says_nothing (moved t t.judge j)
says_told t own j ruling.Going = says_nothing (moved t t.judge j)
says_told t own j ruling.Complete = record { complete = counted t.complete ∙ sym (or-true (ltb 0 t.complete)); broken = sym (or-false _) }
says_told t own j (ruling.Refused refusal) = either (breaks_frame refusal.0)
  where
    either : (b : Bool) → Says t.complete t.broken (cond b (broken_by t j refusal own) (quiet (moved t t.judge j)))
    either true = record { complete = sym (or-false _); broken = counted t.broken ∙ sym (or-true (ltb 0 t.broken)) }
    either false = says_nothing (moved t t.judge j)

says_handed : (t : Tally) (k n : ℕ) (own : Option Refusal) → Says t.complete t.broken (handed t k n own)
unfolding handed
says_handed t k n own = says_told t own (judge_of t.profile t.judge k n).judge (judge_of t.profile t.judge k n).ruling

says_handing : (t : Tally) (h : Option HandedLine) (own : Option Refusal) → Says t.complete t.broken (handing t h own)
says_handing t None own = says_nothing t
says_handing t (Some l) own = says_handed t l.kind l.number own

says_take : (t : Tally) (a : Answer) → Says t.complete t.broken (take_of t a)
unfolding take_of
says_take t answer.Nothing = says_nothing t
says_take t (answer.Line f) = says_handing (marked t) (handed_over (answer.Line f)) None
says_take t (answer.Gap g) = says_nothing (marked t)
says_take t (answer.Refused r) = says_handing (marked t) (handed_over (answer.Refused r)) (Some r)

says_cut : (t : Tally) → Says t.complete t.broken (cut_of t)
unfolding cut_of
says_cut t = within t.judge
  where
    within : (j : Judge) → Says t.complete t.broken (cut_within t j)
    within Waiting = says_nothing t
    within (Due place b) = record { complete = sym (or-false _); broken = sym (or-false _) }

says_ended : {c b : ℕ} (d : Told) (n : News) → d.news ≡ n → Says c b d → Says c b (ended d n)
says_ended d Nothing e p =
    let q = says_cut d.tally in
    record { complete = q.complete ∙ simp (p.complete, e, or-false); broken = q.broken ∙ simp (p.broken, e, or-false) }
says_ended d (Complete frame b mark) e p = p
says_ended d (Broken frame mark refusal own) e p = p
says_ended d (Cut frame) e p = p

says_close : (t : Tally) (last : Answer) → Says t.complete t.broken (close_of t last)
unfolding close_of
says_close t last = either (is_unfinished last)
  where
    either : (b : Bool) → Says t.complete t.broken (cond b (cut_of (marked t)) (ended (take_of t last) (take_of t last).news))
    either true = says_cut (marked t)
    either false = says_ended (take_of t last) (take_of t last).news refl (says_take t last)

-- either count, by what each step says of it
says_all : (count : Tally → ℕ) (says : News → Bool)
    → ((t : Tally) (a : Answer) → ltb 0 (count (take_of t a).tally) ≡ (ltb 0 (count t) || says (take_of t a).news))
    → ((t : Tally) (a : Answer) → ltb 0 (count (close_of t a).tally) ≡ (ltb 0 (count t) || says (close_of t a).news))
    → (t : Tally) (w : List Answer) (last : Answer)
    → ltb 0 (count (close_of (tallied t w) last).tally) ≡ (ltb 0 (count t) || some says (news_of t w ++ ((close_of (tallied t w) last).news ∷ [])))
says_all count says take close t [] last = close t last ∙ ap (λ (b : Bool). ltb 0 (count t) || b) (sym (or-false (says (close_of t last).news)))
says_all count says take close t (a ∷ w) last =
    says_all count says take close (take_of t a).tally w last
    ∙ ap (λ (b : Bool). b || some says (news_of (take_of t a).tally w ++ ((close_of (tallied (take_of t a).tally w) last).news ∷ []))) (take t a)
    ∙ or_assoc (ltb 0 (count t)) (says (take_of t a).news) _

-- of a whole capture
pub counted_exactly : (p : Profile) (w : List Answer) (last : Answer)
    → (ltb 0 (capture_tally p w last).complete ≡ some says_complete (capture_news p w last))
    × (ltb 0 (capture_tally p w last).broken ≡ some says_broken (capture_news p w last))
counted_exactly p w last = (
  says_all (λ t. t.complete) says_complete (λ t a. (says_take t a).complete) (λ t a. (says_close t a).complete) (fresh_tally p) w last,
  says_all (λ t. t.broken) says_broken (λ t a. (says_take t a).broken) (λ t a. (says_close t a).broken) (fresh_tally p) w last,
)
