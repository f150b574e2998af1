-- The tally of a capture with a slip: it counts the other frames complete, and one frame broken, or none where line 0 slipped. It counts the judge's
-- rulings, and those are known.
use Rattle.std.specs.Prelude.{◌≡◌, refl, Bool, true, false, ◌||◌, cond, List, [], ◌∷◌, ◌++◌, ℕ, ◌+◌, length, replicate}
use Rattle.std.proofs.Common.{◌∙◌, ap, sym, true≢false}
use Rattle.counts.specs.Counts.{one_more, counting}
use Rattle.counts.specs.CountsLaws.{counting_append, some}
use Rattle.profile.specs.declared.Profile.TheVariants.{VV5404}
use Rattle.stream.specs.declared.Answer.{Answer}
use Rattle.stream.specs.Written.{Sent}
use Rattle.frame_judge.specs.declared.Judge.TheVariants.{Waiting}
use Rattle.frame_judge.specs.declared.Ruling.{Ruling}
use Rattle.frame_judge.specs.declared.Ruling.TheVariants as ruling
use Rattle.frame_layout.specs.FrameLayout.{last_place}
use Rattle.frame_judge.specs.Calls.{rulings, is_complete, is_break}
use Rattle.frame_handing.specs.Handing.{all_handed}
use Rattle.frame_laws.specs.CompleteFrames.{to_complete}
use Rattle.frame_tally.specs.declared.Tally.{Tally}
use Rattle.frame_tally.specs.Tally.{fresh_tally}
use Rattle.frame_tally.specs.Answered.{tallied}
use Rattle.frame_tally.specs.TallyLaws.{judged_as_said}
use Rattle.slip_laws.specs.SlipFrames.{all_complete, lost, at_slip, OneFrameLost, broken_after, OneFrameUncounted}
use Rattle.slip_laws.proofs.LostRulings.{none_both, none_all}

-- where none of a list is so, the count stays
none_counted : (which : Ruling → Bool) (n : ℕ) (vs : List Ruling) → some which vs ≡ false → counting which n vs ≡ n
none_counted which n [] h = refl
none_counted which n (v ∷ vs) h = go (which v) h (none_counted which n vs)
  where
    go : (b : Bool) → (b || some which vs) ≡ false → (some which vs ≡ false → counting which n vs ≡ n) → counting which (cond b (one_more n) n) vs ≡ n
    go true e more = absurd (true≢false e)
    go false e more = more e

-- three lists, one after another
counting_three : (which : Ruling → Bool) (n : ℕ) (u v w : List Ruling) → counting which n (u ++ (v ++ w)) ≡ counting which (counting which (counting which n u) v) w
counting_three which n u v w = counting_append which n u (v ++ w) ∙ counting_append which (counting which n u) v w

-- complete frames: each is counted, and none is broken
frames_counted : (n : ℕ) (fs : List (List Sent)) → counting is_complete n (all_complete fs) ≡ counting (λ (f : List Sent). true) n fs
frames_counted n [] = refl
frames_counted n (f ∷ fs) =
    let going : List Ruling = replicate (last_place VV5404) ruling.Going in
    counting_append is_complete n (to_complete (last_place VV5404)) (all_complete fs)
    ∙ ap (λ (m : ℕ). counting is_complete m (all_complete fs))
    (counting_append is_complete n going (ruling.Complete ∷ []) ∙ ap one_more (none_counted is_complete n going (none_all is_complete ruling.Going refl (last_place VV5404))))
    ∙ frames_counted (one_more n) fs

none_broken : (fs : List (List Sent)) → some is_break (all_complete fs) ≡ false
none_broken [] = refl
none_broken (f ∷ fs) =
    none_both is_break (to_complete (last_place VV5404)) (all_complete fs)
    (none_both is_break (replicate (last_place VV5404) ruling.Going) (ruling.Complete ∷ []) (none_all is_break ruling.Going refl (last_place VV5404)) refl) (none_broken fs)

-- the frame that the slip fell in
lost_broken : (front back : List Sent) (more : ℕ) → counting is_break 0 (lost front back more) ≡ broken_after front
unfolding one_more
lost_broken front back more =
    let rest : List Ruling = replicate (more + length back) ruling.Waiting in
    counting_append is_break 0 (replicate (length front) ruling.Going) (at_slip front ∷ rest)
    ∙ ap (λ (n : ℕ). counting is_break n (at_slip front ∷ rest))
    (none_counted is_break 0 (replicate (length front) ruling.Going) (none_all is_break ruling.Going refl (length front)))
    ∙ from_slip front
  where
    waiting : some is_break (replicate (more + length back) ruling.Waiting) ≡ false
    waiting = none_all is_break ruling.Waiting refl (more + length back)

    from_slip : (front : List Sent) → counting is_break 0 (at_slip front ∷ replicate (more + length back) ruling.Waiting) ≡ broken_after front
    from_slip [] = none_counted is_break 0 (replicate (more + length back) ruling.Waiting) waiting
    from_slip (s ∷ ss) = none_counted is_break 1 (replicate (more + length back) ruling.Waiting) waiting

-- a tally that counts those rulings
pub lost_counted : {fs : List (List Sent)} {front back : List Sent} {gs : List (List Sent)} {vs : List Ruling} → OneFrameLost fs front back gs vs
    → (t : Tally) → t.complete ≡ counting is_complete 0 vs → t.broken ≡ counting is_break 0 vs → OneFrameUncounted fs front gs t
lost_counted {fs} {front} {back} {gs} o t complete broken =
    let F = all_complete fs in
    let L = lost front back o.more in
    let G = all_complete gs in
    record {
      others_complete =
          complete
          ∙ ap (counting is_complete 0) o.rulings_are
          ∙ counting_three is_complete 0 F L G
          ∙ ap (λ (n : ℕ). counting is_complete n G)
          (none_counted is_complete (counting is_complete 0 F) L o.none_complete ∙ frames_counted 0 fs)
          ∙ frames_counted (counting (λ (f : List Sent). true) 0 fs) gs
          ∙ sym (counting_append (λ (f : List Sent). true) 0 fs gs);
      one_broken =
          broken
          ∙ ap (counting is_break 0) o.rulings_are
          ∙ counting_three is_break 0 F L G
          ∙ none_counted is_break _ G (none_broken gs)
          ∙ ap (λ (n : ℕ). counting is_break n L) (none_counted is_break 0 F (none_broken fs))
          ∙ lost_broken front back o.more;
    }

-- the law
pub slip_tally : {fs : List (List Sent)} {front back : List Sent} {gs : List (List Sent)} (w : List Answer)
    → OneFrameLost fs front back gs (rulings VV5404 Waiting (all_handed w)) → OneFrameUncounted fs front gs (tallied (fresh_tally VV5404) w)
slip_tally w o = let q = judged_as_said (fresh_tally VV5404) w in lost_counted o (tallied (fresh_tally VV5404) w) q.complete q.broken
