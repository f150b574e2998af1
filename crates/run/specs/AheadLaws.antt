-- A run goes on from where its pairs were taken ahead as if their nibbles had been taken one by one: none of them completes a mark, so none brings
-- an answer.
use Rattle.std.specs.Prelude.{◌≡◌, refl, Bool, true, false, ◌&&◌, ◌||◌, not, cond, List, [], ◌∷◌, ℕ, suc, ◌+◌, ◌-◌, ◌/◌, ◌%◌, ◌*◌, ◌≤◌, eqb, leb, length, drop}
use Rattle.std.proofs.Common.{sym, ap, ap₂, ◌∙◌, true≢false, arith, leb-true, eq-eqb, ne_eqb, length-drop, drop-drop}
use Rattle.std.proofs.lemmas.Bool.{not-true}
use Rattle.bits.specs.Every.{and_left, and_right}
use Rattle.profile.specs.Profile.{longest}
use Rattle.stream.specs.Answers.{nothing, answer_for, is_answer}
use Rattle.reader_head.specs.declared.Head.{Head}
use Rattle.reader_head.specs.Head.{top_place, group_number, shows_mark, slide, leave_body, shifted}
use Rattle.reader.specs.declared.Reader.{Reader}
use Rattle.reader.specs.Reader.{Took, take_head, take_outcome, taking, reader_of}
use Rattle.run_ahead.specs.declared.Reached.{Reached}
use Rattle.run_ahead.specs.Ahead.{TakenAhead, ahead_to, is_near, are_pair, take_pairs, past_body, ahead_of, AheadGives}
use Rattle.run.specs.Run.{onward}
use Rattle.run.specs.Parts.{Leads, Reaches}

-- No mark ends in a pair.

-- a window that is near
near_is : (w : ℕ) → w / 4096 % 4096 ≡ 4095 → w / 16 % 16 ≡ 0 → is_near w ≡ true
unfolding is_near
near_is w e f = simp (eq-eqb _ _ e, eq-eqb _ _ f)

not_both : (b : Bool) → b ≡ false → b ≡ true → ⊥
not_both b e f = true≢false (sym f ∙ e)

far_one : (w x : ℕ) → x ≤ 15 → is_near w ≡ false → shows_mark (slide w x) ≡ false
unfolding shows_mark slide
far_one w x l f = ne_eqb _ _ (λ (e : (w % top_place * 16 + x) / 256 ≡ group_number). not_both _ f (near_is w (omega arith) (omega arith)))

far_two : (w x y : ℕ) → x ≤ 15 → y ≤ 15 → is_near w ≡ false → shows_mark (slide (slide w x) y) ≡ false
unfolding shows_mark slide
far_two w x y l m f =
    ne_eqb _ _ (λ (e : ((w % top_place * 16 + x) % top_place * 16 + y) / 256 ≡ group_number). not_both _ f (near_is w (omega arith) (omega arith)))

-- One nibble that completes no mark.

abbrev quietly : Reader → ℕ → Took
quietly r n = record { reader = record { head = shifted r.head n; body = leave_body r.head r.body }; outcome = nothing }

quiet : (r : Reader) (n : ℕ) → shows_mark (slide r.head.window n) ≡ false → taking r n ≡ quietly r n
unfolding take_head take_outcome
quiet r n e = simp e

one_on : (r : Reader) (n : ℕ) (w : List ℕ) (i : ℕ) → leb n 15 ≡ true → shows_mark (slide r.head.window n) ≡ false
    → onward r (n ∷ w) i ≡ onward (quietly r n).reader w (i + 1)
one_on r n w i l e =
    let q = quiet r n e in
    simp (l, ap (λ (t : Took). is_answer (answer_for t.outcome)) q) (ap (λ (t : Took). onward t.reader w (i + 1)) q)

-- As many pairs as come.

-- what taking ahead from the place i on gives, where w is what is left of the run there
record Goes (w : List ℕ) (h : Head) (B : List ℕ) (i : ℕ) (t : TakenAhead) : Type 0 where
  leads : onward (reader_of h B) w i ≡ onward (reader_of t.head t.body) (drop (t.at - i) w) t.at
  same_profile : t.head.profile ≡ h.profile
  from_on : i ≤ t.at
  within : t.at ≤ i + length w

stays : (w : List ℕ) (h : Head) (B : List ℕ) (i : ℕ) → Goes w h B i (ahead_to h B i)
stays w h B i =
    record {
      leads = ap (λ (k : ℕ). onward (reader_of h B) (drop k w) i) (let z : 0 ≡ i - i = omega arith in z);
      same_profile = refl;
      from_on = omega arith;
      within = omega arith;
    }

-- a pair, and then more
pair_on : (x y : ℕ) (w : List ℕ) (h : Head) (B : List ℕ) (i : ℕ) (t : TakenAhead) → are_pair h.window x y ≡ true
    → Goes w (shifted (shifted h x) y) (leave_body (shifted h x) (leave_body h B)) (i + 2) t → Goes (x ∷ (y ∷ w)) h B i t
pair_on x y w h B i t e g =
    record {
      leads = one_on (reader_of h B) x (y ∷ w) i l (far_one h.window x (leb-true x 15 l) far)
          ∙ one_on (reader_of (shifted h x) (leave_body h B)) y w (i + 1) m (far_two h.window x y (leb-true x 15 l) (leb-true y 15 m) far)
          ∙ ap (onward (reader_of (shifted (shifted h x) y) (leave_body (shifted h x) (leave_body h B))) w) (let z : i + 1 + 1 ≡ i + 2 = omega arith in z)
          ∙ g.leads
          ∙ ap (λ (k : ℕ). onward (reader_of t.head t.body) (drop k (x ∷ (y ∷ w))) t.at) (let z : suc (suc (t.at - (i + 2))) ≡ t.at - i = omega (arith, g.from_on) in z);
      same_profile = g.same_profile;
      from_on = omega (arith, g.from_on);
      within = omega (arith, g.within);
    }
  where
    far : is_near h.window ≡ false
    far = not-true (is_near h.window) (and_left (not (is_near h.window)) _ e)

    both : (leb x 15 && leb y 15) ≡ true
    both = and_right (not (is_near h.window)) _ e

    l : leb x 15 ≡ true
    l = and_left (leb x 15) _ both

    m : leb y 15 ≡ true
    m = and_right (leb x 15) _ both

pairs_go : (w : List ℕ) (h : Head) (B : List ℕ) (i : ℕ) → Goes w h B i (take_pairs h B w i)
pairs_go [] h B i = stays [] h B i
pairs_go (x ∷ []) h B i = stays (x ∷ []) h B i
pairs_go (x ∷ (y ∷ w)) h B i =
    go (are_pair h.window x y) refl (pairs_go w (shifted (shifted h x) y) (leave_body (shifted h x) (leave_body h B)) (i + 2))
  where
    rest : TakenAhead
    rest = take_pairs (shifted (shifted h x) y) (leave_body (shifted h x) (leave_body h B)) w (i + 2)

    go : (b : Bool) → are_pair h.window x y ≡ b → Goes w (shifted (shifted h x) y) (leave_body (shifted h x) (leave_body h B)) (i + 2) rest
        → Goes (x ∷ (y ∷ w)) h B i (cond b rest (ahead_to h B i))
    go true e g = pair_on x y w h B i rest e g
    go false e g = stays (x ∷ (y ∷ w)) h B i

goes_ahead : (h : Head) (B s : List ℕ) (from : ℕ) → Goes (drop from s) h B from (ahead_of h B s from)
unfolding ahead_of
goes_ahead h B s from = go (eqb (length B) longest && (leb past_body h.count || eqb (h.count % 2) 0))
  where
    go : (b : Bool) → Goes (drop from s) h B from (cond b (take_pairs h B (drop from s) from) (ahead_to h B from))
    go true = pairs_go (drop from s) h B from
    go false = stays (drop from s) h B from

-- from a place in the run
pub ahead_reaches : (s : List ℕ) (h : Head) (B : List ℕ) (from : ℕ) {r : Reached} {B' : List ℕ} → from ≤ length s → AheadGives (ahead_of h B s from) r B'
    → Reaches s h B from r B'
unfolding Leads
ahead_reaches s h B from {r} {B'} l e =
    let g = goes_ahead h B s from in
    let t = ahead_of h B s from in
    record {
      leads = g.leads
          ∙ ap (λ (w : List ℕ). onward (reader_of t.head t.body) w t.at)
          (drop-drop (t.at - from) from s ∙ ap (λ (k : ℕ). drop k s) (let z : from + (t.at - from) ≡ t.at = omega (arith, g.from_on) in z))
          ∙ ap₂ (λ (a : Head) (b : List ℕ). onward (reader_of a b) (drop t.at s) t.at) (sym e.next) (sym e.keeps)
          ∙ ap (λ (k : ℕ). onward (reader_of r.head B') (drop k s) k) (sym e.place);
      same_profile = ap (λ (a : Head). a.profile) e.next ∙ g.same_profile;
      from_on = omega (arith, g.from_on, e.place);
      within = omega (arith, g.within, e.place, length-drop from s, l);
    }
