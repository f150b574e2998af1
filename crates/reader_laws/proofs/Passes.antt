-- The reader's own test (11) is its facts (Passing.antt); it holds of a fresh reader and goes on to hold whatever is called.
use Rattle.std.specs.Prelude.{◌≡◌, refl, Bool, true, false, ◌||◌, not, cond, [], ℕ, zero, suc, ◌+◌, ◌*◌, ◌-◌, ◌/◌, ◌%◌, ◌≤◌, ◌<◌, eqb, leb, ltb, None, Option, Some}
use Rattle.std.proofs.Common.{◌∙◌, ap, sym, subst, true≢false, arith, eqb-true, eq-eqb, ne_eqb, le-leb, leb-true, leb-false, ltb-true, ltb-false, lt-ltb}
use Rattle.std.proofs.Math.Option.{none, some}
use Rattle.std.proofs.lemmas.Bool.{lt-leb, not-true}
use Rattle.bits.specs.Every.{and_left, and_right, and_both}
use Rattle.bits.specs.Tests.{by_test}
use Rattle.refusal.specs.Refusal.{not_a_nibble, bad_state, no_room}
use Rattle.line_code.specs.LineCode.{reading_of, is_end}
use Rattle.profile.specs.declared.Profile.{Profile}
use Rattle.profile.specs.Profile.{body_length, gap_start}
use Rattle.stream.specs.declared.Mark.{Mark}
use Rattle.stream.specs.declared.Mark.TheVariants.{NoMark, Open}
use Rattle.stream.specs.Answers.{Outcome, nothing, refused, is_line}
use Rattle.stream.specs.Stream.{kind_at, before_by}
use Rattle.mark_text.specs.MarkText.{stray_at, kept_at}
use Rattle.mark_answer.specs.KeptAnswer.{kept_answer}
use Rattle.reader_head.specs.declared.Head.{Head}
use Rattle.reader.specs.declared.Reader.{Reader}
use Rattle.reader_head.specs.Head.{top_place, group_number, shows_mark, slide, count_stop, bump, leave_kept, leave_body, shifted, opened_by, aged, window_fits, handed_fits, passes, flushed}
use Rattle.reader.specs.Reader.{Took, fresh_reader, refusing, take_head, take_outcome, taking, feed_of, finish_of}
use Rattle.reader_laws.specs.Passing.{Fits, Passed, Byte, Ok, finished}
use Rattle.mark_text.specs.MarkTextLaws.{gap_start_small}
use Rattle.mark_answer.specs.Sound.{Sound, refusal_of}
use Rattle.mark_answer.specs.SoundLaws.{line_ends, kept_sound, at_most_nine}
use Rattle.reader_head.specs.HeadLaws.{bump_more}
use Rattle.reader.specs.ReaderLaws.{take_sound}
use Rattle.line_code.specs.declared.Kind.{Kind}

-- The test and its facts.

then_fact : (b x y : Bool) → b ≡ true → cond b x y ≡ true → x ≡ true
then_fact true x y e h = h
then_fact false x y e h = absurd (true≢false (sym e))

else_fact : (b x y : Bool) → b ≡ false → cond b x y ≡ true → y ≡ true
else_fact true x y e h = absurd (true≢false e)
else_fact false x y e h = h

fits_fact : (m : Mark) (c w : ℕ) → window_fits m c w ≡ true → Fits m c w
fits_fact NoMark c w h = λ l. eqb-true (aged c w) 0 (then_fact (leb c 8) (eqb (aged c w) 0) true (le-leb c 8 l) h)
fits_fact (Open before code) c w h =
    record {
      two = leb-true 2 c (and_left (leb 2 c) _ h);
      within = λ l. eqb-true (aged (c - 2) w) code (then_fact (leb c 8) X Y (le-leb c 8 l) g);
      half = λ e. eqb-true (aged 7 w) (code % 16) (then_fact (eqb c 9) Z true (eq-eqb c 9 e) (else_fact (leb c 8) X Y (lt-leb c 8 (omega arith)) g));
    }
  where
    X : Bool
    X = eqb (aged (c - 2) w) code

    Z : Bool
    Z = eqb (aged 7 w) (code % 16)

    Y : Bool
    Y = cond (eqb c 9) Z true

    g : cond (leb c 8) X Y ≡ true
    g = and_right (leb 2 c) _ h

-- a test that holds
abbrev Holds : Bool → Type 0
Holds b = b ≡ true

fact_fits : (m : Mark) (c w : ℕ) → Fits m c w → window_fits m c w ≡ true
fact_fits NoMark c w h = by_test Holds (leb c 8) (λ e. eq-eqb (aged c w) 0 (h (leb-true c 8 e))) (λ e. refl)
fact_fits (Open before code) c w h =
    and_both (leb 2 c) _ (le-leb 2 c h.two)
    (by_test Holds (leb c 8) (λ e. eq-eqb (aged (c - 2) w) code (h.within (leb-true c 8 e)))
    λ e. by_test Holds (eqb c 9) (λ q. eq-eqb (aged 7 w) (code % 16) (h.half (eqb-true c 9 q))) (λ q. refl))

not_then : (a b : Bool) → (not a || b) ≡ true → a ≡ true → b ≡ true
not_then true b h e = h
not_then false b h e = absurd (true≢false (sym e))

then_not : (a b : Bool) → (a ≡ true → b ≡ true) → (not a || b) ≡ true
then_not true b h = h refl
then_not false b h = refl

pub passed : (h : Head) → passes h ≡ true → Passed h
unfolding passes
passed h e =
    let f = and_right (leb h.count count_stop) _ e in
    let g = and_right (not (shows_mark h.window)) _ f in
    let j = and_right (handed_fits h.at) _ g in
    let i = and_right (window_fits h.at h.count h.window) _ j in
    record {
      count_small = leb-true h.count count_stop (and_left (leb h.count count_stop) _ e);
      no_mark_there = not-true (shows_mark h.window) (and_left (not (shows_mark h.window)) _ f);
      handed_fits = and_left (handed_fits h.at) _ g;
      window_fits = fits_fact h.at h.count h.window (and_left (window_fits h.at h.count h.window) _ j);
      stray_late = λ q. ltb-true (gap_start h.profile + 8) h.count (not_then h.kept.stray _ i q);
    }

pub passes_test : (h : Head) → Passed h → passes h ≡ true
unfolding passes
passes_test h f =
    and_both (leb h.count count_stop) _ (le-leb h.count count_stop f.count_small)
    (and_both (not (shows_mark h.window)) _ (ap not f.no_mark_there)
    (and_both (handed_fits h.at) _ f.handed_fits
    (and_both (window_fits h.at h.count h.window) _ (fact_fits h.at h.count h.window f.window_fits)
    (then_not h.kept.stray _ (λ e. lt-ltb (gap_start h.profile + 8) h.count (f.stray_late e))))))

-- Windows that slide.

-- y * 16 ^ k
unfoldable bound : ℕ → ℕ → ℕ
bound y zero = y
bound y (suc k) = 16 * bound y k

aged_below : (y k w : ℕ) → aged k w < y → w < bound y k
unfolding bound
aged_below y zero w h = h
aged_below y (suc k) w h = let r = aged_below y k (w / 16) h in omega arith

code_bound : (k : ℕ) → k ≤ 5 → bound 256 k ≤ top_place
unfolding bound
code_bound zero h = omega arith
code_bound (suc zero) h = omega arith
code_bound (suc (suc zero)) h = omega arith
code_bound (suc (suc (suc zero))) h = omega arith
code_bound (suc (suc (suc (suc zero)))) h = omega arith
code_bound (suc (suc (suc (suc (suc zero))))) h = omega arith
code_bound (suc (suc (suc (suc (suc (suc k)))))) h = absurd (omega arith)

none_bound : (k : ℕ) → k ≤ 7 → bound 1 k ≤ top_place
unfolding bound
none_bound zero h = omega arith
none_bound (suc zero) h = omega arith
none_bound (suc (suc k)) h = subst (λ (x : ℕ). x ≤ top_place) (sym (two_more k)) (code_bound k (omega arith))
  where
    two_more : (k : ℕ) → bound 1 (suc (suc k)) ≡ bound 256 k
    two_more zero = refl
    two_more (suc k) = ap (λ (x : ℕ). 16 * x) (two_more k)

slide_aged : (k w n : ℕ) → n < 16 → aged (suc k) (slide w n) ≡ aged k (w % top_place)
unfolding slide
slide_aged k w n h = let e : (w % top_place * 16 + n) / 16 ≡ w % top_place = omega arith in ap (aged k) e

low_aged : (k w n : ℕ) → n < 16 → w < top_place → aged (suc k) (slide w n) ≡ aged k w
low_aged k w n h g = let e : w % top_place ≡ w = omega arith in slide_aged k w n h ∙ ap (aged k) e

top_aged : (w : ℕ) → aged 6 (w % top_place) ≡ aged 6 w % 16
top_aged w = omega arith

fits_slide : (m : Mark) (c w n : ℕ) → Byte m → n < 16 → Fits m c w → Fits m (c + 1) (slide w n)
fits_slide NoMark c w n b h f = λ l.
    let e = f (omega arith) in
    let g = aged_below 1 c w (omega arith) in
    ap (λ (x : ℕ). aged x (slide w n)) (one_more_lem c) ∙ low_aged c w n h (omega (arith, none_bound c (omega arith))) ∙ e
  where
    one_more_lem : (i : ℕ) → i + 1 ≡ suc i
    one_more_lem i = omega arith
fits_slide (Open before code) zero w n b h f = absurd (let z = f.two in omega arith)
fits_slide (Open before code) (suc zero) w n b h f = absurd (let z = f.two in omega arith)
fits_slide (Open before code) (suc (suc j)) w n b h f =
    record {
      two = omega arith;
      within = λ l.
          let e : aged j w ≡ code = ap (λ (x : ℕ). aged x w) (two_less j) ∙ f.within (omega arith) in
          let q = aged_below 256 j w (omega arith) in
          ap (λ (x : ℕ). aged x (slide w n)) (one_less j) ∙ low_aged j w n h (omega (arith, code_bound j (omega arith))) ∙ e;
      half = λ l.
          let e : aged 6 w ≡ code = ap (λ (x : ℕ). aged x w) (let z : 6 ≡ suc (suc j) - 2 = omega arith in z) ∙ f.within (omega arith) in
          slide_aged 6 w n h ∙ top_aged w ∙ ap (λ (x : ℕ). x % 16) e;
    }
  where
    two_less : (i : ℕ) → i ≡ suc (suc i) - 2
    two_less i = omega arith

    one_less : (i : ℕ) → suc (suc i) + 1 - 2 ≡ suc i
    one_less i = omega arith

-- The count.

bump_small : (c : ℕ) → c ≤ count_stop → bump c ≤ count_stop
unfolding bump
bump_small c h = go (ltb c count_stop) refl
  where
    go : (b : Bool) → ltb c count_stop ≡ b → cond b (c + 1) c ≤ count_stop
    go true e = let z = ltb-true c count_stop e in omega arith
    go false e = h

bump_last : (c g : ℕ) → g ≤ 6 → g + 8 ≤ c → g + 8 < bump c
unfolding bump
bump_last c g l k = go (ltb c count_stop) refl
  where
    go : (b : Bool) → ltb c count_stop ≡ b → g + 8 < cond b (c + 1) c
    go true e = omega arith
    go false e = let z = ltb-false c count_stop e in omega arith

fits_bump : (m : Mark) (c w n : ℕ) → Byte m → n < 16 → c ≤ count_stop → Fits m c w → Fits m (bump c) (slide w n)
unfolding bump
fits_bump m c w n b h l f = go (ltb c count_stop) refl
  where
    full : (m : Mark) → Fits m count_stop (slide w n)
    full NoMark = λ l. absurd (omega arith)
    full (Open before code) = record { two = omega arith; within = λ l. absurd (omega arith); half = λ l. absurd (omega arith) }

    go : (x : Bool) → ltb c count_stop ≡ x → Fits m (cond x (c + 1) c) (slide w n)
    go true e = fits_slide m c w n b h f
    go false e =
        let z = ltb-false c count_stop e in
        let q : count_stop ≡ c = omega arith in
        subst (λ (x : ℕ). Fits m x (slide w n)) q (full m)

leave_stray : (h : Head) → Passed h → (leave_kept h).stray ≡ true → gap_start h.profile + 8 < bump h.count
unfolding leave_kept kept_at stray_at
leave_stray h f = go (leb 8 c) refl
  where
    c : ℕ
    c = h.count

    g : ℕ
    g = gap_start h.profile

    before : h.kept.stray ≡ true → g + 8 < bump c
    before e = let z = f.stray_late e in let y = bump_more c in omega arith

    or_cases : (a b : Bool) → (a || b) ≡ true → (a ≡ true → g + 8 < bump c) → (b ≡ true → g + 8 < bump c) → g + 8 < bump c
    or_cases true b e i j = i refl
    or_cases false b e i j = j e

    go : (b : Bool) → leb 8 c ≡ b → (cond b (kept_at h.profile (c - 8) (h.window / top_place) h.kept) h.kept).stray ≡ true → g + 8 < bump c
    go false e q = before q
    go true e q =
        or_cases h.kept.stray _ q before λ z.
        let l = leb-true g (c - 8) (and_left (leb g (c - 8)) _ z) in
        let k = leb-true 8 c e in
        bump_last c g (gap_start_small h.profile) (omega arith)

-- What a call does, by its own tests.

-- feeding: 11, 10, 12, or the nibble is taken
pub data Feeding (r : Reader) (n room : ℕ) : Took → Type 0 where
  feed_state : passes r.head ≡ false → Feeding r n room (refusing r bad_state)
  feed_nibble : 15 < n → Feeding r n room (refusing r not_a_nibble)
  feed_room : room < body_length r.head.profile → Feeding r n room (refusing r no_room)
  feed_taken : n < 16 → Feeding r n room (taking r n)

pub feeding : (r : Reader) (n room : ℕ) → Feeding r n room (feed_of r n room)
unfolding feed_of
feeding r n room = go (passes r.head) (leb n 15) (leb (body_length r.head.profile) room) refl refl refl
  where
    go : (a b c : Bool) → passes r.head ≡ a → leb n 15 ≡ b → leb (body_length r.head.profile) room ≡ c
        → Feeding r n room (cond a (cond b (cond c (taking r n) (refusing r no_room)) (refusing r not_a_nibble)) (refusing r bad_state))
    go false b c e f g = feed_state e
    go true false c e f g = feed_nibble (leb-false n 15 f)
    go true true false e f g = feed_room (leb-false (body_length r.head.profile) room g)
    go true true true e f g = feed_taken (let l = leb-true n 15 f in omega arith)

finish_sound : (r : Reader) → Sound r.head.profile (finished r).outcome
finish_sound r = kept_sound r.head.profile r.head.at r.head.count (flushed 8 r.head).kept [] none

-- a finish is refused 11, or finishes
pub data Finishing (r : Reader) : Took → Type 0 where
  finish_state : passes r.head ≡ false → Finishing r (refusing r bad_state)
  finish_taken : Finishing r (finished r)

pub finishing : (r : Reader) → Finishing r (finish_of r)
unfolding finish_of
finishing r = go (passes r.head) refl
  where
    go : (a : Bool) → passes r.head ≡ a → Finishing r (cond a (finished r) (refusing r bad_state))
    go false e = finish_state e
    go true e = finish_taken

-- What holds of every state that calls reach: the test, and that the code is a byte.

pub fresh_ok : (p : Profile) → Ok (fresh_reader p).head
unfolding shows_mark
fresh_ok p =
    record {
      byte = tt;
      test = record { count_small = omega arith; no_mark_there = refl; handed_fits = refl; window_fits = λ l. refl; stray_late = λ e. absurd (true≢false (sym e)) };
    }

-- a mark that follows a line handed out
opened_fits : (k : Option Kind) (handed : Bool) (code : ℕ) → (handed ≡ true → is_end (reading_of code) ≡ true) → handed_fits (Open (before_by k handed) code) ≡ true
opened_fits None handed code h = refl
opened_fits (Some k) true code h = h refl
opened_fits (Some k) false code h = refl

opened_ok : (h : Head) (code : ℕ) (handed : Bool) → code < 256 → (handed ≡ true → is_end (reading_of code) ≡ true) → Ok (opened_by h code handed)
unfolding shows_mark
opened_ok h code handed l q =
    record {
      byte = l;
      test =
          record {
            count_small = omega arith;
            no_mark_there = ne_eqb (code / 256) group_number (λ e. omega arith);
            handed_fits = opened_fits (kind_at h.at) handed code q;
            window_fits = record { two = omega arith; within = λ i. refl; half = λ e. absurd (omega arith) };
            stray_late = λ e. absurd (true≢false (sym e));
          };
    }

shifted_ok : (h : Head) (n : ℕ) → n < 16 → shows_mark (slide h.window n) ≡ false → Ok h → Ok (shifted h n)
shifted_ok h n l e f =
    record {
      byte = f.byte;
      test =
          record {
            count_small = bump_small h.count f.test.count_small;
            no_mark_there = e;
            handed_fits = f.test.handed_fits;
            window_fits = fits_bump h.at h.count h.window n f.byte l f.test.count_small f.test.window_fits;
            stray_late = leave_stray h f.test;
          };
    }

-- a nibble that is taken
pub take_ok : (r : Reader) (n : ℕ) → n < 16 → Ok r.head → Ok (taking r n).reader.head
unfolding take_head take_outcome
take_ok r n l f = go (shows_mark w) refl
  where
    h : Head
    h = r.head

    w : ℕ
    w = slide h.window n

    o : Outcome
    o = kept_answer h.profile h.at (h.count - 7) (leave_kept h) (leave_body h r.body) (some (w % 256))

    go : (b : Bool) → shows_mark w ≡ b → Ok (cond b (opened_by h (w % 256) (is_line (cond b o nothing))) (shifted h n))
    go true e =
        opened_ok h (w % 256) (is_line o) (omega arith)
        (line_ends h.profile h.at (h.count - 7) (leave_kept h) (leave_body h r.body) (w % 256))
    go false e = shifted_ok h n l e f

-- every call, whatever it is given

pub feed_ok : (r : Reader) (n room : ℕ) → Ok r.head → Ok (feed_of r n room).reader.head
feed_ok r n room f = go (feeding r n room)
  where
    go : {t : Took} → Feeding r n room t → Ok t.reader.head
    go (feed_state e) = f
    go (feed_nibble e) = f
    go (feed_room e) = f
    go (feed_taken l) = take_ok r n l f

pub finish_ok : (r : Reader) → Ok r.head → Ok (finish_of r).reader.head
finish_ok r f = go (finishing r)
  where
    go : {t : Took} → Finishing r t → Ok t.reader.head
    go (finish_state e) = f
    go finish_taken = fresh_ok r.head.profile

-- A refusal 10 or above comes from a call's own tests, and gives the reader back as it was: in any state.

pub feed_refused : (r : Reader) (n room k : ℕ) → not_a_nibble ≤ k → (feed_of r n room).outcome ≡ refused k → feed_of r n room ≡ refusing r k
feed_refused r n room k l = go (feeding r n room)
  where
    go : {t : Took} → Feeding r n room t → t.outcome ≡ refused k → t ≡ refusing r k
    go (feed_state e) q = ap (refusing r) (ap refusal_of q)
    go (feed_nibble e) q = ap (refusing r) (ap refusal_of q)
    go (feed_room e) q = ap (refusing r) (ap refusal_of q)
    go (feed_taken e) q = absurd (let y = at_most_nine (take_sound r.head r.body n) in let z = ap refusal_of q in omega arith)

pub finish_refused : (r : Reader) (k : ℕ) → not_a_nibble ≤ k → (finish_of r).outcome ≡ refused k → finish_of r ≡ refusing r k
finish_refused r k l = go (finishing r)
  where
    go : {t : Took} → Finishing r t → t.outcome ≡ refused k → t ≡ refusing r k
    go (finish_state e) q = ap (refusing r) (ap refusal_of q)
    go finish_taken q = absurd (let y = at_most_nine (finish_sound r) in let z = ap refusal_of q in omega arith)

-- 11 comes only where the test fails

pub feed_eleven : (r : Reader) (n room : ℕ) → (feed_of r n room).outcome ≡ refused bad_state → passes r.head ≡ false
feed_eleven r n room = go (feeding r n room)
  where
    go : {t : Took} → Feeding r n room t → t.outcome ≡ refused bad_state → passes r.head ≡ false
    go (feed_state e) q = e
    go (feed_nibble e) q = absurd (let z = ap refusal_of q in omega arith)
    go (feed_room e) q = absurd (let z = ap refusal_of q in omega arith)
    go (feed_taken e) q = absurd (let y = at_most_nine (take_sound r.head r.body n) in let z = ap refusal_of q in omega arith)

pub finish_eleven : (r : Reader) → (finish_of r).outcome ≡ refused bad_state → passes r.head ≡ false
finish_eleven r = go (finishing r)
  where
    go : {t : Took} → Finishing r t → t.outcome ≡ refused bad_state → passes r.head ≡ false
    go (finish_state e) q = e
    go finish_taken q = absurd (let y = at_most_nine (finish_sound r) in let z = ap refusal_of q in omega arith)

-- finish that is not answered 11 leaves a fresh reader
pub finish_fresh : (r : Reader) → ((finish_of r).outcome ≡ refused bad_state → ⊥) → (finish_of r).reader ≡ fresh_reader r.head.profile
finish_fresh r = go (finishing r)
  where
    go : {t : Took} → Finishing r t → (t.outcome ≡ refused bad_state → ⊥) → t.reader ≡ fresh_reader r.head.profile
    go (finish_state e) h = absurd (h refl)
    go finish_taken h = refl
