-- Laws of the signal: each count is the count of the answers, and the least and the greatest other period are those of the answers.
use Rattle.std.specs.Prelude.{◌≡◌, refl, Bool, true, false, ◌||◌, cond, List, [], ◌∷◌, ◌++◌, ℕ, zero, suc, ◌<◌, min, max, eqb, ltb, length, get_or, replicate}
use Rattle.std.proofs.Common.{◌∙◌, ap, sym, subst, true≢false, append-nil, arith, ltb-true, ltb-false, eqb-true, ne_eqb}
use Rattle.std.proofs.Math.Option.{Option, none, some}
use Rattle.std.proofs.lemmas.Bool.{eqb-false}
use Rattle.refusal.specs.declared.Refusal.{Refusal}
use Rattle.refusal.specs.Refusal.{unfinished_line, end_without_line, bad_gap}
use Rattle.counts.specs.Counts.{one_more, counting}
use Rattle.counts.specs.CountsLaws.{one_more_length, one_more_there}
use Rattle.line_code.specs.declared.Repair.{Repair}
use Rattle.line_code.specs.declared.Repair.TheVariants.{Clean, Bit}
use Rattle.period.specs.declared.Nibbles.{Nibbles}
use Rattle.period.specs.Period.{rate_of}
use Rattle.stream.specs.declared.Answer.{Answer}
use Rattle.stream.specs.declared.Answer.TheVariants.{Nothing, Line, Gap, Refused}
use Rattle.stream.specs.Answers.{is_line_answer}
use Rattle.signal_tally.specs.declared.First.{First}
use Rattle.signal_tally.specs.declared.First.TheVariants.{Unseen, InsideLine, Other}
use Rattle.spacing.specs.declared.Spacing.{Spacing}
use Rattle.spacing.specs.Spacing.{lesser, greater, with_period, by_rate}
use Rattle.signal_tally.specs.declared.Signal.{Signal}
use Rattle.signal_tally.specs.Signal.{refusals, code_width, with_repair, seen, is_start, with_first, line_seen, gap_seen, refusal_seen, fresh_signal, take_of, is_cut, close_of}
use Rattle.signal_tally.specs.Seen.{signalled, capture_signal, answers_of, from_start, is_refusal, repairs, is_bit_numbered, carried, periods, is_rate, is_unnamed, other_periods, least_of, greatest_of, first_of, CountsAnswers}

-- a part of the signal that a first mark alone doesn't change
by_refusal : {A : Type 0} (part : Signal → A) → ((s : Signal) (f : First) → part (with_first s f) ≡ part s) → (s : Signal) (r : Refusal)
    → part (refusal_seen s r.0) ≡ part s → part (take_of s (Refused r)) ≡ part s
unfolding take_of
by_refusal part same s r e = either (is_start s.first r.0)
  where
    either : (b : Bool) → part (cond b (with_first s InsideLine) (refusal_seen s r.0)) ≡ part s
    either true = same s InsideLine
    either false = e

-- Lines.

lines_on : (s : Signal) (w : List Answer) → (signalled s w).lines ≡ counting is_line_answer s.lines w
unfolding take_of
lines_on s [] = refl
lines_on s (Nothing ∷ w) = lines_on (take_of s Nothing) w
lines_on s (Line f ∷ w) = lines_on (take_of s (Line f)) w
lines_on s (Gap g ∷ w) = lines_on (take_of s (Gap g)) w
lines_on s (Refused r ∷ w) =
    lines_on (take_of s (Refused r)) w
    ∙ ap (λ (k : ℕ). counting is_line_answer k w) (by_refusal (λ (x : Signal). x.lines) (λ x f. refl) s r refl)

-- Refusals.

abbrev is_unseen : First → Bool
is_unseen Unseen = true
is_unseen InsideLine = false
is_unseen Other = false

seen_seen : (f : First) → is_unseen (seen f) ≡ false
seen_seen Unseen = refl
seen_seen InsideLine = refl
seen_seen Other = refl

no_start : (f : First) (n : ℕ) → is_unseen f ≡ false → is_start f n ≡ false
no_start Unseen n u = absurd (true≢false u)
no_start InsideLine n u = refl
no_start Other n u = refl

-- one refusal that counts, and what comes after it
counted_on : (s : Signal) (w : List Answer) (r : Refusal) (n : ℕ) → n < length s.refused
    → (n < length (refusal_seen s r.0).refused
    → get_or (signalled (refusal_seen s r.0) w).refused n 0 ≡ counting (is_refusal n) (get_or (refusal_seen s r.0).refused n 0) w)
    → get_or (signalled (refusal_seen s r.0) w).refused n 0 ≡ counting (is_refusal n) (get_or s.refused n 0) (Refused r ∷ w)
counted_on s w r n h later =
    later (omega (arith, h, one_more_length s.refused r.0)) ∙ ap (λ (k : ℕ). counting (is_refusal n) k w) (one_more_there s.refused r.0 n h)

-- once a mark is seen, every refusal counts
refused_on_lem : (s : Signal) (w : List Answer) (n : ℕ) → is_unseen s.first ≡ false → n < length s.refused
    → get_or (signalled s w).refused n 0 ≡ counting (is_refusal n) (get_or s.refused n 0) w
unfolding take_of
refused_on_lem s [] n u h = refl
refused_on_lem s (Nothing ∷ w) n u h = refused_on_lem s w n u h
refused_on_lem s (Line f ∷ w) n u h = refused_on_lem (line_seen s f) w n (seen_seen s.first) h
refused_on_lem s (Gap g ∷ w) n u h = refused_on_lem (gap_seen s g) w n (seen_seen s.first) h
refused_on_lem s (Refused r ∷ w) n u h =
    ap (λ (b : Bool). get_or (signalled (cond b (with_first s InsideLine) (refusal_seen s r.0)) w).refused n 0) (no_start s.first r.0 u)
    ∙ counted_on s w r n h (refused_on_lem (refusal_seen s r.0) w n (seen_seen s.first))

-- before, all but an end of line that is the first mark
refused_first : (s : Signal) (w : List Answer) (n : ℕ) → s.first ≡ Unseen → n < length s.refused
    → get_or (signalled s w).refused n 0 ≡ counting (is_refusal n) (get_or s.refused n 0) (from_start w)
unfolding take_of
refused_first s [] n u h = refl
refused_first s (Nothing ∷ w) n u h = refused_first s w n u h
refused_first s (Line f ∷ w) n u h = refused_on_lem (line_seen s f) w n (seen_seen s.first) h
refused_first s (Gap g ∷ w) n u h = refused_on_lem (gap_seen s g) w n (seen_seen s.first) h
refused_first s (Refused r ∷ w) n u h =
    ap (λ (f : First). get_or (signalled (cond (is_start f r.0) (with_first s InsideLine) (refusal_seen s r.0)) w).refused n 0) u
    ∙ either (eqb r.0 end_without_line)
  where
    either : (b : Bool) → get_or (signalled (cond b (with_first s InsideLine) (refusal_seen s r.0)) w).refused n 0
        ≡ counting (is_refusal n) (get_or s.refused n 0) (cond b w (Refused r ∷ w))
    either true = refused_on_lem (with_first s InsideLine) w n refl h
    either false = counted_on s w r n h (refused_on_lem (refusal_seen s r.0) w n (seen_seen s.first))

-- Repairs.

repair_length : (counts : List ℕ) (r : Repair) → length (with_repair counts r) ≡ length counts
repair_length counts Clean = refl
repair_length counts (Bit i) = one_more_length counts i

repair_there : (counts : List ℕ) (r : Repair) (i : ℕ) → i < length counts
    → get_or (with_repair counts r) i 0 ≡ cond (is_bit_numbered i r) (one_more (get_or counts i 0)) (get_or counts i 0)
repair_there counts Clean i h = refl
repair_there counts (Bit j) i h = one_more_there counts j i h

repaired_on : (s : Signal) (w : List Answer) (i : ℕ) → i < length s.repaired
    → get_or (signalled s w).repaired i 0 ≡ counting (is_bit_numbered i) (get_or s.repaired i 0) (repairs w)
unfolding take_of
repaired_on s [] i h = refl
repaired_on s (Nothing ∷ w) i h = repaired_on (take_of s Nothing) w i h
repaired_on s (Line f ∷ w) i h =
    let first : List ℕ = with_repair s.repaired f.start in
    let g : i < length first = omega (arith, h, repair_length s.repaired f.start) in
    repaired_on (take_of s (Line f)) w i (omega (arith, g, repair_length first f.end))
    ∙ ap (λ (k : ℕ). counting (is_bit_numbered i) k (repairs w)) (repair_there first f.end i g)
    ∙ ap (λ (k : ℕ). counting (is_bit_numbered i) (cond (is_bit_numbered i f.end) (one_more k) k) (repairs w)) (repair_there s.repaired f.start i h)
repaired_on s (Gap g ∷ w) i h = repaired_on (take_of s (Gap g)) w i h
repaired_on s (Refused r ∷ w) i h =
    let same = by_refusal (λ (x : Signal). x.repaired) (λ x f. refl) s r refl in
    repaired_on (take_of s (Refused r)) w i (subst (λ (l : List ℕ). i < length l) (sym same) h)
    ∙ ap (λ (l : List ℕ). counting (is_bit_numbered i) (get_or l i 0) (repairs w)) same

-- Periods.

-- what is made of the periods seen, by what one period more does to it
periods_on : (made : Spacing → List Nibbles → ℕ)
    → ((s : Spacing) (n : Nibbles) (ns : List Nibbles) → made (with_period s n) ns ≡ made s (carried n ++ ns))
    → (s : Signal) (w : List Answer) → made (signalled s w).spacing [] ≡ made s.spacing (periods w)
unfolding take_of
periods_on made one s [] = refl
periods_on made one s (Nothing ∷ w) = periods_on made one (take_of s Nothing) w
periods_on made one s (Line f ∷ w) = periods_on made one (take_of s (Line f)) w
periods_on made one s (Gap g ∷ w) = periods_on made one (take_of s (Gap g)) w ∙ one s.spacing g.period (periods w)
periods_on made one s (Refused r ∷ w) =
    periods_on made one (take_of s (Refused r)) w ∙ ap (λ (x : Spacing). made x (periods w)) (by_refusal (λ (x : Signal). x.spacing) (λ x f. refl) s r refl)

-- the names of periods: 30, 25 or none
data Named : Option ℕ → Type 0 where
  thirty : Named (some 30)
  twenty_five : Named (some 25)
  other : Named none

named : (n : Nibbles) → Named (rate_of n)
unfolding rate_of
named n = go (eqb n.0 786) (eqb n.0 942)
  where
    go : (b c : Bool) → Named (cond b (some 30) (cond c (some 25) none))
    go true c = thirty
    go false true = twenty_five
    go false false = other

-- one period more, by its name
by_name : (made : Spacing → List Nibbles → ℕ)
    → ((s : Spacing) (n : Nibbles) (ns : List Nibbles) → (n.0 ≡ 0 → ⊥) → Named (rate_of n) → made (by_rate s n.0 (rate_of n)) ns ≡ made s (n ∷ ns))
    → (s : Spacing) (n : Nibbles) (ns : List Nibbles) → made (with_period s n) ns ≡ made s (carried n ++ ns)
unfolding with_period
by_name made f s n ns = go (eqb n.0 0) refl
  where
    go : (b : Bool) → eqb n.0 0 ≡ b → made (cond b s (by_rate s n.0 (rate_of n))) ns ≡ made s (cond b [] (n ∷ []) ++ ns)
    go true e = refl
    go false e = f s n ns (eqb-false n.0 0 e) (named n)

-- a count of them
counts_on : (count : Spacing → ℕ) (which : Option ℕ → Bool)
    → ((s : Spacing) (n : ℕ) (o : Option ℕ) → Named o → count (by_rate s n o) ≡ cond (which o) (one_more (count s)) (count s))
    → (s : Signal) (w : List Answer) → count (signalled s w).spacing ≡ counting (λ (n : Nibbles). which (rate_of n)) (count s.spacing) (periods w)
counts_on count which f =
    let which_period : Nibbles → Bool = λ n. which (rate_of n) in
    periods_on (λ (s : Spacing) (ns : List Nibbles). counting which_period (count s) ns)
    (by_name (λ (s : Spacing) (ns : List Nibbles). counting which_period (count s) ns)
    (λ s n ns g h. ap (λ (k : ℕ). counting which_period k ns) (f s n.0 (rate_of n) h)))

thirty_by : (s : Spacing) (n : ℕ) (o : Option ℕ) → Named o → (by_rate s n o).thirty ≡ cond (is_rate 30 o) (one_more s.thirty) s.thirty
thirty_by s n _ thirty = refl
thirty_by s n _ twenty_five = refl
thirty_by s n _ other = refl

twenty_five_by : (s : Spacing) (n : ℕ) (o : Option ℕ) → Named o → (by_rate s n o).twentyfive ≡ cond (is_rate 25 o) (one_more s.twentyfive) s.twentyfive
twenty_five_by s n _ thirty = refl
twenty_five_by s n _ twenty_five = refl
twenty_five_by s n _ other = refl

others_by : (s : Spacing) (n : ℕ) (o : Option ℕ) → Named o → (by_rate s n o).others ≡ cond (is_unnamed o) (one_more s.others) s.others
others_by s n _ thirty = refl
others_by s n _ twenty_five = refl
others_by s n _ other = refl

-- The least and the greatest of the other periods.

-- the least so far, if there is one
abbrev if_any : ℕ → List ℕ
if_any least = cond (eqb least 0) [] (least ∷ [])

only_least : (m : ℕ) → least_of (if_any m ++ []) ≡ m
only_least m = go (eqb m 0) refl
  where
    go : (b : Bool) → eqb m 0 ≡ b → least_of (cond b [] (m ∷ []) ++ []) ≡ m
    go true e = sym (eqb-true m 0 e)
    go false e = refl

-- the lesser of two in front
least_two : (m n : ℕ) (ns : List ℕ) → least_of (min m n ∷ ns) ≡ least_of (m ∷ n ∷ ns)
least_two m n [] = refl
least_two m n (k ∷ ns) = three (least_of (k ∷ ns))
  where
    three : (l : ℕ) → min (min m n) l ≡ min m (min n l)
    three l = omega arith

lesser_min : (m n : ℕ) → (m ≡ 0 → ⊥) → lesser m n ≡ min m n
unfolding lesser
lesser_min m n h = ap (λ (b : Bool). cond b n (cond (ltb n m) n m)) (ne_eqb m 0 h) ∙ go (ltb n m) refl
  where
    go : (b : Bool) → ltb n m ≡ b → cond b n m ≡ min m n
    go true e = let l = ltb-true n m e in omega arith
    go false e = let l = ltb-false n m e in omega arith

some_least : (m : ℕ) → (m ≡ 0 → ⊥) → (ns : List ℕ) → least_of (if_any m ++ ns) ≡ least_of (m ∷ ns)
some_least m h ns = ap (λ (b : Bool). least_of (cond b [] (m ∷ []) ++ ns)) (ne_eqb m 0 h)

above : (m : ℕ) → (m ≡ 0 → ⊥) → 0 < m
above zero h = absurd (h refl)
above (suc m) h = omega arith

least_more : (m n : ℕ) (ns : List ℕ) → (n ≡ 0 → ⊥) → least_of (if_any (lesser m n) ++ ns) ≡ least_of (if_any m ++ (n ∷ ns))
unfolding lesser
least_more m n ns h = go (eqb m 0) refl
  where
    go : (b : Bool) → eqb m 0 ≡ b → least_of (if_any (lesser m n) ++ ns) ≡ least_of (cond b [] (m ∷ []) ++ (n ∷ ns))
    go true e = ap (λ (b : Bool). least_of (if_any (cond b n (cond (ltb n m) n m)) ++ ns)) e ∙ some_least n h ns
    go false e =
        let g = eqb-false m 0 e in
        ap (λ (k : ℕ). least_of (if_any k ++ ns)) (lesser_min m n g) ∙ some_least (min m n) (λ q. omega (arith, q, above m g, above n h)) ns ∙ least_two m n ns

least_by : (s : Spacing) (n : ℕ) (o : Option ℕ) → (n ≡ 0 → ⊥) → Named o → (ns : List ℕ)
    → least_of (if_any (by_rate s n o).least ++ ns) ≡ least_of (if_any s.least ++ cond (is_unnamed o) (n ∷ ns) ns)
least_by s n _ h thirty ns = refl
least_by s n _ h twenty_five ns = refl
least_by s n _ h other ns = least_more s.least n ns h

least_on : (s : Signal) (w : List Answer) → (signalled s w).spacing.least ≡ least_of (if_any s.spacing.least ++ other_periods (periods w))
least_on s w =
    let made : Spacing → List Nibbles → ℕ = λ x ns. least_of (if_any x.least ++ other_periods ns) in
    sym (only_least (signalled s w).spacing.least) ∙ periods_on made (by_name made (λ x n ns h o. least_by x n.0 (rate_of n) h o (other_periods ns))) s w

greater_max : (m n : ℕ) → greater m n ≡ max m n
unfolding greater
greater_max m n = go (ltb m n) refl
  where
    go : (b : Bool) → ltb m n ≡ b → cond b n m ≡ max m n
    go true e = let l = ltb-true m n e in omega arith
    go false e = let l = ltb-false m n e in omega arith

greatest_by : (s : Spacing) (n : ℕ) (o : Option ℕ) → Named o → (ns : List ℕ)
    → max (by_rate s n o).greatest (greatest_of ns) ≡ max s.greatest (greatest_of (cond (is_unnamed o) (n ∷ ns) ns))
greatest_by s n _ thirty ns = refl
greatest_by s n _ twenty_five ns = refl
greatest_by s n _ other ns = ap (λ (k : ℕ). max k (greatest_of ns)) (greater_max s.greatest n) ∙ three s.greatest (greatest_of ns)
  where
    three : (g l : ℕ) → max (max g n) l ≡ max g (max n l)
    three g l = omega arith

greatest_on : (s : Signal) (w : List Answer) → (signalled s w).spacing.greatest ≡ max s.spacing.greatest (greatest_of (other_periods (periods w)))
greatest_on s w =
    let made : Spacing → List Nibbles → ℕ = λ x ns. max x.greatest (greatest_of (other_periods ns)) in
    alone (signalled s w).spacing.greatest ∙ periods_on made (by_name made (λ x n ns h o. greatest_by x n.0 (rate_of n) o (other_periods ns))) s w
  where
    alone : (n : ℕ) → n ≡ max n 0
    alone n = omega arith

-- The first mark.

-- the first mark of some answers, if none was seen before
abbrev onto : First → First → First
onto Unseen f = f
onto InsideLine f = InsideLine
onto Other f = Other

onto_unseen : (f : First) → f ≡ onto f Unseen
onto_unseen Unseen = refl
onto_unseen InsideLine = refl
onto_unseen Other = refl

onto_seen : (f later : First) → onto (seen f) later ≡ onto f Other
onto_seen Unseen later = refl
onto_seen InsideLine later = refl
onto_seen Other later = refl

onto_other : (f : First) → seen f ≡ onto f Other
onto_other Unseen = refl
onto_other InsideLine = refl
onto_other Other = refl

first_on : (s : Signal) (w : List Answer) → (signalled s w).first ≡ onto s.first (first_of w)
unfolding take_of
first_on s [] = onto_unseen s.first
first_on s (Nothing ∷ w) = first_on s w
first_on s (Line f ∷ w) = first_on (line_seen s f) w ∙ onto_seen s.first (first_of w)
first_on s (Gap g ∷ w) = first_on (gap_seen s g) w ∙ onto_seen s.first (first_of w)
first_on s (Refused r ∷ w) = first_on (take_of s (Refused r)) w ∙ ap (λ (f : First). onto f (first_of w)) (first_refused s r s.first refl) ∙ begun s.first
  where
    start : (f : First) → First
    start f = cond (is_start f r.0) InsideLine (seen f)

    first_refused : (s : Signal) (r : Refusal) (f : First) → s.first ≡ f → (take_of s (Refused r)).first ≡ cond (is_start s.first r.0) InsideLine (seen s.first)
    first_refused s r f e = either (is_start s.first r.0)
      where
        either : (b : Bool) → (cond b (with_first s InsideLine) (refusal_seen s r.0)).first ≡ cond b InsideLine (seen s.first)
        either true = refl
        either false = refl

    begun : (f : First) → onto (cond (is_start f r.0) InsideLine (seen f)) (first_of w) ≡ onto f (cond (eqb r.0 end_without_line) InsideLine Other)
    begun Unseen = either (eqb r.0 end_without_line)
      where
        either : (b : Bool) → onto (cond b InsideLine Other) (first_of w) ≡ cond b InsideLine Other
        either true = refl
        either false = refl
    begun InsideLine = refl
    begun Other = refl

-- A whole capture.

zeros : (n i : ℕ) → ◌≡◌ {A = ℕ} (get_or (replicate n 0) i 0) 0
zeros zero i = refl
zeros (suc n) zero = refl
zeros (suc n) (suc i) = zeros n i

signalled_append : (s : Signal) (v w : List Answer) → signalled s (v ++ w) ≡ signalled (signalled s v) w
signalled_append s [] w = refl
signalled_append s (a ∷ v) w = signalled_append (take_of s a) v w

-- what is counted of a capture is what its counted answers bring; finish's answer, cut or not, is a mark's
closed : {A : Type 0} (part : Signal → A) → ((s : Signal) (f : First) → part (with_first s f) ≡ part s) → (w : List Answer) (last : Answer)
    → part (capture_signal w last) ≡ part (signalled fresh_signal (answers_of w last))
unfolding close_of
closed part same w last = either (is_cut last)
  where
    before : Signal
    before = signalled fresh_signal w

    either : (b : Bool)
        → part (cond b (with_first before (seen before.first)) (take_of before last)) ≡ part (signalled fresh_signal (w ++ cond b [] (last ∷ [])))
    either true = same before (seen before.first) ∙ ap (λ (v : List Answer). part (signalled fresh_signal v)) (sym (append-nil w))
    either false = ap part (sym (signalled_append fresh_signal w (last ∷ [])))

-- a cut that finish tells is no end of line without a line
cut_first : (f : First) (last : Answer) → is_cut last ≡ true → seen f ≡ onto f (first_of (last ∷ []))
cut_first f Nothing e = absurd (true≢false (sym e))
cut_first f (Line l) e = absurd (true≢false (sym e))
cut_first f (Gap g) e = absurd (true≢false (sym e))
cut_first f (Refused r) e = go (eqb r.0 unfinished_line) refl e
  where
    plain : (b : Bool) → b ≡ false → seen f ≡ onto f (cond b InsideLine Other)
    plain b h = onto_other f ∙ ap (λ (c : Bool). onto f (cond c InsideLine Other)) (sym h)

    go : (b : Bool) → eqb r.0 unfinished_line ≡ b → (b || eqb r.0 bad_gap) ≡ true → seen f ≡ onto f (cond (eqb r.0 end_without_line) InsideLine Other)
    go true e h = plain (eqb r.0 end_without_line) (ap (λ (m : ℕ). eqb m end_without_line) (eqb-true r.0 unfinished_line e))
    go false e h = plain (eqb r.0 end_without_line) (ap (λ (m : ℕ). eqb m end_without_line) (eqb-true r.0 bad_gap h))

first_closed : (w : List Answer) (last : Answer) → (capture_signal w last).first ≡ first_of (w ++ (last ∷ []))
unfolding close_of
first_closed w last = either (is_cut last) refl ∙ sym (ap (λ (s : Signal). s.first) (signalled_append fresh_signal w (last ∷ []))) ∙ first_on fresh_signal (w ++ (last ∷ []))
  where
    before : Signal
    before = signalled fresh_signal w

    either : (b : Bool) → is_cut last ≡ b → (cond b (with_first before (seen before.first)) (take_of before last)).first ≡ (signalled before (last ∷ [])).first
    either true e = cut_first before.first last e ∙ sym (first_on before (last ∷ []))
    either false e = refl

-- the law: every count of a capture is the count of its answers, and the least and the greatest other period are theirs, but for finish's answer where
-- the end cut off a line or a gap
pub counts_answers : (w : List Answer) (last : Answer) → CountsAnswers w last
counts_answers w last =
    record {
      first = first_closed w last;
      lines = closed (λ (s : Signal). s.lines) (λ s f. refl) w last ∙ lines_on fresh_signal (answers_of w last);
      refused = λ n h. closed (λ (s : Signal). get_or s.refused n 0) (λ s f. refl) w last ∙ refused_first fresh_signal (answers_of w last) n refl h ∙ ap (λ (k : ℕ). counting (is_refusal n) k (from_start (answers_of w last))) (zeros refusals n);
      repaired = λ i h. closed (λ (s : Signal). get_or s.repaired i 0) (λ s f. refl) w last ∙ repaired_on fresh_signal (answers_of w last) i h ∙ ap (λ (k : ℕ). counting (is_bit_numbered i) k (repairs (answers_of w last))) (zeros code_width i);
      thirty = closed (λ (s : Signal). s.spacing.thirty) (λ s f. refl) w last ∙ counts_on (λ (s : Spacing). s.thirty) (is_rate 30) thirty_by fresh_signal (answers_of w last);
      twentyfive = closed (λ (s : Signal). s.spacing.twentyfive) (λ s f. refl) w last ∙ counts_on (λ (s : Spacing). s.twentyfive) (is_rate 25) twenty_five_by fresh_signal (answers_of w last);
      others = closed (λ (s : Signal). s.spacing.others) (λ s f. refl) w last ∙ counts_on (λ (s : Spacing). s.others) is_unnamed others_by fresh_signal (answers_of w last);
      least = closed (λ (s : Signal). s.spacing.least) (λ s f. refl) w last ∙ least_on fresh_signal (answers_of w last);
      greatest = closed (λ (s : Signal). s.spacing.greatest) (λ s f. refl) w last ∙ greatest_on fresh_signal (answers_of w last) ∙ none_yet (greatest_of (other_periods (periods (answers_of w last))));
    }
  where
    none_yet : (n : ℕ) → max 0 n ≡ n
    none_yet n = omega arith
