-- Blocks of nibbles in which no mark can end: many pairs taken at once are as many taken one after another.
use mathlib.Core.Path.{◌≡◌, refl, sym, ap, ap₂, ◌∙◌, subst}
use mathlib.Core.Bool.{Bool, true, false, true≢false, ◌&&◌}
use mathlib.Core.List.{List}
use mathlib.Core.Logic.{◌⊎◌, inl, inr, ⊎_elim}
use Prim.Native.Nat.{ℕ, zero, suc, ◌+◌, ◌-◌, ◌*◌, ◌/◌, ◌%◌, ◌≤◌, ◌<◌}
use native.Mathlib.Omega.{arith}
use borrow.Author.Tests.{lt-ltb, le-ltb, ne_eqb}
use lib.Dec.{eqb}
use lib.ListN.{length, get_or, set, drop, length-set}
use lib.Seq.{get_or-set_same, get_or-set_other, paste, paste-zero, paste-suc}
use Rattle.std.specs.List.{between}
use Rattle.std.proofs.lemmas.List.Edits.{get_or-between}
use Rattle.profile.specs.declared.Profile.{Profile}
use Rattle.profile.specs.Profile.{longest}
use Rattle.stream.specs.declared.Mark.{Mark}
use Rattle.mark_text.specs.declared.Kept.{Kept}
use Rattle.reader_head.specs.declared.Head.{Head}
use Rattle.reader_head.specs.Head.{count_stop, bump}
use Rattle.reader_head.specs.HeadLaws.{bump_more}
use Rattle.run_ahead.specs.Ahead.{is_near, take_pairs}
use Rattle.run_ahead.specs.Parts.{byte_place, slide_byte, stray_after, strayed, Leads}
use Rattle.run_ahead.specs.Blocks.{NibblesFrom, Apart, Far, FarOn, window_from, byte_from, packed_into, later_count}
use Rattle.run_ahead.proofs.Pairs.{head, Stands, Turn, lt_or_ge, bump_one, leads_in, leads_past, leads_here, leads_on}

-- What holds of each place from i on, as far as a loop came.

pub more_below : (P : ℕ → Type 0) (i k : ℕ) → ((x : ℕ) → i ≤ x → x < i + k → P x) → P (i + k) → (x : ℕ) → i ≤ x → x < i + (k + 1) → P x
more_below P i k f p x a b =
    ⊎_elim (λ (d : x < i + k). f x a d) (λ (d : i + k ≤ x). subst P (let z : i + k ≡ x = omega arith in z) p) (lt_or_ge x (i + k))

-- an element of a part of a list
pub in_part : (s : List ℕ) (i n x : ℕ) → i ≤ x → x < i + n → get_or (between i (i + n) s) (x - i) 0 ≡ get_or s x 0
in_part s i n x a b = get_or-between s i (i + n) (x - i) 0 (omega arith) ∙ ap (λ (k : ℕ). get_or s k 0) (let z : i + (x - i) ≡ x = omega arith in z)

-- false is not true
pub not_both : {A : Type 0} → false ≡ true → A
not_both e = absurd (true≢false (sym e))

-- A block grows, and has parts.

pub far_none : {stray : Bool} (s : List ℕ) (k : ℕ) → NibblesFrom s k 8 → Far stray s k 0
far_none s k h = record { small = λ x a b. h x a (omega arith); apart = λ x a b. absurd (omega arith); same = inr (λ x a b. absurd (omega arith)) }

pub far_more : {stray : Bool} (s : List ℕ) (k n l m : ℕ) → l ≡ k + n → Far stray s k n → Far stray s l m → Far stray s k (n + m)
far_more {stray} s k n l m e f g =
    record {
      small = λ x a b. ⊎_elim (λ (d : x < k + n). f.small x a (omega arith)) (λ (d : k + n ≤ x). g.small x (omega arith) (omega arith)) (lt_or_ge x (k + n));
      apart = λ x a b. ⊎_elim (λ (d : x < k + n). f.apart x a d) (λ (d : k + n ≤ x). g.apart x (omega arith) (omega arith)) (lt_or_ge x (k + n));
      same = both f.same g.same;
    }
  where
    both : (stray ≡ true) ⊎ ((x : ℕ) → k ≤ x → x < k + n → 15 ≤ get_or s x 0) → (stray ≡ true) ⊎ ((x : ℕ) → l ≤ x → x < l + m → 15 ≤ get_or s x 0)
        → (stray ≡ true) ⊎ ((x : ℕ) → k ≤ x → x < k + (n + m) → 15 ≤ get_or s x 0)
    both (inl t) q = inl t
    both (inr t) (inl q) = inl q
    both (inr t) (inr q) = inr (λ x a b. ⊎_elim (λ (d : x < k + n). t x a d) (λ (d : k + n ≤ x). q x (omega arith) (omega arith)) (lt_or_ge x (k + n)))

pub far_part : {stray : Bool} {s : List ℕ} (k n l m : ℕ) → k ≤ l → l + m ≤ k + n → Far stray s k n → Far stray s l m
far_part {stray} {s} k n l m a b f =
    record { small = λ x u v. f.small x (omega arith) (omega arith); apart = λ x u v. f.apart x (omega arith) (omega arith); same = part f.same }
  where
    part : (stray ≡ true) ⊎ ((x : ℕ) → k ≤ x → x < k + n → 15 ≤ get_or s x 0) → (stray ≡ true) ⊎ ((x : ℕ) → l ≤ x → x < l + m → 15 ≤ get_or s x 0)
    part (inl t) = inl t
    part (inr t) = inr (λ x u v. t x (omega arith) (omega arith))

-- A window that is the run's own.

at_same : (s : List ℕ) (m n : ℕ) → m ≡ n → get_or s m 0 ≡ get_or s n 0
at_same s m n e = ap (λ (i : ℕ). get_or s i 0) e

and_false : (b : Bool) → (b && false) ≡ false
and_false true = refl
and_false false = refl

-- F, F and F, and then no 0
not_near : (w a b c d : ℕ) → w / 4096 % 4096 ≡ 256 * a + 16 * b + c → w / 16 % 16 ≡ d → a < 16 → b < 16 → c < 16 → a + b + c + 1 ≤ 45 + d → is_near w ≡ false
unfolding is_near
not_near w a b c d e f ha hb hc l =
    ⊎_elim
    (λ (z : w / 4096 % 4096 < 4095). simp (ne_eqb (w / 4096 % 4096) 4095 (λ (q : w / 4096 % 4096 ≡ 4095). omega arith)))
    (λ (z : 4095 ≤ w / 4096 % 4096). ap (λ (t : Bool). eqb (w / 4096 % 4096) 4095 && t) (ne_eqb (w / 16 % 16) 0 (λ (q : w / 16 % 16 ≡ 0). omega arith)) ∙ and_false (eqb (w / 4096 % 4096) 4095))
    (lt_or_ge (w / 4096 % 4096) 4095)

module _ (s : List ℕ) (k : ℕ) (h : NibblesFrom s k 8) where
  window_on : slide_byte (window_from s k) (get_or s (k + 8) 0) (get_or s (k + 9) 0) ≡ window_from s (k + 2)
  window_on =
      let a = h k (omega arith) (omega arith) in
      let b = h (k + 1) (omega arith) (omega arith) in
      let c = h (k + 2) (omega arith) (omega arith) in
      let d = h (k + 3) (omega arith) (omega arith) in
      let e = h (k + 4) (omega arith) (omega arith) in
      let f = h (k + 5) (omega arith) (omega arith) in
      let g = h (k + 6) (omega arith) (omega arith) in
      let i = h (k + 7) (omega arith) (omega arith) in
      let m1 = at_same s (k + 2 + 1) (k + 3) (omega arith) in
      let m2 = at_same s (k + 2 + 2) (k + 4) (omega arith) in
      let m3 = at_same s (k + 2 + 3) (k + 5) (omega arith) in
      let m4 = at_same s (k + 2 + 4) (k + 6) (omega arith) in
      let m5 = at_same s (k + 2 + 5) (k + 7) (omega arith) in
      let m6 = at_same s (k + 2 + 6) (k + 8) (omega arith) in
      let m7 = at_same s (k + 2 + 7) (k + 9) (omega arith) in
      omega arith

  pub window_small : window_from s k < 4294967296
  window_small =
      let a = h k (omega arith) (omega arith) in
      let b = h (k + 1) (omega arith) (omega arith) in
      let c = h (k + 2) (omega arith) (omega arith) in
      let d = h (k + 3) (omega arith) (omega arith) in
      let e = h (k + 4) (omega arith) (omega arith) in
      let f = h (k + 5) (omega arith) (omega arith) in
      let g = h (k + 6) (omega arith) (omega arith) in
      let i = h (k + 7) (omega arith) (omega arith) in
      omega arith

  window_top : window_from s k / byte_place ≡ byte_from s k
  window_top =
      let c = h (k + 2) (omega arith) (omega arith) in
      let d = h (k + 3) (omega arith) (omega arith) in
      let e = h (k + 4) (omega arith) (omega arith) in
      let f = h (k + 5) (omega arith) (omega arith) in
      let g = h (k + 6) (omega arith) (omega arith) in
      let i = h (k + 7) (omega arith) (omega arith) in
      omega arith

  window_apart : Apart 1 s k → is_near (window_from s k) ≡ false
  window_apart l =
      let c = h (k + 2) (omega arith) (omega arith) in
      let d = h (k + 3) (omega arith) (omega arith) in
      let e = h (k + 4) (omega arith) (omega arith) in
      let f = h (k + 5) (omega arith) (omega arith) in
      let g = h (k + 6) (omega arith) (omega arith) in
      let i = h (k + 7) (omega arith) (omega arith) in
      not_near (window_from s k) (get_or s (k + 2) 0) (get_or s (k + 3) 0) (get_or s (k + 4) 0) (get_or s (k + 6) 0) (omega arith) (omega arith) c d e l

  pub window_slid : slide_byte (slide_byte (slide_byte (slide_byte 0 (get_or s k 0) (get_or s (k + 1) 0)) (get_or s (k + 2) 0) (get_or s (k + 2 + 1) 0))
      (get_or s (k + 4) 0) (get_or s (k + 4 + 1) 0)) (get_or s (k + 6) 0) (get_or s (k + 6 + 1) 0)
      ≡ window_from s k
  window_slid =
      let a = h k (omega arith) (omega arith) in
      let b = h (k + 1) (omega arith) (omega arith) in
      let c = h (k + 2) (omega arith) (omega arith) in
      let d = h (k + 3) (omega arith) (omega arith) in
      let e = h (k + 4) (omega arith) (omega arith) in
      let f = h (k + 5) (omega arith) (omega arith) in
      let m = at_same s (k + 2 + 1) (k + 3) (omega arith) in
      let n = at_same s (k + 4 + 1) (k + 5) (omega arith) in
      let o = at_same s (k + 6 + 1) (k + 7) (omega arith) in
      omega arith

-- Bytes that are put into a body.

pub packed_length : (B : List ℕ) (j : ℕ) (s : List ℕ) (i n : ℕ) → length (packed_into B j s i n) ≡ length B
packed_length B j s i zero = refl
packed_length B j s i (suc n) = length-set (packed_into B j s i n) (j + n) (byte_from s (i + 2 * n)) ∙ packed_length B j s i n

pub packed_paste : (B : List ℕ) (j : ℕ) (s : List ℕ) (i : ℕ) (to : List ℕ) (n : ℕ) → j + n ≤ length B → n ≤ length to
    → ((x : ℕ) → x < n → get_or to x 0 ≡ byte_from s (i + 2 * x)) → packed_into B j s i n ≡ paste B j to n
packed_paste B j s i to zero a b h = paste-zero B j to
packed_paste B j s i to (suc n) a b h =
    ap₂ (λ (l : List ℕ) (v : ℕ). set l (j + n) v) (packed_paste B j s i to n (omega arith) (omega arith) (λ x u. h x (omega arith))) (sym (h n (omega arith)))
    ∙ paste-suc B j to n 0 (omega arith) (omega arith)

pub packed_on : (B : List ℕ) (j : ℕ) (s : List ℕ) (i k n : ℕ) → packed_into (packed_into B j s i k) (j + k) s (i + 2 * k) n ≡ packed_into B j s i (k + n)
packed_on B j s i k zero = ap (packed_into B j s i) (let z : k ≡ k + 0 = omega arith in z)
packed_on B j s i k (suc n) =
    ap (λ (b : List ℕ). set b (j + k + n) (byte_from s (i + 2 * k + 2 * n))) (packed_on B j s i k n)
    ∙ ap₂ (λ (x y : ℕ). set (packed_into B j s i (k + n)) x (byte_from s y)) (let z : j + k + n ≡ j + (k + n) = omega arith in z) (let z : i + 2 * k + 2 * n ≡ i + 2 * (k + n) = omega arith in z)
    ∙ ap (packed_into B j s i) (let z : suc (k + n) ≡ k + suc n = omega arith in z)

-- first into an array of their own
pub filled_more : (to : List ℕ) (s : List ℕ) (i k v : ℕ) → k < length to → v ≡ byte_from s (i + 2 * k) → ((x : ℕ) → x < k → get_or to x 0 ≡ byte_from s (i + 2 * x))
    → (x : ℕ) → x < k + 1 → get_or (set to k v) x 0 ≡ byte_from s (i + 2 * x)
filled_more to s i k v l e h x u =
    ⊎_elim
    (λ (d : x < k). get_or-set_other to k x v 0 (λ (z : x ≡ k). omega arith) ∙ h x d)
    (λ (d : k ≤ x). subst (λ (y : ℕ). get_or (set to k v) y 0 ≡ byte_from s (i + 2 * y)) (let z : k ≡ x = omega arith in z) (get_or-set_same to k v 0 l ∙ e))
    (lt_or_ge x k)

-- The count.

bump_held : (c : ℕ) → count_stop ≤ c → bump c ≡ c
unfolding bump
bump_held c l = simp (le-ltb c count_stop l)

pub later_more : (n c : ℕ) → c ≤ later_count n c
later_more zero c = omega arith
later_more (suc n) c = omega (arith, later_more n c, bump_more (later_count n c), bump_more (bump (later_count n c)))

pub later_held : (n c : ℕ) → count_stop ≤ c → later_count n c ≡ c
later_held zero c l = refl
later_held (suc n) c l = ap (λ (x : ℕ). bump (bump x)) (later_held n c l) ∙ ap bump (bump_held c l) ∙ bump_held c l

pub later_below : (n c : ℕ) → c + 2 * n ≤ count_stop → later_count n c ≡ c + 2 * n
later_below zero c l = omega arith
later_below (suc n) c l =
    ap (λ (x : ℕ). bump (bump x)) (later_below n c (omega arith))
    ∙ ap bump (bump_one (c + 2 * n) (omega arith))
    ∙ bump_one (c + 2 * n + 1) (omega arith)
    ∙ (let z : c + 2 * n + 1 + 1 ≡ c + 2 * suc n = omega arith in z)

pub later_stop : (n c : ℕ) → c ≤ count_stop → count_stop ≤ c + 2 * n → later_count n c ≡ count_stop
later_stop zero c a b = omega arith
later_stop (suc n) c a b =
    ⊎_elim
    (λ (d : c + 2 * n < count_stop). ap (λ (x : ℕ). bump (bump x)) (later_below n c (omega arith)) ∙ ap bump (bump_one (c + 2 * n) d) ∙ last (lt_or_ge (c + 2 * n + 1) count_stop) d)
    (λ (d : count_stop ≤ c + 2 * n). ap (λ (x : ℕ). bump (bump x)) (later_stop n c a d) ∙ ap bump (bump_held count_stop (omega arith)) ∙ bump_held count_stop (omega arith))
    (lt_or_ge (c + 2 * n) count_stop)
  where
    last : (c + 2 * n + 1 < count_stop) ⊎ (count_stop ≤ c + 2 * n + 1) → c + 2 * n < count_stop → bump (c + 2 * n + 1) ≡ count_stop
    last (inl d) l = bump_one (c + 2 * n + 1) d ∙ (let z : c + 2 * n + 1 + 1 ≡ count_stop = omega arith in z)
    last (inr d) l = bump_held (c + 2 * n + 1) d ∙ (let z : c + 2 * n + 1 ≡ count_stop = omega arith in z)

-- Where a block leads.

stray_same : {stray : Bool} {s : List ℕ} {k : ℕ} → Far stray s k 2 → stray_after stray (byte_from s k) ≡ stray
unfolding stray_after
stray_same {stray} {s} {k} f = go f.same
  where
    go : (stray ≡ true) ⊎ ((x : ℕ) → k ≤ x → x < k + 2 → 15 ≤ get_or s x 0) → stray_after stray (byte_from s k) ≡ stray
    go (inl e) = noted (lt_or_ge (byte_from s k) 255)
      where
        noted : (byte_from s k < 255) ⊎ (255 ≤ byte_from s k) → stray_after stray (byte_from s k) ≡ stray
        noted (inl l) = simp (lt-ltb (byte_from s k) 255 l, e)
        noted (inr l) = simp (le-ltb (byte_from s k) 255 l)
    go (inr q) = let a = q k (omega arith) (omega arith) in let b = q (k + 1) (omega arith) (omega arith) in simp (le-ltb (byte_from s k) 255 (omega arith))

-- the same place, and the place before, by other names
leads_as : (s : List ℕ) (h : Head) (B : List ℕ) (i : ℕ) (h' : Head) (B' : List ℕ) (i' : ℕ) (h'' : Head) (i'' : ℕ) → Leads s h B i h' B' i' → h' ≡ h'' → i' ≡ i''
    → Leads s h B i h'' B' i''
unfolding Leads
leads_as s h B i h' B' i' h'' i'' e f g = e ∙ ap₂ (λ (x : Head) (y : ℕ). take_pairs x B' (drop y s) y) f g

leads_from : (s : List ℕ) (h : Head) (B : List ℕ) (i : ℕ) (h' : Head) (B' : List ℕ) (i' : ℕ) (h₀ : Head) (i₀ : ℕ) → h₀ ≡ h → i₀ ≡ i → Leads s h₀ B i₀ h' B' i'
    → Leads s h B i h' B' i'
unfolding Leads
leads_from s h B i h' B' i' h₀ i₀ f g e = sym (ap₂ (λ (x : Head) (y : ℕ). take_pairs x B (drop y s) y) f g) ∙ e

module _ (p : Profile) (m : Mark) (t : Kept) (s : List ℕ) where
  -- a head whose window is the run's own
  abbrev pub along : ℕ → ℕ → Head
  along c k = head p m c (window_from s k) t

  -- two nibbles behind it, in which no mark can end
  module _ (k : ℕ) (f : Far t.stray s k 2) where
    eight : NibblesFrom s k 8
    eight x a b = f.small x a (omega arith)

    slid : slide_byte (window_from s k) (get_or s (k + 8) 0) (get_or s (k + 8 + 1) 0) ≡ window_from s (k + 2)
    slid = ap (slide_byte (window_from s k) (get_or s (k + 8) 0)) (at_same s (k + 8 + 1) (k + 9) (omega arith)) ∙ window_on s k eight

    turn_far : k + 10 ≤ length s → Turn s (k + 8) (length s) (window_from s k) (k + 8)
    turn_far l =
        record {
          stands = record { small = window_small s k eight; from_on = omega arith; up_to = omega arith; within = omega arith };
          fits = omega arith;
          far = window_apart s k eight (f.apart k (omega arith) (omega arith));
          high_small = f.small (k + 8) (omega arith) (omega arith);
          low_small = f.small (k + 8 + 1) (omega arith) (omega arith);
        }

    top_far : window_from s k / byte_place ≡ byte_from s k
    top_far = window_top s k eight

    kept_far : strayed t (stray_after t.stray (window_from s k / byte_place)) ≡ t
    kept_far = ap (λ (b : ℕ). strayed t (stray_after t.stray b)) top_far ∙ ap (strayed t) (stray_same f)

    head_far : (c : ℕ)
        → head p m c (slide_byte (window_from s k) (get_or s (k + 8) 0) (get_or s (k + 8 + 1) 0)) (strayed t (stray_after t.stray (window_from s k / byte_place))) ≡ along c (k + 2)
    head_far c = ap₂ (λ (w : ℕ) (x : Kept). head p m c w x) slid kept_far

    one_in : (B : List ℕ) (j : ℕ) → k + 10 ≤ length s → j < longest → longest ≤ length B
        → Leads s (along (14 + 2 * j) k) B (k + 8) (along (14 + 2 * (j + 1)) (k + 2)) (set B j (byte_from s k)) (k + 8 + 2)
    one_in B j l a b = leads_as s _ _ _ _ _ _ _ _ (leads_in p m (14 + 2 * j) t B (turn_far l) j (byte_from s k) refl a b (sym top_far)) (head_far (14 + 2 * (j + 1))) refl

    one_past : (B : List ℕ) (c : ℕ) → k + 10 ≤ length s → 726 ≤ c → Leads s (along c k) B (k + 8) (along (bump (bump c)) (k + 2)) B (k + 8 + 2)
    one_past B c l a = leads_as s _ _ _ _ _ _ _ _ (leads_past p m c t B (turn_far l) a) (head_far (bump (bump c))) refl

  -- many pairs: all but the last, and the last
  module _ (k : ℕ) where
    but_last : (n : ℕ) → Far t.stray s k (2 * suc n) → Far t.stray s k (2 * n)
    but_last n f = far_part k (2 * suc n) k (2 * n) (omega arith) (omega arith) f

    the_last : (n : ℕ) → Far t.stray s k (2 * suc n) → Far t.stray s (k + 2 * n) 2
    the_last n f = far_part k (2 * suc n) (k + 2 * n) 2 (omega arith) (omega arith) f

    many_in : (n : ℕ) (B : List ℕ) (j : ℕ) → Far t.stray s k (2 * n) → k + 2 * n + 8 ≤ length s → j + n ≤ longest → longest ≤ length B
        → Leads s (along (14 + 2 * j) k) B (k + 8) (along (14 + 2 * (j + n)) (k + 2 * n)) (packed_into B j s k n) (k + 2 * n + 8)
    many_in zero B j f l a b =
        leads_as s _ _ _ _ _ _ _ _ (leads_here s (along (14 + 2 * j) k) B (k + 8)) (ap₂ along (let z : 14 + 2 * j ≡ 14 + 2 * (j + 0) = omega arith in z) (let z : k ≡ k + 2 * 0 = omega arith in z))
        (let z : k + 8 ≡ k + 2 * 0 + 8 = omega arith in z)
    many_in (suc n) B j f l a b =
        let most = many_in n B j (but_last n f) (omega arith) (omega arith) b in
        let last = one_in (k + 2 * n) (the_last n f) (packed_into B j s k n) (j + n) (omega arith) (omega arith) (omega (arith, packed_length B j s k n)) in
        leads_as s _ _ _ _ _ _ _ _ (leads_on s _ _ _ _ _ _ _ _ _ most last)
        (ap₂ along (let z : 14 + 2 * (j + n + 1) ≡ 14 + 2 * (j + suc n) = omega arith in z) (let z : k + 2 * n + 2 ≡ k + 2 * suc n = omega arith in z))
        (let z : k + 2 * n + 8 + 2 ≡ k + 2 * suc n + 8 = omega arith in z)

    many_past : (n : ℕ) (B : List ℕ) (c : ℕ) → Far t.stray s k (2 * n) → k + 2 * n + 8 ≤ length s → 726 ≤ c
        → Leads s (along c k) B (k + 8) (along (later_count n c) (k + 2 * n)) B (k + 2 * n + 8)
    many_past zero B c f l a =
        leads_as s _ _ _ _ _ _ _ _ (leads_here s (along c k) B (k + 8)) (ap (along c) (let z : k ≡ k + 2 * 0 = omega arith in z)) (let z : k + 8 ≡ k + 2 * 0 + 8 = omega arith in z)
    many_past (suc n) B c f l a =
        let most = many_past n B c (but_last n f) (omega arith) a in
        let last = one_past (k + 2 * n) (the_last n f) B (later_count n c) (omega arith) (omega (arith, later_more n c)) in
        leads_as s _ _ _ _ _ _ _ _ (leads_on s _ _ _ _ _ _ _ _ _ most last)
        (ap (along (later_count (suc n) c)) (let z : k + 2 * n + 2 ≡ k + 2 * suc n = omega arith in z))
        (let z : k + 2 * n + 8 + 2 ≡ k + 2 * suc n + 8 = omega arith in z)

-- and so from the place of the run that it stands at
module _ (p : Profile) (m : Mark) (t : Kept) {w : ℕ} {s : List ℕ} {i end n : ℕ} (f : FarOn w t.stray s i end n) (within : end ≤ length s) where
  from_behind : (c c' : ℕ) (B B' : List ℕ)
      → Leads s (along p m t s c (i - 8)) B (i - 8 + 8) (along p m t s c' (i - 8 + 2 * n)) B' (i - 8 + 2 * n + 8)
      → Leads s (head p m c w t) B i (along p m t s c' (i + 2 * n - 8)) B' (i + 2 * n)
  from_behind c c' B B' e =
      let u = f.behind in
      leads_from s _ _ _ _ _ _ _ _ (ap (λ (x : ℕ). head p m c x t) (sym f.shown)) (let z : i - 8 + 8 ≡ i = omega arith in z)
      (leads_as s _ _ _ _ _ _ _ _ e (ap (along p m t s c') (let z : i - 8 + 2 * n ≡ i + 2 * n - 8 = omega arith in z)) (let z : i - 8 + 2 * n + 8 ≡ i + 2 * n = omega arith in z))

  fits : i - 8 + 2 * n + 8 ≤ length s
  fits = omega (arith, f.up_to, f.behind)

  pub leads_blocks_in : (B : List ℕ) (j : ℕ) → j + n ≤ longest → longest ≤ length B
      → Leads s (head p m (14 + 2 * j) w t) B i (along p m t s (14 + 2 * (j + n)) (i + 2 * n - 8)) (packed_into B j s (i - 8) n) (i + 2 * n)
  leads_blocks_in B j a k = from_behind (14 + 2 * j) (14 + 2 * (j + n)) B (packed_into B j s (i - 8) n) (many_in p m t s (i - 8) n B j f.far fits a k)

  pub leads_blocks_past : (B : List ℕ) (c : ℕ) → 726 ≤ c → Leads s (head p m c w t) B i (along p m t s (later_count n c) (i + 2 * n - 8)) B (i + 2 * n)
  leads_blocks_past B c a = from_behind c (later_count n c) B B (many_past p m t s (i - 8) n B c f.far fits a)

-- The nibbles that leave the window meanwhile, and the last eight; and behind them a loop stands at a window that is the run's own.
module _ {w : ℕ} {stray : Bool} {s : List ℕ} {i end n : ℕ} (f : FarOn w stray s i end n) where
  pub behind_small : NibblesFrom s (i - 8) (2 * n)
  behind_small x a b = f.far.small x a (omega arith)

  pub last_small : NibblesFrom s (i + 2 * n - 8) 8
  last_small x a b = let u = f.behind in f.far.small x (omega arith) (omega arith)

  pub stands_past : {from w' : ℕ} → Stands s from end w i → w' ≡ window_from s (i + 2 * n - 8) → Stands s from end w' (i + 2 * n)
  stands_past st e =
      record {
        small = omega (arith, e, window_small s (i + 2 * n - 8) last_small);
        from_on = omega (arith, st.from_on);
        up_to = f.up_to;
        within = st.within;
      }
