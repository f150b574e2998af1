-- Texts in which no F F F F 0 0 stands, because no four F stand in a row: number and body of every line as written.
-- Nibbles that keep a text so bring no mark.
use Rattle.std.specs.Prelude.{◌≡◌, refl, Bool, true, false, ◌&&◌, cond, List, [], ◌∷◌, ℕ, zero, suc, ◌/◌, ◌%◌, ◌≤◌, ◌<◌, eqb, leb, ltb, replicate}
use Rattle.std.proofs.Common.{ap, sym, subst, true≢false, not-suc-le-zero, le_of_suc-le-suc, arith, ltb-true, ltb-false, leb-true, eqb-true, ne_eqb}
use Rattle.std.proofs.Math.Option.{Option, none}
use Rattle.bits.specs.Every.{and_left, and_right}
use Rattle.line_code.specs.declared.Kind.{Kind}
use Rattle.line_code.specs.declared.Kind.TheVariants.{BL, BK, VL, SOF, EOF}
use Rattle.line_number.specs.LineNumber.{number_byte}
use Rattle.profile.specs.declared.Profile.{Profile}
use Rattle.profile.specs.declared.Profile.TheVariants.{VV5404, VV5300}
use Rattle.profile.specs.declared.Rule.{Rule}
use Rattle.profile.specs.declared.Rule.TheVariants.{Filler, Pixel, Any}
use Rattle.profile.specs.Profile.{filler_byte}
use Rattle.profile.specs.Layout.{is_pixel, allows, fits, rules}
use Rattle.stream.specs.declared.Mark.{Mark}
use Rattle.stream.specs.Answers.{Outcome, nothing}
use Rattle.stream.specs.Stream.{group, strip, Completed, not_yet, mark_if, detect, advance, run, outcomes}
use Rattle.stream.specs.Written.{Sent, Writable, nibbles, content}
use Rattle.line_number.specs.LineNumberLaws.{byte_small}
use Rattle.recovery.specs.Marks.{onto}
use Rattle.recovery.specs.MarksLaws.{strip_none}
use Rattle.recovery.specs.Collected.{nothings}
use Rattle.recovery.specs.Resync.{state_with}
use Rattle.recovery.specs.MarkFree.{Lengthens, spaced_out}

-- Nibbles that bring no mark.

-- no F F F F 0 0 stands anywhere in the text
pub data NoGroup : List ℕ → Type 0 where
  no_group_empty : NoGroup []
  no_group_more : {n : ℕ} {t : List ℕ} → strip group (n ∷ t) ≡ none → NoGroup t → NoGroup (n ∷ t)

no_group_here : {t : List ℕ} → NoGroup t → strip group t ≡ none
no_group_here no_group_empty = refl
no_group_here (no_group_more h g) = h

pub no_group_older : {n : ℕ} {t : List ℕ} → NoGroup (n ∷ t) → NoGroup t
no_group_older (no_group_more h g) = g

pub no_group_onto : (t w : List ℕ) → NoGroup (onto t w) → NoGroup t
no_group_onto t [] h = h
no_group_onto t (n ∷ w) h = no_group_older (no_group_onto (n ∷ t) w h)

pub none_completed : (n : ℕ) {t : List ℕ} → NoGroup t → detect (n ∷ t) ≡ not_yet
none_completed n no_group_empty = refl
none_completed n (no_group_more {n = x} h g) = ap (mark_if x n) (no_group_here g)

pub no_mark : (p : Profile) (m : Mark) (t w : List ℕ) → NoGroup (onto t w) → Lengthens p m t w
no_mark p m t [] h = record { state = refl; told = refl }
no_mark p m t (n ∷ w) h =
    let r = no_mark p m (n ∷ t) w h in
    let e = sym (none_completed n (no_group_older (no_group_onto (n ∷ t) w h))) in
    record {
      state = subst (λ (d : Completed). run p (advance p m (n ∷ t) d).state w ≡ state_with m (onto (n ∷ t) w)) e r.state;
      told =
          subst (λ (d : Completed). ◌≡◌ {A = List Outcome} ((advance p m (n ∷ t) d).outcome ∷ outcomes p (advance p m (n ∷ t) d).state w) (nothing ∷ nothings w)) e
          (ap {B = List Outcome} (λ l. nothing ∷ l) r.told);
    }

-- Texts with few F.

-- no four F stand in a row in the text, and at most r at its newest end (r up to 3)
pub data FewF : ℕ → List ℕ → Type 0 where
  few_empty : {r : ℕ} → FewF r []
  few_other : (n : ℕ) {r : ℕ} {t : List ℕ} → n < 15 → FewF 3 t → FewF r (n ∷ t)
  few_any : {r n : ℕ} {t : List ℕ} → FewF r t → FewF (suc r) (n ∷ t)

pub few_up : {r : ℕ} {t : List ℕ} (q : ℕ) → r ≤ q → FewF r t → FewF q t
few_up q h few_empty = few_empty
few_up q h (few_other n l f) = few_other n l f
few_up zero h (few_any f) = absurd (not-suc-le-zero h)
few_up (suc q) h (few_any f) = few_any (few_up q (le_of_suc-le-suc h) f)

few_older : {r n : ℕ} {t : List ℕ} → r ≤ 3 → FewF r (n ∷ t) → FewF 3 t
few_older h (few_other n l f) = f
few_older h (few_any {r = r} f) = few_up 3 (omega arith) f

pub strip_wrong : (n x : ℕ) (o : Option (List ℕ)) → (n ≡ x → ⊥) → cond (eqb n x) o none ≡ none
strip_wrong n x o h = ap (λ (b : Bool). cond b o none) (ne_eqb n x h)

-- not more F than r
not_more : {r : ℕ} {t : List ℕ} (k : ℕ) → FewF r t → r < k → strip (replicate k 15) t ≡ none
not_more zero f h = absurd (not-suc-le-zero h)
not_more (suc k) few_empty h = refl
not_more (suc k) (few_other n l f) h = strip_wrong 15 n _ (λ e. omega arith)
not_more (suc k) (few_any {n = n} f) h = strip_none (eqb 15 n) _ (not_more k f (le_of_suc-le-suc h))

few_here : (n : ℕ) (t : List ℕ) → FewF 3 t → strip group (n ∷ t) ≡ none
few_here n [] f = strip_none (eqb 0 n) _ refl
few_here n (x ∷ t) f = strip_none (eqb 0 n) _ (strip_none (eqb 0 x) _ (not_more 4 (few_older (omega arith) f) (omega arith)))

pub few_no_group : (t : List ℕ) → FewF 3 t → NoGroup t
few_no_group [] f = no_group_empty
few_no_group (n ∷ t) f = let g = few_older (omega arith) f in no_group_more (few_here n t g) (few_no_group t g)

-- Bytes.

-- a byte but FF
pub few_pixel : (b : ℕ) {t : List ℕ} → b ≤ 254 → FewF 1 t → FewF 1 (b % 16 ∷ b / 16 ∷ t)
few_pixel b {t} h f = go (ltb (b % 16) 15) refl
  where
    go : (x : Bool) → ltb (b % 16) 15 ≡ x → FewF 1 (b % 16 ∷ b / 16 ∷ t)
    go true e = few_other (b % 16) (ltb-true (b % 16) 15 e) (few_any (few_up 2 (omega arith) f))
    go false e = let l = ltb-false (b % 16) 15 e in few_any (few_other (b / 16) (omega arith) (few_up 3 (omega arith) f))

-- the filler, and a number byte: whatever stands before
few_filler : (b : ℕ) {t : List ℕ} → b ≡ filler_byte → FewF 3 t → FewF 1 (b % 16 ∷ b / 16 ∷ t)
few_filler b h f = few_other (b % 16) (omega arith) (few_other (b / 16) (omega arith) f)

few_number : (b : ℕ) {t : List ℕ} → b < 128 → FewF 3 t → FewF 1 (b % 16 ∷ b / 16 ∷ t)
few_number b h f = few_any (few_other (b / 16) (omega arith) f)

-- Bodies.

pub rules_spaced : (p : Profile) (k : Kind) → spaced_out (rules p k) ≡ true
rules_spaced VV5404 BL = refl
rules_spaced VV5404 BK = refl
rules_spaced VV5404 VL = refl
rules_spaced VV5404 SOF = refl
rules_spaced VV5404 EOF = refl
rules_spaced VV5300 BL = refl
rules_spaced VV5300 BK = refl
rules_spaced VV5300 VL = refl
rules_spaced VV5300 SOF = refl
rules_spaced VV5300 EOF = refl

-- a body that such rules allow
few_body : (rs : List Rule) → spaced_out rs ≡ true → (bs : List ℕ) → fits rs bs ≡ true → {t : List ℕ} → FewF 1 t → FewF 3 (onto t (nibbles bs))
few_body [] a [] h f = few_up 3 (omega arith) f
few_body [] a (b ∷ bs) h f = absurd (true≢false (sym h))
few_body (r ∷ rs) a [] h f = absurd (true≢false (sym h))
few_body (Filler ∷ rs) a (b ∷ bs) h f =
    few_body rs a bs (and_right (eqb b filler_byte) (fits rs bs) h)
    (few_filler b (eqb-true b filler_byte (and_left (eqb b filler_byte) (fits rs bs) h)) (few_up 3 (omega arith) f))
few_body (Pixel ∷ rs) a (b ∷ bs) h f =
    let k = and_left (is_pixel b) (fits rs bs) h in
    few_body rs a bs (and_right (is_pixel b) (fits rs bs) h) (few_pixel b (leb-true b 254 (and_right (leb 1 b) (leb b 254) k)) f)
few_body (Any ∷ []) a (b ∷ bs) h f = absurd (true≢false (sym a))
few_body (Any ∷ Pixel ∷ rs) a (b ∷ bs) h f = absurd (true≢false (sym a))
few_body (Any ∷ Any ∷ rs) a (b ∷ bs) h f = absurd (true≢false (sym a))
few_body (Any ∷ Filler ∷ rs) a (b ∷ []) h f = absurd (true≢false (sym (and_right (allows Any b) false h)))
few_body (Any ∷ Filler ∷ rs) a (b ∷ d ∷ bs) h f =
    let k = and_right (allows Any b) (eqb d filler_byte && fits rs bs) h in
    few_body rs a bs (and_right (eqb d filler_byte) (fits rs bs) k)
    (few_filler d (eqb-true d filler_byte (and_left (eqb d filler_byte) (fits rs bs) k)) (few_any (few_any f)))

-- Lines.

-- a mark's text when its code and a line's number and body have come in
abbrev pub line_text : ℕ → Sent → List ℕ
line_text c s = onto (c % 16 ∷ c / 16 ∷ []) (content s)

-- after any code but FF
pub few_line : (p : Profile) (s : Sent) → Writable p s → (c : ℕ) → c ≤ 254 → FewF 3 (line_text c s)
few_line p s g c h =
    few_body (rules p s.kind) (rules_spaced p s.kind) s.body g.body_fits
    (few_number (number_byte (s.number % 64)) (byte_small (s.number % 64) (omega arith))
    (few_up 3 (omega arith)
    (few_number (number_byte (s.number / 64)) (byte_small (s.number / 64) (omega (arith, g.number_small)))
    (few_up 3 (omega arith) (few_pixel c h few_empty)))))

-- number and body of a written line, after a mark's code other than FF, bring no mark
pub no_inner_mark : (p : Profile) (s : Sent) → Writable p s → (m : Mark) (c : ℕ) → c ≤ 254 → Lengthens p m (c % 16 ∷ c / 16 ∷ []) (content s)
no_inner_mark p s g m c h = no_mark p m (c % 16 ∷ c / 16 ∷ []) (content s) (few_no_group (line_text c s) (few_line p s g c h))
