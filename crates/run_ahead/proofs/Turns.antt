-- What the turns of a part keep: in the body, where the next byte goes; and past it.
use mathlib.Core.Path.{◌≡◌, refl, ap, ◌∙◌}
use mathlib.Core.Bool.{Bool}
use mathlib.Core.List.{List}
use mathlib.Core.Logic.{◌⊎◌, inl, inr}
use Prim.Native.Nat.{ℕ, ◌+◌, ◌-◌, ◌*◌, ◌/◌, ◌%◌, ◌≤◌, ◌<◌}
use native.Mathlib.Omega.{arith}
use lib.ListN.{length, set, length-set}
use Rattle.profile.specs.declared.Profile.{Profile}
use Rattle.profile.specs.Profile.{longest}
use Rattle.stream.specs.declared.Mark.{Mark}
use Rattle.mark_text.specs.declared.Kept.{Kept}
use Rattle.reader_head.specs.Head.{bump}
use Rattle.reader_head.specs.HeadLaws.{bump_more}
use Rattle.run_ahead.specs.Ahead.{past_body}
use Rattle.run_ahead.specs.Parts.{Leads, byte_place, slide_byte, stray_after, strayed}
use Rattle.run_ahead.specs.Blocks.{FarOn, window_from, packed_into, later_count}
use Rattle.run_ahead.proofs.Pairs.{head, high, low, Stands, Turn, stands_next, leads_in, leads_past, leads_on}
use Rattle.run_ahead.proofs.Blocks.{packed_length, leads_blocks_in, leads_blocks_past, later_more, stands_past}

-- where the next byte goes: a place further for each pair, up to the body's end
pub record Placed (from end place j i : ℕ) : Type 0 where
  pub later : place ≤ j
  pub pairs : i ≡ from + 2 * (j - place)
  pub ends : end ≤ from + 2 * (longest - place)
  pub room : place ≤ longest

module _ {from end place j i : ℕ} (q : Placed from end place j i) where
  pub at_most : i ≤ end → j ≤ longest
  at_most l = omega (arith, q.later, q.pairs, q.ends, q.room)

  pub placed_on : (n : ℕ) → Placed from end place (j + n) (i + 2 * n)
  placed_on n = record { later = omega (arith, q.later); pairs = omega (arith, q.later, q.pairs); ends = q.ends; room = q.room }

  pub fits_in : (n : ℕ) → i + 2 * n ≤ end → j + n ≤ longest
  fits_in n l = omega (arith, q.later, q.pairs, q.ends, q.room)

  -- the part's own end, or the run's
  pub part_end : (s : List ℕ) → i ≤ end → (end ≡ length s) ⊎ (end ≡ from + 2 * (longest - place)) → (end ≡ length s) ⊎ (end + (14 + 2 * j) ≡ i + past_body)
  part_end s l (inl a) = inl a
  part_end s l (inr a) = inr (omega (arith, q.later, q.pairs, q.room, at_most l))

pub whole_bytes : (j : ℕ) → past_body % 2 ≡ (14 + 2 * j) % 2
whole_bytes j = omega arith

-- in the body, after some turns
pub record Filling
    (body₀ s : List ℕ) (from : ℕ) (profile : Profile) (at : Mark) (kept : Kept) (place end window₀ : ℕ) (stray₀ : Bool)
    (body : List ℕ) (window : ℕ) (stray : Bool) (j i wait : ℕ) : Type 0 where
  pub leads : Leads s (head profile at (14 + 2 * place) window₀ (strayed kept stray₀)) body₀ from (head profile at (14 + 2 * j) window (strayed kept stray)) body i
  pub stands : Stands s from end window i
  pub long : length body ≡ longest
  pub placed : Placed from end place j i
  pub waits : 0 < wait

module _ {body₀ s : List ℕ} {from : ℕ} {p : Profile} {at : Mark} {kept : Kept} {place end window₀ : ℕ} {stray₀ : Bool} {body : List ℕ} {window : ℕ} {stray : Bool} {j i wait : ℕ}
    (f : Filling body₀ s from p at kept place end window₀ stray₀ body window stray j i wait) where
  -- a pair more
  pub filled_pair : Turn s from end window i → {b w : ℕ} {y : Bool} → b ≡ window / byte_place → w ≡ slide_byte window (high s i) (low s i) → y ≡ stray_after stray b
      → Filling body₀ s from p at kept place end window₀ stray₀ (set body j b) w y (j + 1) (i + 2) 1
  filled_pair t {b} {w} {y} eb ew ey =
      let room : j + 1 ≤ longest = fits_in f.placed 1 t.fits in
      record {
        leads = simp (ew, ey, eb)
            (leads_on _ _ _ _ _ _ _ _ _ _ f.leads (leads_in p at (14 + 2 * j) (strayed kept stray) body t j _ refl (omega (arith, room)) (omega (arith, f.long)) refl));
        stands = stands_next t ew;
        long = simp length-set f.long;
        placed = placed_on f.placed 1;
        waits = omega arith;
      }

  -- blocks more
  pub filled_blocks : {n : ℕ} → FarOn window stray s i end n → {body' : List ℕ} {w : ℕ} → body' ≡ packed_into body j s (i - 8) n → w ≡ window_from s (i + 2 * n - 8)
      → Filling body₀ s from p at kept place end window₀ stray₀ body' w stray (j + n) (i + 2 * n) wait
  filled_blocks {n} far {body'} {w} eb ew =
      let many = leads_blocks_in p at (strayed kept stray) far f.stands.within body j (fits_in f.placed n far.up_to) (omega (arith, f.long)) in
      record {
        leads = simp (ew, eb) (leads_on _ _ _ _ _ _ _ _ _ _ f.leads many);
        stands = stands_past far f.stands ew;
        long = ap length eb ∙ packed_length body j s (i - 8) n ∙ f.long;
        placed = placed_on f.placed n;
        waits = f.waits;
      }

  -- some turns more to wait
  pub filled_waiting : {n : ℕ} → 0 < n → Filling body₀ s from p at kept place end window₀ stray₀ body window stray j i n
  filled_waiting h = record { leads = f.leads; stands = f.stands; long = f.long; placed = f.placed; waits = h }

-- past the body, after some turns
pub record Passing
    (s : List ℕ) (from : ℕ) (profile : Profile) (at : Mark) (kept : Kept) (end count₀ window₀ : ℕ) (stray₀ : Bool)
    (count window : ℕ) (stray : Bool) (i wait : ℕ) : Type 0 where
  pub leads : (B : List ℕ) → Leads s (head profile at count₀ window₀ (strayed kept stray₀)) B from (head profile at count window (strayed kept stray)) B i
  pub stands : Stands s from end window i
  pub late : 726 ≤ count
  pub waits : 0 < wait

module _ {s : List ℕ} {from : ℕ} {p : Profile} {at : Mark} {kept : Kept} {end count₀ window₀ : ℕ} {stray₀ : Bool} {count window : ℕ} {stray : Bool} {i wait : ℕ}
    (f : Passing s from p at kept end count₀ window₀ stray₀ count window stray i wait) where
  -- a pair more
  pub passed_pair : Turn s from end window i → {m n w : ℕ} {b : ℕ} {y : Bool} → b ≡ window / byte_place → w ≡ slide_byte window (high s i) (low s i) → y ≡ stray_after stray b
      → m ≡ bump count → n ≡ bump m → Passing s from p at kept end count₀ window₀ stray₀ n w y (i + 2) 1
  passed_pair t {m} {n} {w} {b} {y} eb ew ey em en =
      record {
        leads = λ B. simp (ew, ey, eb, en, em) (leads_on _ _ B _ _ B _ _ B _ (f.leads B) (leads_past p at count (strayed kept stray) B t f.late));
        stands = stands_next t ew;
        late = omega (arith, en, em, f.late, bump_more count, bump_more m);
        waits = omega arith;
      }

  -- blocks more
  pub passed_blocks : {n : ℕ} → FarOn window stray s i end n → {m w : ℕ} → m ≡ later_count n count → w ≡ window_from s (i + 2 * n - 8)
      → Passing s from p at kept end count₀ window₀ stray₀ m w stray (i + 2 * n) wait
  passed_blocks {n} far {m} {w} em ew =
      record {
        leads = λ B. simp (ew, em) (leads_on _ _ B _ _ B _ _ B _ (f.leads B) (leads_blocks_past p at (strayed kept stray) far f.stands.within B count f.late));
        stands = stands_past far f.stands ew;
        late = omega (arith, em, f.late, later_more n count);
        waits = f.waits;
      }

  -- some turns more to wait
  pub passed_waiting : {n : ℕ} → 0 < n → Passing s from p at kept end count₀ window₀ stray₀ count window stray i n
  passed_waiting h = record { leads = f.leads; stands = f.stands; late = f.late; waits = h }
