-- How an answer is reached.
use Rattle.std.specs.Prelude.{Bool, true, false, cond, None, Option, Some, Ok}
use mathlib.Core.Path.{◌≡◌, refl, sym, ap, ◌∙◌}
use mathlib.Core.List.{List}
use Prim.Native.Nat.{ℕ}
use Rattle.frame_judge.specs.declared.Judge.{Judge}
use Rattle.frame_judge.specs.declared.Judge.TheVariants.{Due}
use Rattle.frame_rows.specs.declared.Gatherer.{Gatherer}
use Rattle.frame_rows.specs.declared.Gathered.{Gathered}
use Rattle.frame_rows.specs.FrameRows.{AfterCall, Progress, Gathers, output_of, saying, row_kept, after_break}
use Rattle.frame_layout.specs.declared.Borders.{Borders}

pub gives : (o : AfterCall) (s : Gatherer) (p : Progress) (answer : Gathered) (after : List ℕ) → answer ≡ saying s p
    → o ≡ record { gatherer = s; output = output_of p after; buffer = after } → Gathers o answer after
gives o s p answer after e f =
    record {
      next = ap (λ (x : Gathered). x.gatherer) e ∙ sym (ap (λ (x : AfterCall). x.gatherer) f);
      says = ap (λ (x : Gathered). output_of x.progress after) e ∙ sym (ap (λ (x : AfterCall). x.output) f);
      leaves = sym (ap (λ (x : AfterCall). x.buffer) f);
    }

-- nothing said, by a gatherer that has moved
pub quietly : {moved s : Gatherer} {answer : Gathered} → answer ≡ saying moved (Ok None) → moved ≡ s → answer ≡ saying s (Ok None)
quietly e f = e ∙ ap (λ (x : Gatherer). saying x (Ok None)) f

-- a line that breaks a frame and leaves the judge in one has opened it
pub opens_anew : {j : Judge} {place : ℕ} {b : Option Borders} → j ≡ Due place b → (s : Gatherer) (kind : ℕ) (body buffer : List ℕ)
    → after_break s j kind body buffer ≡ row_kept s j 0 0 kind body buffer
unfolding after_break
opens_anew e s kind body buffer = ap (λ (j : Judge). after_break s j kind body buffer) e ∙ ap (λ (j : Judge). row_kept s j 0 0 kind body buffer) (sym e)

-- rows that end somewhere end after one that fits, and there; they end nowhere where it does not fit
pub fits : (t : Bool) {n end : ℕ} → Some end ≡ cond t (Some n) None → (t ≡ true) × (end ≡ n)
fits true e = (refl, cc)
fits false e = (cc, cc)

pub fits_not : (t : Bool) (n : ℕ) → ◌≡◌ {A = Option ℕ} None (cond t (Some n) None) → t ≡ false
fits_not true n e = cc
fits_not false n e = refl
