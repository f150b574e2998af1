-- A run nibble by nibble, as the loop takes it: what a turn brings, and what the run answers where it stops.
use mathlib.Core.Path.{◌≡◌, refl, sym, ap, ap₂, ◌∙◌}
use mathlib.Core.Bool.{true, false}
use mathlib.Core.List.{List}
use Prim.Native.Nat.{ℕ, ◌+◌, ◌≤◌, ◌<◌}
use lib.ListN.{length, get_or, drop}
use borrow.Author.Tests.{le-leb, lt-leb, eq-eqb, ne_eqb}
use Rattle.refusal.specs.Refusal.{not_a_nibble, bad_state, no_room}
use Rattle.profile.specs.declared.Profile.{Profile}
use Rattle.profile.specs.Profile.{body_length, longest}
use Rattle.stream.specs.declared.Answer.{Answer}
use Rattle.stream.specs.Answers.{Outcome, nothing, refused, outcome_of, answer_for, buffer_after, is_line, is_answer}
use Rattle.mark_answer.specs.Sound.{Legible}
use Rattle.reader_head.specs.declared.Head.{Head}
use Rattle.reader_head.specs.Head.{passes, leave_body}
use Rattle.reader.specs.Reader.{take_head, take_outcome, reader_of}
use Rattle.run.specs.Run.{Ran, ran, run_of, lent_run_of, onward}
use Rattle.run.specs.RunLaws.{onward_end, onward_above, onward_answered, onward_on}
use Rattle.run.specs.declared.RunStepped.{RunStepped}
use Rattle.run.specs.Gives.{RunGives, LentRunGives}
use Rattle.run.specs.Parts.{ran_from, Ends, Leads}

-- from one place to the next, and on
pub leads_here : (s : List ℕ) (h : Head) (B : List ℕ) (i : ℕ) → Leads s h B i h B i
unfolding Leads
leads_here s h B i = refl

pub leads_on : (s : List ℕ) (h : Head) (B : List ℕ) (i : ℕ) (h' : Head) (B' : List ℕ) (i' : ℕ) (h'' : Head) (B'' : List ℕ) (i'' : ℕ)
    → Leads s h B i h' B' i' → Leads s h' B' i' h'' B'' i'' → Leads s h B i h'' B'' i''
unfolding Leads
leads_on s h B i h' B' i' h'' B'' i'' e f = e ∙ f

-- a turn that brings no answer
pub leads_one : (s : List ℕ) (h : Head) (B : List ℕ) (i : ℕ) {h' : Head} {B' : List ℕ} → i < length s → get_or s i 0 < 16 → h' ≡ take_head h (is_line (take_outcome h B (get_or s i 0))) (get_or s i 0)
    → B' ≡ leave_body h B → is_answer (answer_for (take_outcome h B (get_or s i 0))) ≡ false → Leads s h B i h' B' (i + 1)
unfolding Leads
leads_one s h B i l g e f q =
    onward_on (reader_of h B) s i l g q ∙ ap₂ (λ a b. onward (reader_of a b) (drop (i + 1) s) (i + 1)) (sym e) (sym f)

-- where the run stops
module _ (s : List ℕ) (start : Head) (B₀ : List ℕ) (h : Head) (B : List ℕ) (i : ℕ) (e : Leads s start B₀ 0 h B i) where
  pub stops_end : length s ≤ i → ran_from start B₀ s ≡ ran (reader_of h B) nothing i
  unfolding Leads
  stops_end l = e ∙ onward_end (reader_of h B) s i l

  pub stops_above : i < length s → 15 < get_or s i 0 → ran_from start B₀ s ≡ ran (reader_of h B) (refused not_a_nibble) i
  unfolding Leads
  stops_above l g = e ∙ onward_above (reader_of h B) s i l g

  pub stops_answered : i < length s → get_or s i 0 < 16 → is_answer (answer_for (take_outcome h B (get_or s i 0))) ≡ true
      → ran_from start B₀ s ≡ ran (reader_of (take_head h (is_line (take_outcome h B (get_or s i 0))) (get_or s i 0)) (leave_body h B)) (take_outcome h B (get_or s i 0)) (i + 1)
  unfolding Leads
  stops_answered l g f = e ∙ onward_answered (reader_of h B) s i l g f

-- what the call then gives
pub ends : {t : Ran} {h : Head} {B : List ℕ} {o : Outcome} {i : ℕ} {a : Answer} {after : List ℕ} (before : List ℕ) → t ≡ ran (reader_of h B) o i → a ≡ answer_for o
    → after ≡ buffer_after o before → Ends t h B i a before after
ends before e f g =
    record {
      next = ap (λ (x : Ran). x.reader.head) (sym e);
      keeps = ap (λ (x : Ran). x.reader.body) (sym e);
      count = ap (λ (x : Ran). x.taken) (sym e);
      says = f ∙ ap (λ (x : Ran). answer_for x.outcome) (sym e);
      leaves = g ∙ ap (λ (x : Ran). buffer_after x.outcome before) (sym e);
    }

-- the same, where the head and the body are told by other names
pub ends_as : {t : Ran} {h h' : Head} {B B' : List ℕ} {i i' : ℕ} {a : Answer} {before after : List ℕ} → Ends t h B i a before after → h' ≡ h → B' ≡ B → i' ≡ i
    → Ends t h' B' i' a before after
ends_as e f g k = record { next = f ∙ e.next; keeps = g ∙ e.keeps; count = k ∙ e.count; says = e.says; leaves = e.leaves }

-- The tests before a run.

module _ (h : Head) (B s : List ℕ) (room : ℕ) where
  pub lent_wrong : (length B ≡ longest → ⊥) → lent_run_of h B s room ≡ ran (reader_of h B) (refused bad_state) 0
  unfolding lent_run_of
  lent_wrong e = simp (ne_eqb (length B) longest e)

  pub lent_right : length B ≡ longest → lent_run_of h B s room ≡ run_of (reader_of h B) s room
  unfolding lent_run_of
  lent_right e = simp (eq-eqb (length B) longest e)

  pub run_fails : passes h ≡ false → run_of (reader_of h B) s room ≡ ran (reader_of h B) (refused bad_state) 0
  unfolding run_of
  run_fails e = simp e

  pub run_short : passes h ≡ true → room < body_length h.profile → run_of (reader_of h B) s room ≡ ran (reader_of h B) (refused no_room) 0
  unfolding run_of
  run_short e l = simp (e, lt-leb (body_length h.profile) room l)

  pub run_goes : passes h ≡ true → body_length h.profile ≤ room → run_of (reader_of h B) s room ≡ ran_from h B s
  unfolding run_of
  run_goes e l = simp (e, le-leb (body_length h.profile) room l)

-- what a call gives that answers so: its outcome is read off its answer and the buffer
pub gives_lent : {p : Profile} {t u : Ran} {r : RunStepped} {B before after : List ℕ} → t ≡ u → Ends u r.head B r.taken r.answer before after
    → Legible p before u.outcome → LentRunGives p t r B before after
gives_lent {p} {before = before} q e read =
    record {
      next = e.next ∙ ap (λ (x : Ran). x.reader.head) (sym q);
      keeps = e.keeps ∙ ap (λ (x : Ran). x.reader.body) (sym q);
      count = e.count ∙ ap (λ (x : Ran). x.taken) (sym q);
      says = ap₂ (outcome_of p) e.says e.leaves ∙ read ∙ ap (λ (x : Ran). x.outcome) (sym q);
      leaves = e.leaves ∙ ap (λ (x : Ran). buffer_after x.outcome before) (sym q);
    }

pub refuses : {p : Profile} {t : Ran} {h : Head} {B : List ℕ} {k : ℕ} {r : RunStepped} (buffer : List ℕ) → t ≡ ran (reader_of h B) (refused k) 0
    → (r.head ≡ h) × (r.answer ≡ answer_for (refused k)) × (r.taken ≡ 0) → LentRunGives p t r B buffer buffer
refuses {h = h} {B = B} {k = k} buffer q e = gives_lent q (ends_as (ends {h = h} {B = B} buffer refl e.1 refl) e.0 refl e.2) refl

-- the same of a reader by value
pub by_value : {p : Profile} {t u : Ran} {r : RunStepped} {B before after : List ℕ} → t ≡ u → LentRunGives p t r B before after
    → RunGives p u (record { reader = reader_of r.head B; answer = r.answer; taken = r.taken }) before after
by_value {before = before} q e =
    record {
      next = ap₂ reader_of e.next e.keeps ∙ ap (λ (x : Ran). x.reader) q;
      count = e.count ∙ ap (λ (x : Ran). x.taken) q;
      says = e.says ∙ ap (λ (x : Ran). x.outcome) q;
      leaves = e.leaves ∙ ap (λ (x : Ran). buffer_after x.outcome before) q;
    }
