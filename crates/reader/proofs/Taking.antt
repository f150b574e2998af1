-- A nibble with the body lent: what each test before it brings; and feeding, which asks the reader's own test first.
use mathlib.Core.Path.{◌≡◌, refl, sym, ap, ap₂, subst, ◌∙◌}
use mathlib.Core.Bool.{true, false}
use mathlib.Core.List.{List}
use Prim.Native.Nat.{ℕ, ◌≤◌, ◌<◌}
use lib.ListN.{length}
use borrow.Author.Tests.{eq-eqb, ne_eqb, le-leb, lt-leb}
use Rattle.refusal.specs.Refusal.{not_a_nibble, bad_state, no_room}
use Rattle.profile.specs.declared.Profile.{Profile}
use Rattle.profile.specs.Profile.{body_length, longest}
use Rattle.stream.specs.Answers.{outcome_of, answer_for, buffer_after, refused}
use Rattle.mark_answer.specs.Sound.{Legible}
use Rattle.reader.specs.declared.Reader.{Reader}
use Rattle.reader.specs.declared.Stepped.{Stepped}
use Rattle.reader_head.specs.Head.{passes}
use Rattle.reader.specs.Reader.{Took, refusing, taking, take_of, feed_of, reader_of}
use Rattle.reader.specs.Gives.{FeedGives, TakeGives}

module _ (r : Reader) (n room : ℕ) where
  pub take_wrong : (length r.body ≡ longest → ⊥) → take_of r n room ≡ refusing r bad_state
  unfolding take_of
  take_wrong e = simp (ne_eqb (length r.body) longest e)

  pub take_above : length r.body ≡ longest → 15 < n → take_of r n room ≡ refusing r not_a_nibble
  unfolding take_of
  take_above e g = simp (eq-eqb (length r.body) longest e, lt-leb n 15 g)

  pub take_short : length r.body ≡ longest → n ≤ 15 → room < body_length r.head.profile → take_of r n room ≡ refusing r no_room
  unfolding take_of
  take_short e g h = simp (eq-eqb (length r.body) longest e, le-leb n 15 g, lt-leb (body_length r.head.profile) room h)

  pub take_goes : length r.body ≡ longest → n ≤ 15 → body_length r.head.profile ≤ room → take_of r n room ≡ taking r n
  unfolding take_of
  take_goes e g h = simp (eq-eqb (length r.body) longest e, le-leb n 15 g, le-leb (body_length r.head.profile) room h)

-- what a call gives is what it gives by any equal account
pub gives_as : {t u : Took} {s : Stepped} {body before after : List ℕ} → t ≡ u → TakeGives t s body before after → TakeGives u s body before after
gives_as {s = s} {body} {before} {after} q e = subst (λ (t : Took). TakeGives t s body before after) q e

-- a refusal changes neither the body nor the buffer
pub refuses : {t : Took} (r : Reader) {k : ℕ} {s : Stepped} (buffer : List ℕ) → t ≡ refusing r k → (s.head ≡ r.head) × (s.answer ≡ answer_for (refused k))
    → TakeGives t s r.body buffer buffer
refuses r buffer q e = gives_as (sym q) (record { next = e.0; keeps = refl; says = e.1; leaves = refl })

-- Feeding.

module _ (r : Reader) (n room : ℕ) where
  pub feed_goes : passes r.head ≡ true → length r.body ≡ longest → feed_of r n room ≡ take_of r n room
  unfolding feed_of take_of
  feed_goes e h = simp (e, eq-eqb (length r.body) longest h)

  pub feed_fails : passes r.head ≡ false → feed_of r n room ≡ refusing r bad_state
  unfolding feed_of
  feed_fails e = simp e

-- a reader that passes is fed as a nibble is taken with its body lent; its outcome is read off the answer and the buffer
pub feeds : {p : Profile} {t u : Took} {s : Stepped} {body before after : List ℕ} → t ≡ u → TakeGives u s body before after
    → Legible p before t.outcome
    → FeedGives p t (record { reader = reader_of s.head body; answer = s.answer }) before after
feeds {p} {before = before} q e read =
    let says = e.says ∙ ap (λ (t : Took). answer_for t.outcome) (sym q) in
    let leaves = e.leaves ∙ ap (λ (t : Took). buffer_after t.outcome before) (sym q) in
    record { next = ap₂ reader_of e.next e.keeps ∙ ap (λ (t : Took). t.reader) (sym q); says = ap₂ (outcome_of p) says leaves ∙ read; leaves = leaves }

pub feed_refuses : {p : Profile} {t : Took} (r : Reader) {k : ℕ} (buffer : List ℕ) → t ≡ refusing r k
    → FeedGives p t (record { reader = r; answer = answer_for (refused k) }) buffer buffer
feed_refuses r buffer q =
    record {
      next = ap (λ (t : Took). t.reader) (sym q);
      says = ap (λ (t : Took). t.outcome) (sym q);
      leaves = ap (λ (t : Took). buffer_after t.outcome buffer) (sym q);
    }
