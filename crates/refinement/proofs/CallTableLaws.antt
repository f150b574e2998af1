-- What a feeding call and finish do is the table's, and the table has no other: the tests stand in its order.
use Rattle.std.specs.Prelude.{◌≡◌, Bool, cond, ◌↔◌, ℕ}
use Rattle.std.proofs.Math.Path.{refl}
use Rattle.std.proofs.Common.{subst}
use Rattle.std.proofs.Math.Bool.{true, false}
use Rattle.std.proofs.Math.Dec.{leb}
use borrow.Author.Tests.{leb-true, leb-false, le-leb, lt-leb}
use Rattle.refusal.specs.Refusal.{not_a_nibble, bad_state, no_room}
use Rattle.profile.specs.Profile.{body_length}
use Rattle.reader.specs.declared.Reader.{Reader}
use Rattle.reader_head.specs.Head.{passes}
use Rattle.reader.specs.Reader.{Took, refusing, taking, feed_of, finish_of}
use Rattle.reader_laws.specs.Passing.{finished}
use Rattle.refinement.specs.CallTable.{FeedTable, bad_state_lem, not_a_nibble_lem, no_room_lem, taken, FinishTable, finish_bad, finish_good}

module _ (r : Reader) (n room : ℕ) where
  feed_table_lem : FeedTable r n room (feed_of r n room)
  unfolding feed_of
  feed_table_lem = go (passes r.head) (leb n 15) (leb (body_length r.head.profile) room) refl refl refl
    where
      go : (a b c : Bool) → passes r.head ≡ a → leb n 15 ≡ b → leb (body_length r.head.profile) room ≡ c
          → FeedTable r n room (cond a (cond b (cond c (taking r n) (refusing r no_room)) (refusing r not_a_nibble)) (refusing r bad_state))
      go false b c e f g = bad_state_lem e
      go true false c e f g = not_a_nibble_lem e (leb-false n 15 f)
      go true true false e f g = no_room_lem e (leb-true n 15 f) (leb-false (body_length r.head.profile) room g)
      go true true true e f g = taken e (leb-true n 15 f) (leb-true (body_length r.head.profile) room g)

  feed_only : (t : Took) → FeedTable r n room t → feed_of r n room ≡ t
  unfolding feed_of
  feed_only t (bad_state_lem e) = simp e
  feed_only t (not_a_nibble_lem e l) = simp (e, lt-leb _ _ l)
  feed_only t (no_room_lem e l m) = simp (e, le-leb n 15 l, lt-leb _ _ m)
  feed_only t (taken e l m) = simp (e, le-leb n 15 l, le-leb _ _ m)

  -- a feeding call does exactly what the table says
  pub feeds_by_table : (t : Took) → (feed_of r n room ≡ t) ↔ FeedTable r n room t
  feeds_by_table t = (λ e. subst (FeedTable r n room) e feed_table_lem, feed_only t)

finish_table_lem : (r : Reader) → FinishTable r (finish_of r)
unfolding finish_of
finish_table_lem r = go (passes r.head) refl
  where
    go : (a : Bool) → passes r.head ≡ a → FinishTable r (cond a (finished r) (refusing r bad_state))
    go false e = finish_bad e
    go true e = finish_good e

finish_only : (r : Reader) (t : Took) → FinishTable r t → finish_of r ≡ t
unfolding finish_of
finish_only r t (finish_bad e) = simp e
finish_only r t (finish_good e) = simp e

-- and so does finish
pub finishes_by_table : (r : Reader) (t : Took) → (finish_of r ≡ t) ↔ FinishTable r t
finishes_by_table r t = (λ e. subst (FinishTable r) e (finish_table_lem r), finish_only r t)
