-- The tests of the definition, in its order.
use Rattle.std.proofs.Common.{◌≡◌, length, arith}
use Rattle.saved_setting.specs.SavedSettings.{saved_wanted}
use Rattle.saved_places.proofs.save_in.Goals as goal

pub returns-then-is_allowed : goal.returns-then-is_allowed
unfolding saved_wanted
returns-then-is_allowed c =
    let l : length c.args.places ≡ 8 = omega arith in
    record { answers = simp (c.save_next.ensures.answers, l, ← c.in_order.ensures, c.if-in_order.true, ← c.is_allowed.ensures, c.if-is_allowed.true, c.clip.ensures); leaves = simp (c.save_next.ensures.leaves, l, ← c.in_order.ensures, c.if-in_order.true, ← c.is_allowed.ensures, c.if-is_allowed.true, c.clip.ensures) }

pub returns-then-in_order : goal.returns-then-in_order
unfolding saved_wanted
returns-then-in_order c =
    let l : length c.args.places ≡ 8 = omega arith in
    record { answers = simp (c.refused.ensures.0, l, ← c.in_order.ensures, c.if-in_order.true, ← c.is_allowed.ensures, c.if-is_allowed.false); leaves = simp (c.refused.ensures.1, l, ← c.in_order.ensures, c.if-in_order.true, ← c.is_allowed.ensures, c.if-is_allowed.false) }

pub returns : goal.returns
unfolding saved_wanted
returns c =
    let l : length c.args.places ≡ 8 = omega arith in
    record { answers = simp (c.refused-2.ensures.0, l, ← c.in_order.ensures, c.if-in_order.false); leaves = simp (c.refused-2.ensures.1, l, ← c.in_order.ensures, c.if-in_order.false) }
