-- A run's outcome is read off its answer and the buffer lent to it, since that of each nibble is.
use mathlib.Core.Path.{refl, subst}
use mathlib.Core.Bool.{Bool, true, false, cond}
use mathlib.Core.List.{List, [], ◌∷◌}
use Prim.Native.Nat.{ℕ, ◌+◌}
use lib.Dec.{leb}
use Rattle.refusal.specs.Refusal.{not_a_nibble}
use Rattle.stream.specs.Answers.{refused, answer_for, is_answer}
use Rattle.mark_answer.specs.Sound.{Legible}
use Rattle.mark_answer.specs.SoundLaws.{legible}
use Rattle.reader.specs.declared.Reader.{Reader}
use Rattle.reader.specs.Reader.{Took, taking}
use Rattle.reader.specs.ReaderLaws.{take_profile, take_sound}
use Rattle.run.specs.Run.{ran, onward}

legible_onward : (w : List ℕ) (r : Reader) (i : ℕ) (buffer : List ℕ) → Legible r.head.profile buffer (onward r w i).outcome
legible_onward [] r i buffer = refl
legible_onward (n ∷ w) r i buffer =
    go (leb n 15) (is_answer (answer_for t.outcome))
    (subst (λ p. Legible p buffer (onward t.reader w (i + 1)).outcome) (take_profile r.head _ n) (legible_onward w t.reader (i + 1) buffer))
  where
    t : Took
    t = taking r n

    go : (a b : Bool) → Legible r.head.profile buffer (onward t.reader w (i + 1)).outcome
        → Legible r.head.profile buffer
        (cond a (cond b (ran t.reader t.outcome (i + 1)) (onward t.reader w (i + 1))) (ran r (refused not_a_nibble) i)).outcome
    go true true h = legible (take_sound r.head r.body n) buffer
    go true false h = h
    go false b h = refl

pub legible_run : (r : Reader) (w buffer : List ℕ) → Legible r.head.profile buffer (onward r w 0).outcome
legible_run r w buffer = legible_onward w r 0 buffer
