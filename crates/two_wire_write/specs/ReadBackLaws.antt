-- What is written from a list of pairs is read back: the messages set each listed register to the last value listed for it.
use Rattle.std.specs.Prelude.{◌≡◌, refl, false, cond, List, [], ◌∷◌, ℕ, ◌<◌, ◌≤◌, eqb, ltb, length, get_or}
use Rattle.std.proofs.Common.{ap, subst, ◌∙◌, arith, le-leb, ltb-false, eqb-true}
use Rattle.std.proofs.lemmas.Bool.{eqb-false}
use Rattle.lent_buffer.specs.Filled.{used}
use Rattle.two_wire.specs.declared.Sensor.{Sensor}
use Rattle.message_data.specs.Registers.{register_count, last_index, first_settable, next, put}
use Rattle.bits.specs.Tests.{or_left, or_right}
use Rattle.two_wire.specs.Messages.{Acceptance, accepted, refused, message_on, messages_on, message}
use Rattle.two_wire.specs.TwoWireLaws.{told, put_own, put_other, put_same, length_put, write_accepted}
use Rattle.two_wire_write.specs.Writing.{some_index_past, messages, write_of, in_threes, last_listed}
use Rattle.two_wire_write.specs.WritingLaws.{wrote_is, in_threes_lem}

put_listed : (registers : List ℕ) (i v r : ℕ) → first_settable ≤ r → r < length registers
    → get_or (put registers i v) r 0 ≡ cond (eqb i r) v (get_or registers r 0)
put_listed registers i v r h l =
    told (eqb i r)
    (λ t. let e : i ≡ r = eqb-true i r t in rw t (subst (λ (k : ℕ). get_or (put registers i v) k 0 ≡ v) e (put_same registers i v (omega arith) (omega arith))))
    (λ t. rw t (put_other registers i v r (eqb-false i r t)))

put_unlisted : (registers : List ℕ) (i v r : ℕ) → r < first_settable → get_or (put registers i v) r 0 ≡ get_or registers r 0
put_unlisted registers i v r h =
    told (eqb i r) (λ t. let e : i ≡ r = eqb-true i r t in ap (λ (l : List ℕ). get_or l r 0) (put_own registers i v (omega arith)))
    (λ t. put_other registers i v r (eqb-false i r t))

-- accepted, with each register from 5 up at the last value listed for it, or as it was, and the others as they were
abbrev pub SetAs : List ℕ → Sensor → Acceptance → Type 0
SetAs pairs before (refused n) = ⊥
SetAs pairs before (accepted after) =
    (length after.registers ≡ length before.registers)
    × ((r : ℕ) → first_settable ≤ r → r ≤ last_index → get_or after.registers r 0 ≡ last_listed r pairs (get_or before.registers r 0))
    × ((r : ℕ) → r < first_settable → get_or after.registers r 0 ≡ get_or before.registers r 0)

-- a pair set before the others
abbrev paired : Sensor → ℕ → ℕ → Sensor
paired s i v = record { registers = put s.registers i v; index = i; increment = false }

set_first : (s : Sensor) (i v : ℕ) (pairs : List ℕ) (o : Acceptance) → length s.registers ≡ register_count → SetAs pairs (paired s i v) o → SetAs (i ∷ v ∷ pairs) s o
set_first s i v pairs (refused n) count h = h
set_first s i v pairs (accepted after) count h = (
  h.0 ∙ length_put s.registers i v,
  λ r low high. h.1 r low high ∙ ap (last_listed r pairs) (put_listed s.registers i v r low (omega arith)),
  λ r own. h.2 r own ∙ put_unlisted s.registers i v r own,
)

pair_accepted : (s : Sensor) (i v : ℕ) → s.index ≤ last_index → i ≤ last_index → message_on s (message i v) ≡ accepted (paired s i v)
unfolding next
pair_accepted s i v held h = simp (le-leb i last_index h) at (write_accepted s false i (v ∷ []) held h (omega arith))

pairs_accepted : (pairs : List ℕ) (s : Sensor) → s.index ≤ last_index → length s.registers ≡ register_count → some_index_past pairs ≡ false
    → SetAs pairs s (messages_on (messages pairs) (accepted s))
pairs_accepted [] s held count p = (refl, λ r low high. refl, λ r own. refl)
pairs_accepted (i ∷ []) s held count p = (refl, λ r low high. refl, λ r own. refl)
pairs_accepted (i ∷ v ∷ pairs) s held count p =
    let h : i ≤ last_index = ltb-false last_index i (or_left (ltb last_index i) (some_index_past pairs) p) in
    rw (pair_accepted s i v held h)
    (set_first s i v pairs (messages_on (messages pairs) (accepted (paired s i v))) count
    (pairs_accepted pairs (paired s i v) h (length_put s.registers i v ∙ count) (or_right (ltb last_index i) (some_index_past pairs) p)))

-- reading what was written, from any state that is not answered 11
pub written_read_back : (s : Sensor) (pairs bytes : List ℕ) (room n : ℕ) → s.index ≤ last_index → length s.registers ≡ register_count
    → write_of pairs room ≡ used n bytes → SetAs pairs s (messages_on (in_threes bytes) (accepted s))
written_read_back s pairs bytes room n held count h =
    let w = wrote_is pairs bytes room n h in
    rw (w.1, in_threes_lem pairs) (pairs_accepted pairs s held count w.0)
