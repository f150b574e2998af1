-- Laws of the two-wire messages: what calls leave is never answered 11; a read made of the state itself is accepted; what a message
-- writes is read back.
use Rattle.std.specs.Prelude.{◌≡◌, Bool, true, false, cond, List, [], ◌∷◌, ◌++◌, ℕ, zero, suc, ◌+◌, ◌-◌, ◌<◌, ◌≤◌, eqb, leb, ltb, length, get_or, set}
use Rattle.std.proofs.Math.Path.{refl}
use Rattle.std.proofs.Common.{sym, ap, ◌∙◌, arith, lit≤, length-set, get_or-set_same, get_or-set_other}
use borrow.Author.Tests.{lt-ltb, le-ltb, le-leb, lt-leb, eq-eqb, leb-true, ltb-true, ltb-false}
use Rattle.two_wire.specs.declared.Sensor.{Sensor}
use Rattle.message_data.specs.Registers.{register_count, last_index, first_settable, next, runs_past, reached, left, put, stored, differs, some_differs}
use Rattle.message_data.specs.RegisterLaws.{runs_past_counts, runs_past_still, reached_counts, reached_still}
use Rattle.two_wire.specs.Messages.{write_address, read_address, increment_bit, index_byte, index_in, increment_in, Acceptance, accepted, refused, refuse_if, write_data, read_data, read_back, addressed, laid_out, message_on, messages_on, contents, read_message, behind}

-- a test's two sides
pub told : (t : Bool) {P : Type 0} → (t ≡ true → P) → (t ≡ false → P) → P
told true p q = p refl
told false p q = q refl

-- One register.

module _ (registers : List ℕ) (i b : ℕ) where
  pub put_own : i < first_settable → put registers i b ≡ registers
  unfolding put
  put_own h = simp (lt-ltb i first_settable h)

  put_set : first_settable ≤ i → put registers i b ≡ set registers i b
  unfolding put
  put_set h = simp (le-ltb i first_settable h)

  pub length_put : length (put registers i b) ≡ length registers
  length_put =
      told (ltb i first_settable) (λ t. ap length (put_own (ltb-true i first_settable t)))
      (λ t. ap length (put_set (ltb-false i first_settable t)) ∙ length-set registers i b)

  pub put_other : (r : ℕ) → (i ≡ r → ⊥) → get_or (put registers i b) r 0 ≡ get_or registers r 0
  put_other r d =
      told (ltb i first_settable) (λ t. ap (λ (l : List ℕ). get_or l r 0) (put_own (ltb-true i first_settable t)))
      (λ t. ap (λ (l : List ℕ). get_or l r 0) (put_set (ltb-false i first_settable t)) ∙ get_or-set_other registers i r b 0 (λ e. d (sym e)))

  pub put_same : first_settable ≤ i → i < length registers → get_or (put registers i b) i 0 ≡ b
  put_same h l = ap (λ (k : List ℕ). get_or k i 0) (put_set h) ∙ get_or-set_same registers i b 0 l

-- a byte that is its register's own value does not differ
own_alike : (registers : List ℕ) (i b : ℕ) → (first_settable ≤ i → get_or registers i 0 ≡ b) → differs registers i b ≡ false
unfolding differs
own_alike registers i b h =
    told (ltb i first_settable) (λ t. simp t)
    (λ t. told (ltb last_index i) (λ u. simp (t, u)) (λ u. simp (t, u, eq-eqb _ _ (h (ltb-false i first_settable t)))))

-- What a message leaves.

-- a state that is not answered 11, with as many registers as before
abbrev pub Kept : ℕ → Acceptance → Type 0
Kept count (accepted t) = (t.index ≤ last_index) × (length t.registers ≡ count)
Kept count (refused n) = Unit {0}

kept_refuse : (count : ℕ) (t : Bool) (n : ℕ) (o : Acceptance) → Kept count o → Kept count (refuse_if t n o)
unfolding refuse_if
kept_refuse count true n o h = tt
kept_refuse count false n o h = h

left_held : (i : ℕ) → left i ≤ last_index
left_held i = told (leb i last_index) (λ t. rw t (leb-true i last_index t)) (λ t. rw t (lit≤ tt))

length_stored : (increment : Bool) (i : ℕ) (bytes registers : List ℕ) → length (stored increment i bytes registers) ≡ length registers
length_stored increment i [] registers = refl
length_stored increment i (b ∷ bytes) registers = length_stored increment (next increment i) bytes (put registers i b) ∙ length_put registers i b

kept_write : (s : Sensor) (increment : Bool) (i : ℕ) (bytes : List ℕ) → Kept (length s.registers) (write_data s increment i bytes)
unfolding write_data
kept_write s increment i bytes =
    kept_refuse _ (runs_past increment i bytes) _ _ (left_held (reached increment i bytes), length_stored increment i bytes s.registers)

kept_read : (s : Sensor) (second : ℕ) (bytes : List ℕ) → Kept (length s.registers) (read_back s second bytes)
unfolding read_back read_data
kept_read s second bytes =
    kept_refuse _ _ _ _
    (kept_refuse _ (some_differs s.increment s.index bytes s.registers) _ _
    (kept_refuse _ (runs_past s.increment s.index bytes) _ _ (left_held (reached s.increment s.index bytes), refl)))

kept_addressed : (s : Sensor) (address second : ℕ) (bytes : List ℕ) → Kept (length s.registers) (addressed s address second bytes)
unfolding addressed
kept_addressed s address second bytes =
    told (eqb address write_address) (λ t. rw t (kept_write s _ _ bytes))
    (λ t. told (eqb address read_address) (λ u. rw (t, u) (kept_read s second bytes)) (λ u. rw (t, u) tt))

kept_laid : (s : Sensor) (bytes : List ℕ) → Kept (length s.registers) (laid_out s bytes)
kept_laid s [] = tt
kept_laid s (address ∷ []) = tt
kept_laid s (address ∷ second ∷ bytes) = kept_addressed s address second bytes

-- from any state, and so from a fresh one and from there on
pub message_keeps : (s : Sensor) (bytes : List ℕ) → Kept (length s.registers) (message_on s bytes)
unfolding message_on
message_keeps s bytes = kept_refuse _ _ _ _ (kept_laid s bytes)

-- A read made of the state itself.

contents_alike : (increment : Bool) (i : ℕ) (registers : List ℕ) (n : ℕ) → some_differs increment i (contents increment i registers n) registers ≡ false
contents_alike increment i registers zero = refl
contents_alike increment i registers (suc n) =
    rw (own_alike registers i (get_or registers i 0) (λ h. refl)) (contents_alike increment (next increment i) registers n)

contents_length : (increment : Bool) (i : ℕ) (registers : List ℕ) (n : ℕ) → length (contents increment i registers n) ≡ n
contents_length increment i registers zero = refl
contents_length increment i registers (suc n) = ap suc (contents_length increment (next increment i) registers n)

-- data within the registers, and where it ends
fitting : (increment : Bool) (i : ℕ) (bytes : List ℕ) → i ≤ last_index → cond increment (i + length bytes) i ≤ register_count
    → (runs_past increment i bytes ≡ false) × (reached increment i bytes ≡ cond increment (i + length bytes) i)
fitting true i bytes h l = (runs_past_counts i bytes (omega arith) ∙ le-ltb (register_count - i) (length bytes) (omega arith), reached_counts i bytes)
fitting false i bytes h l = (runs_past_still i bytes h, reached_still i bytes)

-- a read with the index and the flag held, and data that does not differ
module _ (s : Sensor) (bytes : List ℕ) (held : s.index ≤ last_index) where
  read_accepted : some_differs s.increment s.index bytes s.registers ≡ false
      → cond s.increment (s.index + length bytes) s.index ≤ register_count
      → message_on s (read_address ∷ index_byte s.increment s.index ∷ bytes)
      ≡ accepted (record { registers = s.registers; index = left (cond s.increment (s.index + length bytes) s.index); increment = s.increment })
  unfolding message_on refuse_if addressed read_back read_data
  read_accepted a l =
      let f = fitting s.increment s.index bytes held l in
      simp (le-leb s.index last_index held, eq-eqb (index_byte s.increment s.index) _ refl, a, f.0, f.1)

-- it is accepted, and changes only the index, as increment says
pub state_read : (s : Sensor) (n : ℕ) → s.index ≤ last_index → behind s n ≤ register_count
    → message_on s (read_message s n) ≡ accepted (record { registers = s.registers; index = left (behind s n); increment = s.increment })
state_read s n held l =
    let e = contents_length s.increment s.index s.registers n in
    let r = read_accepted s (contents s.increment s.index s.registers n) held (contents_alike s.increment s.index s.registers n) in
    simp e at (r (rw e l))

-- What a message writes is read back.

index_in_lem : (increment : Bool) (i : ℕ) → i ≤ last_index → (increment_in (index_byte increment i) ≡ increment) × (index_in (index_byte increment i) ≡ i)
index_in_lem true i h = (le-leb increment_bit (increment_bit + i) (omega arith), omega arith)
index_in_lem false i h = (lt-leb increment_bit i (omega arith), omega arith)

-- a write of data that does not pass the last index
pub write_accepted : (s : Sensor) (increment : Bool) (i : ℕ) (bytes : List ℕ) → s.index ≤ last_index → i ≤ last_index
    → cond increment (i + length bytes) i ≤ register_count
    → message_on s (write_address ∷ index_byte increment i ∷ bytes)
    ≡ accepted
    (record { registers = stored increment i bytes s.registers; index = left (cond increment (i + length bytes) i); increment = increment })
unfolding message_on refuse_if addressed write_data
write_accepted s increment i bytes held h l =
    let f = fitting increment i bytes h l in
    let p = index_in_lem increment i h in
    simp (le-leb s.index last_index held, p.0, p.1, f.0, f.1)

stored_before : (i : ℕ) (bytes registers : List ℕ) (r : ℕ) → r < i → get_or (stored true i bytes registers) r 0 ≡ get_or registers r 0
unfolding next
stored_before i [] registers r h = refl
stored_before i (b ∷ bytes) registers r h =
    stored_before (i + 1) bytes (put registers i b) r (omega arith) ∙ put_other registers i b r (λ (e : i ≡ r). omega arith)

stored_alike : (i : ℕ) (bytes registers : List ℕ) → i + length bytes ≤ length registers → some_differs true i bytes (stored true i bytes registers) ≡ false
unfolding next
stored_alike i [] registers h = refl
stored_alike i (b ∷ bytes) registers h =
    let after : List ℕ = put registers i b in
    let same : first_settable ≤ i → get_or (stored true (i + 1) bytes after) i 0 ≡ b =
    λ g. stored_before (i + 1) bytes after i (omega arith) ∙ put_same registers i b g (omega arith) in
    rw (own_alike (stored true (i + 1) bytes after) i b same) (stored_alike (i + 1) bytes after (omega (arith, length_put registers i b)))

-- data written with increment, the index set again, and the same data read: accepted, from any state that is not answered 11
pub write_then_read : (s : Sensor) (i : ℕ) (bytes : List ℕ) → s.index ≤ last_index → length s.registers ≡ register_count → i ≤ last_index → i + length bytes ≤ register_count
    → messages_on
    ((write_address ∷ index_byte true i ∷ bytes) ∷ (write_address ∷ index_byte true i ∷ []) ∷ (read_address ∷ index_byte true i ∷ bytes) ∷ [])
    (accepted s)
    ≡ accepted (record { registers = stored true i bytes s.registers; index = left (i + length bytes); increment = true })
write_then_read s i bytes held count h l =
    let registers : List ℕ = stored true i bytes s.registers in
    let one : Sensor = record { registers = registers; index = left (i + length bytes); increment = true } in
    let two : Sensor = record { registers = registers; index = i; increment = true } in
    let z : left (i + 0) ≡ i = rw (le-leb (i + 0) last_index (omega arith)) (omega arith) in
    simp
    (write_accepted s true i bytes held h l, write_accepted one true i [] (left_held (i + length bytes)) h (omega arith), z)
    (read_accepted two bytes h (stored_alike i bytes s.registers (omega arith)) l)

stored_last : (i b : ℕ) (bytes registers : List ℕ) → stored false i (bytes ++ (b ∷ [])) registers ≡ put (stored false i bytes registers) i b
unfolding next
stored_last i b [] registers = refl
stored_last i b (a ∷ bytes) registers = stored_last i b bytes (put registers i a)

-- data written without increment: its last byte is read
pub last_write_read : (s : Sensor) (i b : ℕ) (bytes : List ℕ) → s.index ≤ last_index → length s.registers ≡ register_count → i ≤ last_index
    → messages_on ((write_address ∷ i ∷ (bytes ++ (b ∷ []))) ∷ (read_address ∷ i ∷ b ∷ []) ∷ []) (accepted s)
    ≡ accepted (record { registers = stored false i (bytes ++ (b ∷ [])) s.registers; index = i; increment = false })
last_write_read s i b bytes held count h =
    let before : List ℕ = stored false i bytes s.registers in
    let after : List ℕ = stored false i (bytes ++ (b ∷ [])) s.registers in
    let same : first_settable ≤ i → get_or after i 0 ≡ b =
    λ g. ap (λ (l : List ℕ). get_or l i 0) (stored_last i b bytes s.registers) ∙ put_same before i b g (omega (arith, length_stored false i bytes s.registers)) in
    let alike : some_differs false i (b ∷ []) after ≡ false = rw (own_alike after i b same) in
    simp (write_accepted s false i (bytes ++ (b ∷ [])) held h (omega arith), le-leb i last_index h)
    (simp (le-leb i last_index h) at (read_accepted (record { registers = after; index = i; increment = false }) (b ∷ []) h alike (omega arith)))
