-- Places in a table's bytes lie apart: a state or an owner's byte that is put into one leaves the others as they were.
use Rattle.std.specs.Prelude.{◌≡◌, Bool, get_or, set}
use Rattle.std.proofs.Math.Path.{refl, sym, ap}
use Rattle.std.proofs.Common.{◌∙◌, arith, take-append-drop, length-take-le, drop_at, drop-set-lt, get_or-set_other, get_or-take, get_or-drop}
use Rattle.std.proofs.Math.Bool.{true, false}
use mathlib.Core.List.{List, ◌++◌}
use Prim.Native.Nat.{ℕ, ◌+◌, ◌-◌, ◌≤◌, ◌<◌}
use borrow.Author.Tests.{ltb-true, ltb-false, lt-ltb}
use Rattle.std.proofs.Math.Dec.{ltb}
use Rattle.std.proofs.Math.ListN.{length, take, drop, length-append, length-drop}
use Rattle.std.proofs.Math.Seq.{take_at, drop-append-add, drop-drop}
use Rattle.std.proofs.lemmas.List.{take-append-le, drop-append-le, drop-set-add, take-set-le}
use Rattle.exported_state.specs.State.{state_length}
use Rattle.reader_table.specs.Table.{place_count}
use Rattle.fluturenc_table.specs.TableBytes.{table_length, place_start, state_start, owner_at, state_at, with_state}

-- Where places stand.

pub within : (i : ℕ) → i < place_count → state_start i + state_length ≤ table_length
unfolding place_start
within i l = omega (arith, l)

next_starts : (i j : ℕ) → i < j → state_start i + state_length ≤ place_start j
unfolding place_start
next_starts i j l = omega (arith, l)

starts_rise : (i j : ℕ) → i ≤ j → place_start i ≤ place_start j
unfolding place_start
starts_rise i j l = omega (arith, l)

starts_differ : (i j : ℕ) → (j ≡ i → ⊥) → place_start j ≡ place_start i → ⊥
unfolding place_start
starts_differ i j h e = h (omega (arith, e))

pub owner_byte : (s : List ℕ) (i : ℕ) → i < place_count → owner_at s i ≡ get_or s (place_start i) 0
unfolding owner_at
owner_byte s i l = simp (lt-ltb i place_count l)

pub state_length_lem : (s : List ℕ) (i : ℕ) → table_length ≤ length s → i < place_count → length (state_at s i) ≡ state_length
unfolding state_at
state_length_lem s i h l =
    let k = within i l in
    length-take-le state_length (drop (state_start i) s) (omega (arith, length-drop (state_start i) s, h, k))

-- a byte as a part of its list
byte_in : (s : List ℕ) (a : ℕ) → get_or (take 1 (drop a s)) 0 0 ≡ get_or s a 0
byte_in s a = get_or-take 1 (drop a s) 0 0 (omega arith) ∙ get_or-drop a s 0 0 ∙ ap (λ (k : ℕ). get_or s k 0) (omega arith)

-- A state that is put into a place.

early : (p x : List ℕ) (a n : ℕ) → a + n ≤ length p → take n (drop a (p ++ x)) ≡ take n (drop a p)
early p x a n l =
    ap (λ (w : List ℕ). take n w) (drop-append-le a p x (omega (arith, l))) ∙ take-append-le n (drop a p) x (omega (arith, length-drop a p, l))

module _ (s : List ℕ) (i : ℕ) (state : List ℕ) (room : table_length ≤ length s) (l : i < place_count) (full : length state ≡ state_length) where
  front_length : length (take (state_start i) s) ≡ state_start i
  front_length = let k = within i l in length-take-le (state_start i) s (omega (arith, k, room))

  -- parts before it
  ahead : (a n : ℕ) → a + n ≤ state_start i → take n (drop a (with_state s i state)) ≡ take n (drop a s)
  unfolding with_state
  ahead a n k =
      let p : List ℕ = take (state_start i) s in
      let h : a + n ≤ length p = omega (arith, front_length, k) in
      early p (state ++ drop state_length (drop (state_start i) s)) a n h
      ∙ sym (early p (drop (state_start i) s) a n h)
      ∙ ap (λ (w : List ℕ). take n (drop a w)) (take-append-drop (state_start i) s)

  -- and behind it
  behind : (c : ℕ) → drop (state_start i + (state_length + c)) (with_state s i state) ≡ drop (state_start i + (state_length + c)) s
  unfolding with_state
  behind c =
      let p : List ℕ = take (state_start i) s in
      let e : List ℕ = drop state_length (drop (state_start i) s) in
      let k : state_start i + (state_length + c) ≡ length p + (length state + c) = omega (arith, front_length, full) in
      ap (λ (a : ℕ). drop a (p ++ (state ++ e))) k
      ∙ drop-append-add p (state ++ e) (length state + c)
      ∙ drop-append-add state e c
      ∙ drop-drop c state_length (drop (state_start i) s)
      ∙ drop-drop (state_length + c) (state_start i) s

  later : (a : ℕ) → state_start i + state_length ≤ a → drop a (with_state s i state) ≡ drop a s
  later a k =
      let c : ℕ = a - (state_start i + state_length) in
      let e : a ≡ state_start i + (state_length + c) = omega (arith, k) in
      ap (λ (b : ℕ). drop b (with_state s i state)) e ∙ behind c ∙ ap (λ (b : ℕ). drop b s) (sym e)

  pub with_room : length (with_state s i state) ≡ length s
  unfolding with_state
  with_room =
      let p : List ℕ = take (state_start i) s in
      let e : List ℕ = drop state_length (drop (state_start i) s) in
      let k = within i l in
      omega (arith, length-append p (state ++ e), length-append state e, front_length, full, length-drop state_length (drop (state_start i) s), length-drop (state_start i) s, room, k)

  pub with_here : state_at (with_state s i state) i ≡ state
  unfolding with_state state_at
  with_here =
      let e : List ℕ = drop state_length (drop (state_start i) s) in
      ap (λ (w : List ℕ). take state_length w) (drop_at (take (state_start i) s) (state ++ e) (state_start i) front_length) ∙ take_at state e state_length full

  pub with_others : (j : ℕ) → (j ≡ i → ⊥) → state_at (with_state s i state) j ≡ state_at s j
  unfolding state_at
  with_others j h = go (ltb j i) (ltb i j) refl refl
    where
      go : (a b : Bool) → ltb j i ≡ a → ltb i j ≡ b
          → take state_length (drop (state_start j) (with_state s i state)) ≡ take state_length (drop (state_start j) s)
      go true b e f = ahead (state_start j) state_length (let k = next_starts j i (ltb-true j i e) in omega (arith, k))
      go false true e f =
          ap (λ (w : List ℕ). take state_length w) (later (state_start j) (let k = next_starts i j (ltb-true i j f) in omega (arith, k)))
      go false false e f = absurd (h (let k = ltb-false j i e in let m = ltb-false i j f in omega (arith, k, m)))

  pub with_owners : (j : ℕ) → get_or (with_state s i state) (place_start j) 0 ≡ get_or s (place_start j) 0
  with_owners j = sym (byte_in (with_state s i state) (place_start j)) ∙ go (ltb i j) refl ∙ byte_in s (place_start j)
    where
      go : (b : Bool) → ltb i j ≡ b → get_or (take 1 (drop (place_start j) (with_state s i state))) 0 0 ≡ get_or (take 1 (drop (place_start j) s)) 0 0
      go true e = ap (λ (w : List ℕ). get_or (take 1 w) 0 0) (later (place_start j) (next_starts i j (ltb-true i j e)))
      go false e =
          ap (λ (w : List ℕ). get_or w 0 0)
          (ahead (place_start j) 1 (let k = starts_rise j i (ltb-false i j e) in omega (arith, k)))

-- An owner's byte that is put into a place.

pub owned_states : (s : List ℕ) (i who j : ℕ) → state_at (set s (place_start i) who) j ≡ state_at s j
unfolding state_at
owned_states s i who j = go (ltb j i) refl
  where
    go : (b : Bool) → ltb j i ≡ b
        → take state_length (drop (state_start j) (set s (place_start i) who)) ≡ take state_length (drop (state_start j) s)
    go false e =
        ap (λ (w : List ℕ). take state_length w)
        (drop-set-lt (state_start j) s (place_start i) who (let k = starts_rise i j (ltb-false j i e) in omega (arith, k)))
    go true e =
        let k = next_starts j i (ltb-true j i e) in
        let c : ℕ = place_start i - state_start j in
        let at : place_start i ≡ state_start j + c = omega (arith, k) in
        ap (λ (a : ℕ). take state_length (drop (state_start j) (set s a who))) at
        ∙ ap (λ (w : List ℕ). take state_length w) (drop-set-add (state_start j) s c who)
        ∙ take-set-le state_length (drop (state_start j) s) c who (omega (arith, k))

pub owned_others : (s : List ℕ) (i who j : ℕ) → (j ≡ i → ⊥) → get_or (set s (place_start i) who) (place_start j) 0 ≡ get_or s (place_start j) 0
owned_others s i who j h = get_or-set_other s (place_start i) (place_start j) who 0 (starts_differ i j h)
