-- Lists in order: one place after another, and the versions that they hold.
use Rattle.std.specs.Prelude.{◌≡◌, Bool, true, false, cond, ℕ, zero, suc, ◌+◌, ◌<◌, ◌≤◌, eqb, length}
use Rattle.std.proofs.Math.Path.{refl}
use Rattle.std.proofs.Common.{sym, ap, ◌∙◌, true≢false, arith, eq-eqb, ne_eqb, eqb-true}
use mathlib.Core.List.{List, [], ◌∷◌}
use Rattle.std.proofs.lemmas.Bool.{eqb-false}
use Rattle.bits.specs.Every.{and_left, and_right}
use Rattle.bits.specs.Tests.{sides, by_test}
use Rattle.saved_setting.specs.declared.SavedSetting.{SavedSetting}
use Rattle.saved_setting.specs.SavedSettings.{Reply, yields, refused, is_unused, may_follow, versions_in_order, later_version, newest_version, held_here, look_up, all_used}
use Rattle.refusal.specs.Refusal.{version_not_held}
use Rattle.saved_laws.specs.Histories.{used_of}

pub used_positive : (n : ℕ) → eqb n 0 ≡ false → 0 < n
used_positive zero h = absurd (true≢false h)
used_positive (suc n) h = omega arith

-- One place after another.

by_unused : (a b c : Bool) → cond a true (cond b false c) ≡ true → b ≡ true → a ≡ true
by_unused true b c h u = refl
by_unused false true c h u = h
by_unused false false c h u = u

by_used : (a b c : Bool) → cond a true (cond b false c) ≡ true → a ≡ false → (b ≡ false) × (c ≡ true)
by_used true b c h u = absurd (true≢false u)
by_used false true c h u = absurd (true≢false (sym h))
by_used false false c h u = (refl, h)

pub unused_follows : (s t : SavedSetting) → may_follow s t ≡ true → is_unused s ≡ true → is_unused t ≡ true
unfolding may_follow
unused_follows s t h u = by_unused (is_unused t) (is_unused s) (eqb (s.version + 1) t.version) h u

pub next_version : (s t : SavedSetting) → may_follow s t ≡ true → is_unused t ≡ false → s.version + 1 ≡ t.version
unfolding may_follow
next_version s t h u = eqb-true (s.version + 1) t.version (by_used (is_unused t) (is_unused s) (eqb (s.version + 1) t.version) h u).1

pub may_next : (s t : SavedSetting) → is_unused s ≡ false → s.version + 1 ≡ t.version → may_follow s t ≡ true
unfolding may_follow
may_next s t u e =
    let z : t.version ≡ 0 → ⊥ = λ q. omega (arith, q, e) in
    simp (ne_eqb t.version 0 z, u, eq-eqb (s.version + 1) t.version e)

pub may_unused : (s t : SavedSetting) → is_unused t ≡ true → may_follow s t ≡ true
unfolding may_follow
may_unused s t u = simp u

module _ (s : SavedSetting) where
  pub order_tail : (list : List SavedSetting) → versions_in_order (s ∷ list) ≡ true → versions_in_order list ≡ true
  unfolding versions_in_order
  order_tail [] h = refl
  order_tail (t ∷ list) h = and_right (may_follow s t) (versions_in_order (t ∷ list)) h

  pub order_head : (t : SavedSetting) (list : List SavedSetting) → versions_in_order (s ∷ t ∷ list) ≡ true → may_follow s t ≡ true
  unfolding versions_in_order
  order_head t list h = and_left (may_follow s t) (versions_in_order (t ∷ list)) h

-- The newest version.

pub later_used : (v n : ℕ) → (n ≡ 0 → ⊥) → later_version v n ≡ n
unfolding later_version
later_used v n h = simp (ne_eqb n 0 h)

newest_one : (s : SavedSetting) → newest_version (s ∷ []) ≡ s.version
unfolding newest_version later_version
newest_one s = refl

pub newest_unused : (s : SavedSetting) (list : List SavedSetting) → versions_in_order (s ∷ list) ≡ true → is_unused s ≡ true → newest_version (s ∷ list) ≡ 0
unfolding newest_version later_version
newest_unused s [] h u = eqb-true s.version 0 u
newest_unused s (t ∷ list) h u =
    rw (newest_unused t list (order_tail s (t ∷ list) h) (unused_follows s t (order_head s t list h) u)) (eqb-true s.version 0 u)

-- behind an unused place
pub newest_rest : (s : SavedSetting) (list : List SavedSetting) → versions_in_order (s ∷ list) ≡ true → is_unused s ≡ true → newest_version list ≡ 0
unfolding newest_version
newest_rest s [] h u = refl
newest_rest s (t ∷ list) h u = newest_unused t list (order_tail s (t ∷ list) h) (unused_follows s t (order_head s t list h) u)

pub used_rest : (s : SavedSetting) (list : List SavedSetting) → versions_in_order (s ∷ list) ≡ true → is_unused s ≡ true → used_of list ≡ []
unfolding used_of
used_rest s [] h u = refl
used_rest s (t ∷ list) h u = simp (unused_follows s t (order_head s t list h) u)

pub newest_last : (s t : SavedSetting) (list : List SavedSetting) → versions_in_order (s ∷ t ∷ list) ≡ true → is_unused t ≡ true → newest_version (s ∷ t ∷ list) ≡ s.version
unfolding newest_version later_version
newest_last s t list h u = rw (newest_unused t list (order_tail s (t ∷ list) h) u) refl

-- from a used place on: at least its version, and at most one more for each place behind it; exactly so where they are all used
pub newest_least : (s : SavedSetting) (list : List SavedSetting) → versions_in_order (s ∷ list) ≡ true → is_unused s ≡ false → s.version ≤ newest_version (s ∷ list)
unfolding newest_version later_version
newest_least s [] h u = omega arith
newest_least s (t ∷ list) h u =
    sides (is_unused t) (λ none. let e = newest_last s t list h none in omega (arith, e))
    (λ held.
    let least = newest_least t list (order_tail s (t ∷ list) h) held in
    let next = next_version s t (order_head s t list h) held in
    let on = later_used s.version (newest_version (t ∷ list)) (λ (z : newest_version (t ∷ list) ≡ 0). omega (arith, least, next, z)) in
    omega (arith, least, next, on))

pub newest_on : (s t : SavedSetting) (list : List SavedSetting) → versions_in_order (t ∷ list) ≡ true → is_unused t ≡ false → newest_version (s ∷ t ∷ list) ≡ newest_version (t ∷ list)
unfolding newest_version
newest_on s t list h u =
    let least = newest_least t list h u in
    let some = used_positive t.version u in
    later_used s.version (newest_version (t ∷ list)) (λ (z : newest_version (t ∷ list) ≡ 0). omega (arith, least, some, z))

pub newest_most : (s : SavedSetting) (list : List SavedSetting) → versions_in_order (s ∷ list) ≡ true → is_unused s ≡ false → newest_version (s ∷ list) ≤ s.version + length list
newest_most s [] h u = omega (arith, newest_one s)
newest_most s (t ∷ list) h u =
    sides (is_unused t) (λ none. let e = newest_last s t list h none in omega (arith, e))
    (λ held.
    let ordered = order_tail s (t ∷ list) h in
    let most = newest_most t list ordered held in
    let next = next_version s t (order_head s t list h) held in
    omega (arith, most, next, newest_on s t list ordered held))

both_used : (a b : Bool) → cond a false b ≡ true → (a ≡ false) × (b ≡ true)
both_used true b h = absurd (true≢false (sym h))
both_used false b h = (refl, h)

pub all_used_lem : (s : SavedSetting) (list : List SavedSetting) → all_used (s ∷ list) ≡ true → (is_unused s ≡ false) × (all_used list ≡ true)
unfolding all_used
all_used_lem s list h = both_used (is_unused s) (all_used list) h

pub newest_full : (s : SavedSetting) (list : List SavedSetting) → versions_in_order (s ∷ list) ≡ true → all_used list ≡ true → newest_version (s ∷ list) ≡ s.version + length list
newest_full s [] h full = omega (arith, newest_one s)
newest_full s (t ∷ list) h full =
    let both = all_used_lem t list full in
    let ordered = order_tail s (t ∷ list) h in
    let next = next_version s t (order_head s t list h) both.0 in
    omega (arith, next, newest_full t list ordered both.1, newest_on s t list ordered both.0)

-- What is held.

pub skipped : (s : SavedSetting) (v : ℕ) (rest : Reply SavedSetting) → (s.version ≡ v → ⊥) → held_here s v rest ≡ rest
unfolding held_here
skipped s v rest other = simp (ne_eqb s.version v other)

pub here : (s : SavedSetting) (rest : Reply SavedSetting) → held_here s s.version rest ≡ yields s
unfolding held_here
here s rest = simp (eq-eqb s.version s.version refl)

kept_by : (b : Bool) (x s : SavedSetting) (a c : Reply SavedSetting) → (a ≡ yields s → c ≡ yields s) → cond b (yields x) a ≡ yields s
    → cond b (yields x) c ≡ yields s
kept_by true x s a c f q = q
kept_by false x s a c f q = f q

-- what is found in a place, or else behind it, is found still where it is behind it
pub kept_behind : (x s : SavedSetting) (v : ℕ) (a c : Reply SavedSetting) → (a ≡ yields s → c ≡ yields s) → held_here x v a ≡ yields s
    → held_here x v c ≡ yields s
unfolding held_here
kept_behind x s v a c f q = kept_by (eqb x.version v) x s a c f q

-- a version is held by some place, or it is answered 30
pub by_held : (P : Reply SavedSetting → Type 0) (v : ℕ) (list : List SavedSetting) → ((s : SavedSetting) → look_up v list ≡ yields s → P (yields s))
    → P (refused version_not_held) → P (look_up v list)
unfolding look_up held_here
by_held P v [] f g = g
by_held P v (x ∷ list) f g =
    by_test P (eqb x.version v) (λ e. f x (simp e)) (λ e. by_held P v list (λ s q. f s (simp e q)) g)

-- an answer, not a refusal
abbrev pub is_given : {A : Type 0} → Reply A → Bool
is_given (yields a) = true
is_given (refused n) = false

-- a version that is held is one of the last ones, as many as there are places
pub held_recent : (v : ℕ) (list : List SavedSetting) (s : SavedSetting) → versions_in_order list ≡ true → (v ≡ 0 → ⊥) → look_up v list ≡ yields s
    → (v ≤ newest_version list) × (newest_version list < v + length list)
unfolding look_up newest_version
held_recent v [] s h some q = absurd (true≢false (sym (ap is_given q)))
held_recent v (x ∷ list) s h some q =
    sides (eqb x.version v)
    (λ e.
    let same = eqb-true x.version v e in
    let used = ne_eqb x.version 0 (λ z. some (sym same ∙ z)) in
    let least = newest_least x list h used in
    let most = newest_most x list h used in
    (omega (arith, same, least), omega (arith, same, most)))
    (λ e.
    let recent = held_recent v list s (order_tail x list h) some (sym (skipped x v (look_up v list) (eqb-false x.version v e)) ∙ q) in
    let on = later_used x.version (newest_version list) (λ (z : newest_version list ≡ 0). some (omega (arith, recent.0, z))) in
    (omega (arith, on, recent.0), omega (arith, on, recent.1)))
