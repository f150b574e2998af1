-- A setting put into a list in order: the list stays in order, the setting is the newest, and what else is held stays.
use Rattle.std.specs.Prelude.{◌≡◌, Bool, false, cond, eqb, length, drop}
use Rattle.std.proofs.Math.Path.{refl, sym, ap}
use Rattle.std.proofs.Common.{◌∙◌, true≢false, arith}
use Rattle.std.proofs.Math.Bool.{true}
use mathlib.Core.List.{List, [], ◌∷◌, ◌++◌}
use Prim.Native.Nat.{ℕ, suc, ◌+◌, ◌<◌}
use borrow.Author.Tests.{eq-eqb, ne_eqb, eqb-true, eqb-false}
use Rattle.bits.specs.Every.{and_left, and_right, and_both}
use Rattle.bits.specs.Tests.{sides, by_test}
use Rattle.refusal.specs.Refusal.{version_not_held}
use Rattle.saved_setting.specs.declared.SavedSetting.{SavedSetting}
use Rattle.saved_setting.specs.SavedSettings.{yields, refused, is_unused, may_follow, versions_in_order, setting_places, is_saved_list, later_version, newest_version, held_here, look_up, all_used, put_in, saved_into}
use Rattle.saved_laws.specs.Histories.{used_of}
use Rattle.saved_laws.specs.OrderLaws.{unused_follows, may_next, may_unused, order_tail, order_head, later_used, newest_rest, used_rest, newest_last, newest_least, newest_on, all_used_lem, newest_full, skipped, here, is_given, kept_behind, held_recent}

-- the setting t, put into a list
module _ (t : SavedSetting) (used : is_unused t ≡ false) where
  fresh_head : (x : SavedSetting) (list : List SavedSetting) → versions_in_order (x ∷ list) ≡ true → is_unused x ≡ true → versions_in_order (t ∷ list) ≡ true
  unfolding versions_in_order
  fresh_head x [] h u = refl
  fresh_head x (y ∷ list) h u =
      and_both (may_follow t y) (versions_in_order (y ∷ list)) (may_unused t y (unused_follows x y (order_head x y list h) u)) (order_tail x (y ∷ list) h)

  -- behind a used place
  put_behind : (s : SavedSetting) (list : List SavedSetting) → versions_in_order (s ∷ list) ≡ true → is_unused s ≡ false → newest_version (s ∷ list) + 1 ≡ t.version
      → versions_in_order (s ∷ put_in t list) ≡ true
  unfolding versions_in_order put_in newest_version later_version
  put_behind s [] h u e = and_both (may_follow s t) true (may_next s t u e) refl
  put_behind s (x ∷ list) h u e =
      by_test (λ (l : List SavedSetting). versions_in_order (s ∷ l) ≡ true) (is_unused x)
      (λ none.
      and_both (may_follow s t) (versions_in_order (t ∷ list)) (may_next s t u (ap (λ (n : ℕ). n + 1) (sym (newest_last s x list h none)) ∙ e))
      (fresh_head x list (order_tail s (x ∷ list) h) none))
      (λ some.
      and_both (may_follow s x) (versions_in_order (x ∷ put_in t list)) (order_head s x list h)
      (put_behind x list (order_tail s (x ∷ list) h) some (ap (λ (n : ℕ). n + 1) (sym (newest_on s x list (order_tail s (x ∷ list) h) some)) ∙ e)))

  pub put_ordered : (list : List SavedSetting) → versions_in_order list ≡ true → newest_version list + 1 ≡ t.version → versions_in_order (put_in t list) ≡ true
  unfolding put_in versions_in_order
  put_ordered [] h e = refl
  put_ordered (x ∷ list) h e =
      by_test (λ (l : List SavedSetting). versions_in_order l ≡ true) (is_unused x) (fresh_head x list h) (λ some. put_behind x list h some e)

  pub put_newest : (list : List SavedSetting) → versions_in_order list ≡ true → newest_version (put_in t list) ≡ t.version
  unfolding put_in newest_version later_version
  put_newest [] h = refl
  put_newest (x ∷ list) h =
      by_test (λ (l : List SavedSetting). newest_version l ≡ t.version) (is_unused x) (λ none. rw (newest_rest x list h none) refl)
      (λ some.
      let z : t.version ≡ 0 → ⊥ = eqb-false t.version 0 used in
      rw (put_newest list (order_tail x list h)) (later_used x.version t.version z))

  pub put_length : (list : List SavedSetting) → all_used list ≡ false → length (put_in t list) ≡ length list
  unfolding put_in all_used
  put_length [] h = absurd (true≢false h)
  put_length (x ∷ list) h =
      sides (is_unused x) (λ none. simp none) (λ some. simp some (ap suc (put_length list (simp some at h))))

  pub put_length_full : (list : List SavedSetting) → all_used list ≡ true → length (put_in t list) ≡ suc (length list)
  unfolding put_in
  put_length_full [] h = refl
  put_length_full (x ∷ list) h =
      let both = all_used_lem x list h in
      simp both.0 (ap suc (put_length_full list both.1))

  pub put_used : (list : List SavedSetting) → versions_in_order list ≡ true → used_of (put_in t list) ≡ used_of list ++ (t ∷ [])
  unfolding put_in used_of
  put_used [] h = simp used
  put_used (x ∷ list) h =
      sides (is_unused x) (λ none. simp (none, used, used_rest x list h none))
      (λ some. simp some (ap (λ (l : List SavedSetting). x ∷ l) (put_used list (order_tail x list h))))

  -- what was held before
  pub put_keeps : (v : ℕ) (list : List SavedSetting) (s : SavedSetting) → (v ≡ 0 → ⊥) → (t.version ≡ v → ⊥) → look_up v list ≡ yields s
      → look_up v (put_in t list) ≡ yields s
  unfolding put_in look_up
  put_keeps v [] s some other q = absurd (true≢false (sym (ap is_given q)))
  put_keeps v (x ∷ list) s some other q =
      by_test (λ (l : List SavedSetting). look_up v l ≡ yields s) (is_unused x)
      (λ none.
      let nought : x.version ≡ 0 = eqb-true x.version 0 none in
      skipped t v (look_up v list) other ∙ sym (skipped x v (look_up v list) (λ (e : x.version ≡ v). some (sym e ∙ nought))) ∙ q)
      (λ _. kept_behind x s v (look_up v list) (look_up v (put_in t list)) (put_keeps v list s some other) q)

  -- the setting itself
  found_behind : (x : SavedSetting) (list : List SavedSetting) → versions_in_order (x ∷ list) ≡ true → is_unused x ≡ false → newest_version (x ∷ list) + 1 ≡ t.version
      → look_up t.version (x ∷ put_in t list) ≡ yields t
  unfolding put_in look_up
  found_behind x [] h u e =
      let least = newest_least x [] h u in
      skipped x t.version (held_here t t.version (refused version_not_held)) (λ (q : x.version ≡ t.version). omega (arith, q, least, e)) ∙ here t (refused version_not_held)
  found_behind x (y ∷ list) h u e =
      let least = newest_least x (y ∷ list) h u in
      let ordered = order_tail x (y ∷ list) h in
      skipped x t.version (look_up t.version (put_in t (y ∷ list))) (λ (q : x.version ≡ t.version). omega (arith, q, least, e))
      ∙ by_test (λ (l : List SavedSetting). look_up t.version l ≡ yields t) (is_unused y) (λ none. here t (look_up t.version list))
      (λ some. found_behind y list ordered some (ap (λ (n : ℕ). n + 1) (sym (newest_on x y list ordered some)) ∙ e))

  pub put_found : (list : List SavedSetting) → versions_in_order list ≡ true → newest_version list + 1 ≡ t.version → look_up t.version (put_in t list) ≡ yields t
  unfolding put_in look_up
  put_found [] h e = here t (refused version_not_held)
  put_found (x ∷ list) h e =
      by_test (λ (l : List SavedSetting). look_up t.version l ≡ yields t) (is_unused x) (λ none. here t (look_up t.version list))
      (λ some. found_behind x list h some e)

-- The oldest is dropped first where all places are used.

-- what comes of a list into which t is saved
pub record Into (t : SavedSetting) (list after : List SavedSetting) : Type 0 where
  pub ordered : is_saved_list after ≡ true
  pub newest : newest_version after ≡ t.version
  -- the oldest is dropped where all are used, and nothing else
  pub keeps : used_of after ≡ cond (all_used list) (drop 1 (used_of list)) (used_of list) ++ (t ∷ [])
  pub found : look_up t.version after ≡ yields t
  pub still : (v : ℕ) (s : SavedSetting) → (v ≡ 0 → ⊥) → newest_version list + 1 < v + setting_places → look_up v list ≡ yields s → look_up v after ≡ yields s

saved_list : (list : List SavedSetting) → length list ≡ setting_places → versions_in_order list ≡ true → is_saved_list list ≡ true
saved_list list long h = and_both (eqb (length list) setting_places) (versions_in_order list) (eq-eqb (length list) setting_places long) h

used_all : (list : List SavedSetting) → all_used list ≡ true → used_of list ≡ list
unfolding used_of
used_all [] full = refl
used_all (x ∷ list) full = let both = all_used_lem x list full in simp both.0 (ap (λ (l : List SavedSetting). x ∷ l) (used_all list both.1))

module _ (t : SavedSetting) where
  t_used : (n : ℕ) → n + 1 ≡ t.version → is_unused t ≡ false
  t_used n e = ne_eqb t.version 0 (λ (z : t.version ≡ 0). omega (arith, z, e))

  -- with an unused place
  into_unused : (list : List SavedSetting) → length list ≡ setting_places → versions_in_order list ≡ true → newest_version list + 1 ≡ t.version → all_used list ≡ false
      → Into t list (put_in t list)
  into_unused list long h e room =
      let used = t_used (newest_version list) e in
      record {
        ordered = saved_list (put_in t list) (put_length t used list room ∙ long) (put_ordered t used list h e);
        newest = put_newest t used list h;
        keeps = rw room (put_used t used list h);
        found = put_found t used list h e;
        still = λ v s some recent q. put_keeps t used v list s some (λ (z : t.version ≡ v). omega (arith, z, e, (held_recent v list s h some q).0)) q;
      }

  -- with none: the first place is dropped
  into_full : (x y : SavedSetting) (list : List SavedSetting) → length (x ∷ y ∷ list) ≡ setting_places → versions_in_order (x ∷ y ∷ list) ≡ true
      → newest_version (x ∷ y ∷ list) + 1 ≡ t.version → all_used (x ∷ y ∷ list) ≡ true → Into t (x ∷ y ∷ list) (put_in t (y ∷ list))
  unfolding look_up
  into_full x y list long h e full =
      let used = t_used (newest_version (x ∷ y ∷ list)) e in
      let rest = (all_used_lem x (y ∷ list) full).1 in
      let ordered = order_tail x (y ∷ list) h in
      let on = newest_on x y list ordered (all_used_lem y list rest).0 in
      let next : newest_version (y ∷ list) + 1 ≡ t.version = ap (λ (n : ℕ). n + 1) (sym on) ∙ e in
      let whole = newest_full x (y ∷ list) h rest in
      record {
        ordered = saved_list (put_in t (y ∷ list)) (put_length_full t used (y ∷ list) rest ∙ long) (put_ordered t used (y ∷ list) ordered next);
        newest = put_newest t used (y ∷ list) ordered;
        keeps = rw (full, used_all (x ∷ y ∷ list) full) (put_used t used (y ∷ list) ordered ∙ ap (λ (l : List SavedSetting). l ++ (t ∷ [])) (used_all (y ∷ list) rest));
        found = put_found t used (y ∷ list) ordered next;
        still = λ v s some recent q.
            let other : x.version ≡ v → ⊥ = λ (z : x.version ≡ v). omega (arith, z, whole, long, recent) in
            put_keeps t used v (y ∷ list) s some (λ (z : t.version ≡ v). omega (arith, z, e, (held_recent v (x ∷ y ∷ list) s h some q).0))
            (sym (skipped x v (look_up v (y ∷ list)) other) ∙ q);
      }

-- a setting under the next version, saved into a list in order
pub into : (t : SavedSetting) (list : List SavedSetting) → is_saved_list list ≡ true → newest_version list + 1 ≡ t.version → Into t list (saved_into t list)
unfolding saved_into
into t [] ok e = absurd (true≢false (sym ok))
into t (x ∷ []) ok e = absurd (true≢false (sym ok))
into t (x ∷ y ∷ list) ok e =
    let long = eqb-true (length (x ∷ y ∷ list)) setting_places (and_left (eqb (length (x ∷ y ∷ list)) setting_places) (versions_in_order (x ∷ y ∷ list)) ok) in
    let h = and_right (eqb (length (x ∷ y ∷ list)) setting_places) (versions_in_order (x ∷ y ∷ list)) ok in
    by_into (all_used (x ∷ y ∷ list)) (into_full t x y list long h e) (into_unused t (x ∷ y ∷ list) long h e)
  where
    by_into : (b : Bool) → (b ≡ true → Into t (x ∷ y ∷ list) (put_in t (y ∷ list))) → (b ≡ false → Into t (x ∷ y ∷ list) (put_in t (x ∷ y ∷ list)))
        → Into t (x ∷ y ∷ list) (put_in t (cond b (drop 1 (x ∷ y ∷ list)) (x ∷ y ∷ list)))
    by_into true f g = f refl
    by_into false f g = g refl
