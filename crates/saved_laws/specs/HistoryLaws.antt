-- Calls one after another on a list of saved settings: versions stay in unbroken sequence; a refusal changes nothing; saving drops the oldest
-- where eight stand, and nothing else; what was saved is found until eight later ones came; after 65,535 nothing is saved and nothing is lost.
use Rattle.std.specs.Prelude.{◌≡◌, Bool, true, ℕ, ◌+◌, ◌<◌, ◌≤◌, eqb, ltb, drop}
use Rattle.std.proofs.Math.Path.{refl, sym, ap, subst}
use Rattle.std.proofs.Common.{◌∙◌, true≢false, arith}
use Rattle.std.proofs.Math.Bool.{cond}
use mathlib.Core.List.{List, [], ◌∷◌, ◌++◌}
use Rattle.std.proofs.Math.ListN.{length}
use borrow.Author.Tests.{ne_eqb, eqb-true, eqb-false, ltb-true, ltb-false}
use Rattle.bits.specs.Every.{and_left, and_right}
use Rattle.bits.specs.Tests.{sides, by_test}
use Rattle.refusal.specs.Refusal.{not_saved_settings, bad_setting, version_not_held, no_version_left}
use Rattle.saved_setting.specs.declared.SavedSetting.{SavedSetting}
use Rattle.saved_setting.specs.SavedSettings.{Reply, yields, refused, is_allowed, clipped, renumbered, versions_in_order, setting_places, is_saved_list, last_version, newest_version, look_up, all_used, saved_into, ListReply, keeping_list, saved_next, saved_wanted, found_in, saved_found, saved_again}
use Rattle.saved_laws.specs.Histories.{used_of, SettingCall, saving, going_back, called_on, ToSave, after_calls, saves_of, later_saves}
use Rattle.saved_laws.specs.OrderLaws.{by_held, held_recent, is_given}
use Rattle.saved_laws.specs.PutInLaws.{into}

-- One call: it refuses, or it saves a setting under the next version.

-- a setting saved under the next version
abbrev saved_under : List SavedSetting → SavedSetting → ListReply
saved_under list s = record { reply = yields (newest_version list + 1); list = saved_into (renumbered s (newest_version list + 1)) list }

module _ (P : ListReply → Type 0) (list : List SavedSetting) (no : (n : ℕ) → P (keeping_list n list))
    (yes : (s : SavedSetting) → is_saved_list list ≡ true → (newest_version list ≡ last_version → ⊥) → P (saved_under list s)) where
  by_next : (s : SavedSetting) → is_saved_list list ≡ true → P (saved_next list s)
  unfolding saved_next
  by_next s ok =
      by_test P (eqb (newest_version list) last_version) (λ e. no no_version_left) (λ e. yes s ok (eqb-false (newest_version list) last_version e))

  by_found : (h : Reply SavedSetting) → is_saved_list list ≡ true → P (saved_found list h)
  by_found (yields s) ok = by_next s ok
  by_found (refused n) ok = no n

  by_call : (c : SettingCall) → P (called_on list c)
  unfolding saved_wanted saved_again found_in
  by_call (saving w) =
      by_test P (is_saved_list list) (λ ok. by_test P (is_allowed w) (λ e. by_next (clipped w) ok) (λ e. no bad_setting)) (λ e. no not_saved_settings)
  by_call (going_back v) =
      by_test (λ (h : Reply SavedSetting). P (saved_found list h)) (is_saved_list list)
      (λ ok. by_test (λ (h : Reply SavedSetting). P (saved_found list h)) (eqb v 0) (λ e. no version_not_held) (λ e. by_found (look_up v list) ok)) (λ e. no not_saved_settings)

abbrev version_in : Reply ℕ → ℕ
version_in (yields v) = v
version_in (refused n) = 0

-- a refusal changes nothing
pub refusal_keeps : (list : List SavedSetting) (c : SettingCall) (n : ℕ) → (called_on list c).reply ≡ refused n → (called_on list c).list ≡ list
refusal_keeps list c n =
    by_call (λ (o : ListReply). o.reply ≡ refused n → o.list ≡ list) list (λ m q. refl) (λ s ok left q. absurd (true≢false (ap is_given q))) c

-- versions stay in unbroken sequence
pub stays_ordered : (list : List SavedSetting) (c : SettingCall) → is_saved_list list ≡ true → is_saved_list (called_on list c).list ≡ true
unfolding renumbered
stays_ordered list c ok =
    by_call (λ (o : ListReply). is_saved_list o.list ≡ true) list (λ n. ok)
    (λ s _ left. (into (renumbered s (newest_version list + 1)) list ok refl).ordered) c

-- after 65,535 nothing is saved, and nothing is lost
nothing_left : (list : List SavedSetting) (c : SettingCall) → newest_version list ≡ last_version → ((called_on list c).list ≡ list) × (saves_of (called_on list c).reply ≡ 0)
nothing_left list c e =
    by_call (λ (o : ListReply). (o.list ≡ list) × (saves_of o.reply ≡ 0)) list (λ n. (refl, refl)) (λ s ok left. absurd (left e)) c

pub none_after_last : (list : List SavedSetting) (calls : List SettingCall) → newest_version list ≡ last_version
    → (after_calls list calls ≡ list) × (later_saves list calls ≡ 0)
none_after_last list [] e = (refl, refl)
none_after_last list (c ∷ calls) e =
    let one = nothing_left list c e in
    let rest = none_after_last list calls e in (
      ap (λ (l : List SavedSetting). after_calls l calls) one.0 ∙ rest.0,
      omega (arith, one.1, rest.1, ap (λ (l : List SavedSetting). later_saves l calls) one.0),
    )

-- A call that saved.

-- what is found is found in a list in order
found_saved : (list : List SavedSetting) (v : ℕ) (s : SavedSetting) → found_in list v ≡ yields s → is_saved_list list ≡ true
unfolding found_in
found_saved list v s q =
    sides (is_saved_list list) (λ ok. ok)
    (λ e. absurd (true≢false (sym (ap is_given (ap (λ (b : Bool). cond b (cond (eqb v 0) (refused version_not_held) (look_up v list)) (refused not_saved_settings)) (sym e) ∙ q)))))

-- what a call that answers a version did
record Did (list : List SavedSetting) (s : SavedSetting) (v : ℕ) (o : ListReply) : Type 0 where
  ok : is_saved_list list ≡ true
  next : v ≡ newest_version list + 1
  does : o ≡ saved_under list s

module _ (list : List SavedSetting) (v : ℕ) where
  refuses : (s : SavedSetting) (n : ℕ) → (keeping_list n list).reply ≡ yields v → Did list s v (keeping_list n list)
  refuses s n q = absurd (true≢false (sym (ap is_given q)))

  did_next : (s : SavedSetting) → is_saved_list list ≡ true → (saved_next list s).reply ≡ yields v → Did list s v (saved_next list s)
  unfolding saved_next
  did_next s ok =
      by_test (λ (o : ListReply). o.reply ≡ yields v → Did list s v o) (eqb (newest_version list) last_version) (λ e. refuses s no_version_left)
      (λ e q. record { ok = ok; next = sym (ap version_in q); does = refl })

  did_wanted : (c : SettingCall) (s : SavedSetting) → ToSave list c s → (called_on list c).reply ≡ yields v → Did list s v (called_on list c)
  unfolding saved_wanted saved_again found_in
  did_wanted (saving w) s same =
      by_test (λ (o : ListReply). o.reply ≡ yields v → Did list s v o) (is_saved_list list)
      (λ ok.
      by_test (λ (o : ListReply). o.reply ≡ yields v → Did list s v o) (is_allowed w)
      (λ e. subst (λ (t : SavedSetting). (saved_next list t).reply ≡ yields v → Did list s v (saved_next list t)) (sym same) (did_next s ok))
      (λ e. refuses s bad_setting))
      (λ e. refuses s not_saved_settings)
  did_wanted (going_back u) s same =
      subst (λ (h : Reply SavedSetting). (saved_found list h).reply ≡ yields v → Did list s v (saved_found list h)) (sym same) (did_next s (found_saved list u s same))

-- What was saved is found.

-- k later ones came since s was saved under v
record SavedSince (v : ℕ) (s : SavedSetting) (k : ℕ) (list : List SavedSetting) : Type 0 where
  ordered : is_saved_list list ≡ true
  newest : newest_version list ≡ v + k
  stays : k < setting_places → look_up v list ≡ yields s

module _ (v : ℕ) (s : SavedSetting) (some : v ≡ 0 → ⊥) where
  recounted : (k n : ℕ) (list : List SavedSetting) → k ≡ n → SavedSince v s k list → SavedSince v s n list
  recounted k n list e since = subst (λ (m : ℕ). SavedSince v s m list) e since

  since_call : (k : ℕ) (list : List SavedSetting) (c : SettingCall) → SavedSince v s k list → SavedSince v s (saves_of (called_on list c).reply + k) (called_on list c).list
  unfolding renumbered
  since_call k list c since =
      by_call (λ (o : ListReply). SavedSince v s (saves_of o.reply + k) o.list) list (λ n. recounted k (0 + k) list (omega arith) since)
      (λ t ok left.
      let next = into (renumbered t (newest_version list + 1)) list ok refl in
      record {
        ordered = next.ordered;
        newest = next.newest ∙ omega (arith, since.newest);
        stays = λ fewer. next.still v s some (omega (arith, since.newest, fewer)) (since.stays (omega (arith, fewer)));
      }) c

  since_calls : (k : ℕ) (list : List SavedSetting) (calls : List SettingCall) → SavedSince v s k list → SavedSince v s (k + later_saves list calls) (after_calls list calls)
  since_calls k list [] since = recounted k (k + 0) list (omega arith) since
  since_calls k list (c ∷ calls) since =
      let later : ListReply = called_on list c in
      let n : ℕ = saves_of later.reply in
      let m : ℕ = later_saves later.list calls in
      recounted (n + k + m) (k + (n + m)) (after_calls later.list calls) (omega arith) (since_calls (n + k) later.list calls (since_call k list c since))

  since_found : (k : ℕ) (list : List SavedSetting) → SavedSince v s k list
      → found_in list v ≡ cond (ltb k setting_places) (yields s) (refused version_not_held)
  unfolding found_in
  since_found k list since =
      let ok = since.ordered in
      let long = eqb-true (length list) setting_places (and_left (eqb (length list) setting_places) (versions_in_order list) ok) in
      let h = and_right (eqb (length list) setting_places) (versions_in_order list) ok in
      let looked : look_up v list ≡ cond (ltb k setting_places) (yields s) (refused version_not_held) =
      by_test (λ (x : Reply SavedSetting). look_up v list ≡ x) (ltb k setting_places) (λ e. since.stays (ltb-true k setting_places e))
      (λ e.
      by_held (λ (x : Reply SavedSetting). x ≡ refused version_not_held) v list
      (λ t q. absurd (too_old (ltb-false k setting_places e) (held_recent v list t h some q).1 long since.newest)) refl) in
      ap (λ (b : Bool). cond b (cond (eqb v 0) (refused version_not_held) (look_up v list)) (refused not_saved_settings)) ok
      ∙ ap (λ (b : Bool). cond b (refused version_not_held) (look_up v list)) (ne_eqb v 0 some) ∙ looked
    where
      too_old : setting_places ≤ k → newest_version list < v + length list → length list ≡ setting_places → newest_version list ≡ v + k → ⊥
      too_old many recent long new = omega (arith, many, recent, long, new)

-- What a call saved: a wanted setting clipped, an old one as it stood, under the version answered.

module _ (list : List SavedSetting) (c : SettingCall) (s : SavedSetting) (v : ℕ) (same : ToSave list c s) (answered : (called_on list c).reply ≡ yields v) where
  -- the oldest is dropped where all places are used, and nothing else
  pub saving_drops : used_of (called_on list c).list ≡ cond (all_used list) (drop 1 (used_of list)) (used_of list) ++ (renumbered s v ∷ [])
  unfolding renumbered
  saving_drops =
      let d = did_wanted list v c s same answered in
      ap (λ (o : ListReply). used_of o.list) d.does ∙ (into (renumbered s (newest_version list + 1)) list d.ok refl).keeps
      ∙ ap (λ (n : ℕ). cond (all_used list) (drop 1 (used_of list)) (used_of list) ++ (renumbered s n ∷ [])) (sym d.next)

  -- it is found until eight later ones came, and then no more
  pub saved_until : (calls : List SettingCall) → found_in (after_calls (called_on list c).list calls) v
      ≡ cond (ltb (later_saves (called_on list c).list calls) setting_places) (yields (renumbered s v)) (refused version_not_held)
  unfolding renumbered
  saved_until calls =
      let d = did_wanted list v c s same answered in
      let t : SavedSetting = renumbered s v in
      let some : v ≡ 0 → ⊥ = λ (z : v ≡ 0). omega (arith, z, d.next) in
      let next = into t list d.ok (sym d.next) in
      let left : (called_on list c).list ≡ saved_into t list =
      ap (λ (o : ListReply). o.list) d.does ∙ ap (λ (n : ℕ). saved_into (renumbered s n) list) (sym d.next) in
      let start : SavedSince v t 0 (saved_into t list) =
      record { ordered = next.ordered; newest = next.newest ∙ omega arith; stays = λ fewer. next.found } in
      let since : SavedSince v t 0 (called_on list c).list = subst (λ (l : List SavedSetting). SavedSince v t 0 l) (sym left) start in
      let after : List SavedSetting = (called_on list c).list in
      since_found v t some (later_saves after calls) (after_calls after calls)
      (recounted v t some (0 + later_saves after calls) (later_saves after calls) (after_calls after calls) (omega arith) (since_calls v t some 0 after calls since))
