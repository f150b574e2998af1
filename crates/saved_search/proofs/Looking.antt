-- A list of places looked through from a place on: one place, and the rest behind it.
use Rattle.std.specs.Prelude.{◌≡◌, refl, Bool, true, false, ◌&&◌, cond, List, [], ◌∷◌, ◌++◌, ℕ, zero, suc, ◌+◌, ◌<◌, ◌≤◌, eqb, length, get_or, set, take, drop}
use Rattle.std.proofs.Common.{sym, ap, ◌∙◌, true≢false, arith, eq-eqb, ne_eqb, append_assoc, add-one}
use Rattle.std.proofs.Math.ListN.{drop_of_length-le}
use Rattle.std.proofs.lemmas.List.{drop_more, take_more, set_split}
use Rattle.refusal.specs.Refusal.{version_not_held}
use Rattle.saved_setting.specs.declared.SavedSetting.{SavedSetting}
use Rattle.saved_setting.specs.SavedSettings.{yields, refused, is_unused, may_follow, versions_in_order, later_version, newest_version, held_here, look_up, all_used, put_in, saved_into}

-- the checker's element past an array's end
abbrev pub absent : SavedSetting
absent = record { version = 0; fine = 0; coarse = 0; gain = 0; divisor = 0 }

-- The setting under a version.

pub looked_here : (l : List SavedSetting) (v i : ℕ) (d : SavedSetting) → i < length l → (get_or l i d).version ≡ v → look_up v (drop i l) ≡ yields (get_or l i d)
unfolding look_up held_here
looked_here l v i d h e = ap (look_up v) (drop_more l i d h) ∙ simp (eq-eqb _ _ e)

pub looked_past : (l : List SavedSetting) (v i : ℕ) (d : SavedSetting) → i < length l → ((get_or l i d).version ≡ v → ⊥)
    → look_up v (drop i l) ≡ look_up v (drop (i + 1) l)
unfolding look_up held_here
looked_past l v i d h e = ap (look_up v) (drop_more l i d h) ∙ simp (ne_eqb _ _ e)

pub looked_out : (l : List SavedSetting) (v i : ℕ) → length l ≤ i → look_up v (drop i l) ≡ refused version_not_held
unfolding look_up
looked_out l v i h = ap (look_up v) (drop_of_length-le l h)

-- The newest version.

pub later_none : (v : ℕ) → later_version 0 v ≡ v
unfolding later_version
later_none zero = refl
later_none (suc v) = simp (ne_eqb (suc v) 0 (λ e. omega (arith, e)))

later_unused : (n a : ℕ) → later_version n (later_version 0 a) ≡ later_version n a
later_unused n a = ap (later_version n) (later_none a)

later_used : (n v a : ℕ) → (v ≡ 0 → ⊥) → later_version n (later_version v a) ≡ later_version v a
unfolding later_version
later_used n v zero h = simp (ne_eqb v 0 h)
later_used n v (suc a) h = simp (ne_eqb (suc a) 0 (λ e. omega (arith, e)))

pub newest_unused : (l : List SavedSetting) (n i : ℕ) (d : SavedSetting) → i < length l → (get_or l i d).version ≡ 0
    → later_version n (newest_version (drop i l)) ≡ later_version n (newest_version (drop (i + 1) l))
unfolding newest_version
newest_unused l n i d h e =
    ap (λ (r : List SavedSetting). later_version n (newest_version r)) (drop_more l i d h)
    ∙ ap (λ (v : ℕ). later_version n (later_version v (newest_version (drop (i + 1) l)))) e
    ∙ later_unused n (newest_version (drop (i + 1) l))

pub newest_used : (l : List SavedSetting) (n i : ℕ) (d : SavedSetting) → i < length l → ((get_or l i d).version ≡ 0 → ⊥)
    → later_version n (newest_version (drop i l)) ≡ later_version (get_or l i d).version (newest_version (drop (i + 1) l))
unfolding newest_version
newest_used l n i d h e =
    ap (λ (r : List SavedSetting). later_version n (newest_version r)) (drop_more l i d h)
    ∙ later_used n (get_or l i d).version (newest_version (drop (i + 1) l)) e

pub newest_out : (l : List SavedSetting) (n i : ℕ) → length l ≤ i → later_version n (newest_version (drop i l)) ≡ n
unfolding newest_version later_version
newest_out l n i h = ap (λ (r : List SavedSetting). later_version n (newest_version r)) (drop_of_length-le l h)

-- The order.

pub order_step : (l : List SavedSetting) (i : ℕ) (d : SavedSetting) → i + 1 < length l
    → versions_in_order (drop i l) ≡ (may_follow (get_or l i d) (get_or l (i + 1) d) && versions_in_order (drop (i + 1) l))
unfolding versions_in_order
order_step l i d h =
    let next : drop (i + 1) l ≡ get_or l (i + 1) d ∷ drop (i + 1 + 1) l = drop_more l (i + 1) d h in
    ap versions_in_order (drop_more l i d (omega arith) ∙ ap (λ (r : List SavedSetting). get_or l i d ∷ r) next)
    ∙ ap (λ (r : List SavedSetting). may_follow (get_or l i d) (get_or l (i + 1) d) && versions_in_order r) (sym next)

pub order_last : (l : List SavedSetting) (i : ℕ) (d : SavedSetting) → length l ≡ i + 1 → versions_in_order (drop i l) ≡ true
unfolding versions_in_order
order_last l i d h =
    ap versions_in_order (drop_more l i d (omega (arith, h)) ∙ ap (λ (r : List SavedSetting). get_or l i d ∷ r) (drop_of_length-le l {i = i + 1} (omega (arith, h))))

-- A setting put in.

-- the places before a place are used: what is put in is put in from there on
pub record Passed (s : SavedSetting) (l : List SavedSetting) (i : ℕ) : Type 0 where
  pub used : all_used l ≡ all_used (drop i l)
  pub kept : put_in s l ≡ take i l ++ put_in s (drop i l)

pub passed_none : (s : SavedSetting) (l : List SavedSetting) → Passed s l 0
passed_none s l = record { used = refl; kept = refl }

pub passed_more : (s : SavedSetting) (l : List SavedSetting) (i : ℕ) (d : SavedSetting) → i < length l → ((get_or l i d).version ≡ 0 → ⊥)
    → Passed s l i → Passed s l (i + 1)
unfolding all_used put_in
passed_more s l i d h e p =
    let here = drop_more l i d h in
    let n = ne_eqb (get_or l i d).version 0 e in
    record {
      used = p.used ∙ ap all_used here ∙ simp n;
      kept =
          p.kept
          ∙ ap (λ (r : List SavedSetting). take i l ++ put_in s r) here
          ∙ simp n (sym (append_assoc (take i l) (get_or l i d ∷ []) (put_in s (drop (i + 1) l))))
          ∙ ap (λ (r : List SavedSetting). r ++ put_in s (drop (i + 1) l)) (sym (take_more l i d h));
    }

pub passed_at : (s : SavedSetting) (l : List SavedSetting) (i : ℕ) (d : SavedSetting) → i < length l → (get_or l i d).version ≡ 0 → Passed s l i
    → saved_into s l ≡ set l i s
unfolding all_used put_in saved_into
passed_at s l i d h e p =
    let here = drop_more l i d h in
    let u = eq-eqb (get_or l i d).version 0 e in
    let some : all_used l ≡ false = p.used ∙ ap all_used here ∙ simp u in
    simp some (p.kept ∙ ap (λ (r : List SavedSetting). take i l ++ put_in s r) here ∙ simp u (ap (λ (k : ℕ). take i l ++ (s ∷ drop k l)) (add-one i) ∙ sym (set_split l i s h)))

all_put : (s : SavedSetting) (l : List SavedSetting) → all_used l ≡ true → put_in s l ≡ l ++ (s ∷ [])
unfolding all_used put_in
all_put s [] e = refl
all_put s (t ∷ l) e = go (is_unused t) (all_put s l) e
  where
    go : (u : Bool) → (all_used l ≡ true → put_in s l ≡ l ++ (s ∷ [])) → cond u false (all_used l) ≡ true
        → cond u (s ∷ l) (t ∷ put_in s l) ≡ t ∷ (l ++ (s ∷ []))
    go true rest f = absurd (true≢false (sym f))
    go false rest f = ap (λ (r : List SavedSetting). t ∷ r) (rest f)

all_after : (l : List SavedSetting) → all_used l ≡ true → all_used (drop 1 l) ≡ true
unfolding all_used
all_after [] e = refl
all_after (t ∷ l) e = go (is_unused t) e
  where
    go : (u : Bool) → cond u false (all_used l) ≡ true → all_used l ≡ true
    go true f = absurd (true≢false (sym f))
    go false f = f

pub passed_all : (s : SavedSetting) (l : List SavedSetting) (i : ℕ) → length l ≤ i → Passed s l i → saved_into s l ≡ drop 1 l ++ (s ∷ [])
unfolding all_used saved_into
passed_all s l i h p =
    let all : all_used l ≡ true = p.used ∙ ap all_used (drop_of_length-le l h) in
    simp all (all_put s (drop 1 l) (all_after l all))
