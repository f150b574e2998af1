-- The text of a list of saved settings is read back as that list. Its lines are gathered one after another, each in its place; characters that
-- don't count leave what is gathered as it is; and the list that was read has the text that was written.
use Rattle.std.specs.Prelude.{◌≡◌, refl, Bool, true, false, ◌&&◌, cond, ℕ, zero, suc, ◌+◌, ◌/◌, ◌%◌, eqb, ltb, length, drop, get_or, set, replicate}
use Rattle.std.proofs.Common.{sym, ◌∙◌, true≢false, arith, length-append, lt-ltb, le-ltb, eq-eqb, eqb-true, ne_eqb}
use Rattle.std.proofs.Math.Path.{ap, subst}
use mathlib.Core.List.{List, [], ◌∷◌, ◌++◌, append-nil, append_assoc}
use Rattle.std.proofs.lemmas.List.{length-map}
use Rattle.std.proofs.Math.ListN.{get_or-map}
use Rattle.std.proofs.Math.Seq.{append_snoc, set-append_seam}
use Rattle.bits.specs.Every.{and_left, and_right, and_both}
use Rattle.bits.specs.Tests.{sides, by_test}
use Rattle.text.specs.Text.{ascii, newline, digit, digits, decimal}
use Rattle.saved_setting.specs.declared.SavedSetting.{SavedSetting}
use Rattle.saved_setting.specs.SavedSettings.{is_unused, may_follow, versions_in_order, setting_places, is_saved_list}
use Rattle.saved_laws.specs.Histories.{used_of}
use Rattle.saved_laws.specs.OrderLaws.{unused_follows, order_tail, order_head}
use Rattle.saved_text.specs.declared.Restored.{Restored}
use Rattle.saved_lines.specs.SavedLines.{setting_line, place_line, unused, place_lines, settings_text}
use Rattle.saved_text.specs.SettingsText.{TextGathered, no_fields, fields_after, with_setting_line, gathered_after, gathered_over, nothing_gathered, numbers_of, carriage_return, cover_of, starts_by, may_stand, at_most_newline, is_like, is_settings_text, restored}
use Rattle.saved_text_laws.specs.SettingsRead.{InFields, AllInFields, place_restored, list_restored, ZerosUnused, with_returns, RestoredAs, TextRestores}
use Rattle.saved_text_laws.proofs.FieldRanges.{numbers_in_fields}
use Rattle.saved_text_laws.proofs.NumberRead.{over_append, setting_back, line_read_lem}

-- A list as it is read back.

restored_unused : (s : SavedSetting) → is_unused s ≡ true → place_restored s ≡ unused
unfolding place_restored
restored_unused s u = simp u

restored_used : (s : SavedSetting) → is_unused s ≡ false → place_restored s ≡ s
unfolding place_restored
restored_used s u = simp u

restored_version : (s : SavedSetting) → (place_restored s).version ≡ s.version
unfolding place_restored
restored_version s = by_test (λ (r : SavedSetting). r.version ≡ s.version) (is_unused s) (λ u. sym (eqb-true s.version 0 u)) (λ u. refl)

restored_line : (s : SavedSetting) → place_line (place_restored s) ≡ place_line s
unfolding place_line
restored_line s =
    sides (is_unused s) (λ u. let e = restored_unused s u in simp (e, u)) (λ u. let e = restored_used s u in simp e)

restored_lines : (n : ℕ) (list : List SavedSetting) → place_lines n (list_restored list) ≡ place_lines n list
unfolding place_restored
restored_lines zero list = refl
restored_lines (suc n) list =
    rw (restored_lines n list, get_or-map place_restored list n unused, restored_line (get_or list n unused)) refl

restored_follow : (s t : SavedSetting) → may_follow (place_restored s) (place_restored t) ≡ may_follow s t
unfolding may_follow
restored_follow s t = simp (restored_version s, restored_version t)

restored_order : (list : List SavedSetting) → versions_in_order (list_restored list) ≡ versions_in_order list
unfolding versions_in_order
restored_order [] = refl
restored_order (s ∷ []) = refl
restored_order (s ∷ t ∷ list) = rw (restored_follow s t, restored_order (t ∷ list)) refl

restored_first : (list : List SavedSetting) → used_of (list_restored list) ≡ used_of list
unfolding used_of
restored_first [] = refl
restored_first (s ∷ list) =
    sides (is_unused s) (λ u. simp (restored_version s, u)) (λ u. simp (restored_used s u, u, restored_first list))

restored_whole : (list : List SavedSetting) → ZerosUnused list → list_restored list ≡ list
restored_whole [] z = refl
restored_whole (s ∷ list) z =
    let place : place_restored s ≡ s = sides (is_unused s) (λ u. restored_unused s u ∙ sym (z.0 u)) (restored_used s) in
    rw (place, restored_whole list z.1) refl

-- Lines one after another, each gathered in its place.

-- what is gathered once the settings of some places are, and some places are left
abbrev gathered_at : List SavedSetting → ℕ → TextGathered
gathered_at before n = record { list = before ++ replicate n unused; count = length before; fields = no_fields }

-- a list is gathered, and the text's end adds nothing to it
record IsGathered (g : TextGathered) (list : List SavedSetting) : Type 0 where
  so_far : g.list ≡ list
  at_end : (with_setting_line g).list ≡ list

lines_first : (n : ℕ) (s : SavedSetting) (list : List SavedSetting) → place_lines (suc n) (s ∷ list) ≡ place_line s ++ place_lines n list
lines_first zero s list = sym (append-nil (place_line s))
lines_first (suc n) s list =
    ap (λ (t : List ℕ). t ++ place_line (get_or list n unused)) (lines_first n s list) ∙ append_assoc (place_line s) (place_lines n list) (place_line (get_or list n unused))

-- from an unused place on: no lines, and zeros are read back
unused_lines : (s : SavedSetting) (list : List SavedSetting) → versions_in_order (s ∷ list) ≡ true → is_unused s ≡ true
    → (place_lines (length (s ∷ list)) (s ∷ list) ≡ []) × (list_restored (s ∷ list) ≡ replicate (length (s ∷ list)) unused)
unfolding place_line
unused_lines s [] h u = (simp u, ap (λ (t : SavedSetting). t ∷ []) (restored_unused s u))
unused_lines s (t ∷ list) h u =
    let rest = unused_lines t list (order_tail s (t ∷ list) h) (unused_follows s t (order_head s t list h) u) in
    (lines_first (length (t ∷ list)) s (t ∷ list) ∙ simp (u, rest.0), rw (restored_unused s u, rest.1) refl)

-- a setting's line, at the first place that is left
place_gathered : (before : List SavedSetting) (n : ℕ) (s : SavedSetting) → length before + suc n ≡ setting_places → InFields s → is_unused s ≡ false
    → gathered_over (gathered_at before (suc n)) (place_line s) ≡ gathered_at (before ++ (s ∷ [])) n
unfolding place_line
place_gathered before n s long r u =
    let here : ltb (length before) 8 ≡ true = lt-ltb (length before) 8 (omega (arith, long)) in
    let put : set (before ++ (unused ∷ replicate n unused)) (length before) s ≡ (before ++ (s ∷ [])) ++ replicate n unused
    = set-append_seam before unused (replicate n unused) s ∙ sym (append_snoc before s (replicate n unused)) in
    let more : length before + 1 ≡ length (before ++ (s ∷ [])) = sym (length-append before (s ∷ [])) in
    simp u (line_read_lem (gathered_at before (suc n)) s r ∙ simp (here, setting_back s r, put, more))

places_gathered : (before list : List SavedSetting) → length before + length list ≡ setting_places → versions_in_order list ≡ true → AllInFields list
    → IsGathered (gathered_over (gathered_at before (length list)) (place_lines (length list) list)) (before ++ list_restored list)
places_gathered before [] long h r =
    let full : ltb (length before) 8 ≡ false = le-ltb (length before) 8 (omega (arith, long)) in
    record { so_far = refl; at_end = simp full }
places_gathered before (s ∷ list) long h r =
    sides (is_unused s)
    (λ u.
    let none = unused_lines s list h u in
    let here : ltb (length before) 8 ≡ true = lt-ltb (length before) 8 (omega (arith, long)) in
    rw (none.0, none.1)
    (record { so_far = refl; at_end = simp here (set-append_seam before unused (replicate (length list) unused) unused) }))
    (λ u.
    let next : length (before ++ (s ∷ [])) + length list ≡ setting_places = rw (length-append before (s ∷ [])) (omega (arith, long)) in
    let rest = places_gathered (before ++ (s ∷ [])) list next (order_tail s list h) r.1 in
    let front = over_append (gathered_at before (suc (length list))) (place_line s) (place_lines (length list) list) in
    let here = place_gathered before (length list) s long r.0 u in
    rw (lines_first (length list) s list, front, here, restored_used s u, ← append_snoc before s (list_restored list))
    rest)

-- Characters that don't count.

return_kept : (g : TextGathered) (c : ℕ) → eqb c carriage_return ≡ true → gathered_after g c ≡ g
unfolding gathered_after fields_after
return_kept g c e = subst (λ (x : ℕ). gathered_after g x ≡ g) (sym (eqb-true c carriage_return e)) refl

-- a carriage return stands anywhere and takes nothing; another character is the next one
return_like : (c : ℕ) (text whole : List ℕ) → eqb c carriage_return ≡ true → is_like (c ∷ text) whole ≡ is_like text whole
unfolding may_stand cover_of
return_like c text whole e = simp e

next_like : (c : ℕ) (text whole : List ℕ) → eqb c carriage_return ≡ false → is_like (c ∷ text) whole ≡ (starts_by c whole && is_like text (drop 1 whole))
unfolding may_stand cover_of
next_like c text whole e = simp e

-- a text that is like another is gathered as that one is
like_gathered : (list : List SavedSetting) (text whole : List ℕ) (g : TextGathered) → is_like text whole ≡ true → IsGathered (gathered_over g whole) list
    → (with_setting_line (gathered_over g text)).list ≡ list
unfolding gathered_after
like_gathered list [] [] g h is = is.at_end
like_gathered list [] (c ∷ []) g h is = subst (λ (x : ℕ). (gathered_after g x).list ≡ list) (eqb-true c newline h) is.so_far
like_gathered list [] (c ∷ b ∷ whole) g h is = absurd (true≢false (sym h))
like_gathered list (c ∷ text) [] g h is =
    sides (eqb c carriage_return)
    (λ e. like_gathered list text [] (gathered_after g c) (sym (return_like c text [] e) ∙ h) (rw (return_kept g c e) is))
    (λ e. absurd (true≢false (sym (sym (next_like c text [] e) ∙ h))))
like_gathered list (c ∷ text) (b ∷ whole) g h is =
    sides (eqb c carriage_return)
    (λ e. like_gathered list text (b ∷ whole) (gathered_after g c) (sym (return_like c text (b ∷ whole) e) ∙ h) (rw (return_kept g c e) is))
    (λ e.
    let both = sym (next_like c text (b ∷ whole) e) ∙ h in
    let same = eqb-true b c (and_left (eqb b c) (is_like text whole) both) in
    like_gathered list text whole (gathered_after g c) (and_right (eqb b c) (is_like text whole) both)
    (subst (λ (x : ℕ). IsGathered (gathered_over (gathered_after g x) whole) list) same is))

-- The characters of a list's text.

-- no carriage return stands in it
abbrev no_returns : List ℕ → Bool
no_returns [] = true
no_returns (c ∷ text) = cond (eqb c carriage_return) false true && no_returns text

returnless_append : (s t : List ℕ) → no_returns s ≡ true → no_returns t ≡ true → no_returns (s ++ t) ≡ true
returnless_append [] t h k = k
returnless_append (c ∷ s) t h k =
    and_both (cond (eqb c carriage_return) false true) (no_returns (s ++ t)) (and_left (cond (eqb c carriage_return) false true) (no_returns s) h)
    (returnless_append s t (and_right (cond (eqb c carriage_return) false true) (no_returns s) h) k)

returnless_digit : (d : ℕ) → no_returns (digit d ∷ []) ≡ true
returnless_digit d = simp (ne_eqb (digit d) carriage_return (λ e. omega (arith, e)))

returnless_digits : (k n : ℕ) → no_returns (digits k n) ≡ true
returnless_digits zero n = refl
returnless_digits (suc k) n =
    by_test (λ (t : List ℕ). no_returns t ≡ true) (ltb n 10) (λ e. returnless_digit n)
    (λ e. returnless_append (digits k (n / 10)) (digit (n % 10) ∷ []) (returnless_digits k (n / 10)) (returnless_digit (n % 10)))

returnless_field : (name : List ℕ) (n : ℕ) (rest : List ℕ) → no_returns name ≡ true → no_returns rest ≡ true → no_returns ((name ++ decimal n) ++ rest) ≡ true
unfolding decimal
returnless_field name n rest h k = returnless_append (name ++ decimal n) rest (returnless_append name (decimal n) h (returnless_digits 20 n)) k

returnless_line : (s : SavedSetting) → no_returns (setting_line s) ≡ true
returnless_line s =
    returnless_field (ascii "version ") s.version _ refl
    (returnless_field (ascii ": fine ") s.fine _ refl
    (returnless_field (ascii ", coarse ") s.coarse _ refl
    (returnless_field (ascii ", gain ") s.gain _ refl (returnless_field (ascii ", divisor ") s.divisor (newline ∷ []) refl refl))))

-- a place's line, or none
by_place : (P : List ℕ → Type 0) (s : SavedSetting) → P [] → P (setting_line s) → P (place_line s)
unfolding place_line
by_place P s none line = by_test P (is_unused s) (λ u. none) (λ u. line)

returnless_lines : (n : ℕ) (list : List SavedSetting) → no_returns (place_lines n list) ≡ true
returnless_lines zero list = refl
returnless_lines (suc n) list =
    let s = get_or list n unused in
    returnless_append (place_lines n list) (place_line s) (returnless_lines n list) (by_place (λ (t : List ℕ). no_returns t ≡ true) s refl (returnless_line s))

-- Texts that are like it.

is_not : (b : Bool) → cond b false true ≡ true → b ≡ false
is_not true h = absurd (true≢false (sym h))
is_not false h = refl

-- one more character of both
also_like : (c : ℕ) (text whole : List ℕ) → eqb c carriage_return ≡ false → is_like text whole ≡ true → is_like (c ∷ text) (c ∷ whole) ≡ true
also_like c text whole e h = next_like c text (c ∷ whole) e ∙ and_both (eqb c c) (is_like text whole) (eq-eqb c c refl) h

module _ (c : ℕ) (text : List ℕ) (h : no_returns (c ∷ text) ≡ true) where
  returnless_first : eqb c carriage_return ≡ false
  returnless_first = is_not (eqb c carriage_return) (and_left (cond (eqb c carriage_return) false true) (no_returns text) h)

  returnless_rest : no_returns text ≡ true
  returnless_rest = and_right (cond (eqb c carriage_return) false true) (no_returns text) h

-- all of it but its last newline, and the whole
like_front : (text end : List ℕ) → at_most_newline end ≡ true → no_returns (text ++ end) ≡ true → is_like text (text ++ end) ≡ true
like_front [] end short h = short
like_front (c ∷ text) end short h =
    also_like c text (text ++ end) (returnless_first c (text ++ end) h) (like_front text end short (returnless_rest c (text ++ end) h))

like_itself : (text : List ℕ) → no_returns text ≡ true → is_like text text ≡ true
like_itself text h = subst (λ (t : List ℕ). is_like text t ≡ true) (append-nil text) (like_front text [] refl (rw (append-nil text) h))

-- with carriage returns
returns_like : (text : List ℕ) → no_returns text ≡ true → is_like (with_returns text) text ≡ true
returns_like [] h = refl
returns_like (c ∷ text) h =
    let rest = also_like c (with_returns text) text (returnless_first c text h) (returns_like text (returnless_rest c text h)) in
    by_test (λ (t : List ℕ). is_like t (c ∷ text) ≡ true) (eqb c newline)
    (λ e. return_like carriage_return (c ∷ with_returns text) (c ∷ text) refl ∙ rest) (λ e. rest)

-- Read back.

-- the text of any list of saved settings, in any form that is like it
module _ (list : List SavedSetting) (saved : is_saved_list list ≡ true) (r : AllInFields list) where
  long : length list ≡ setting_places
  long = eqb-true (length list) setting_places (and_left (eqb (length list) setting_places) (versions_in_order list) saved)

  whole_gathered : IsGathered (gathered_over nothing_gathered (place_lines 8 list)) (list_restored list)
  whole_gathered =
      subst (λ (n : ℕ). IsGathered (gathered_over (gathered_at [] n) (place_lines n list)) (list_restored list)) long
      (places_gathered [] list (omega (arith, long)) (and_right (eqb (length list) setting_places) (versions_in_order list) saved) r)

  restored_saved : is_saved_list (list_restored list) ≡ true
  restored_saved = rw (length-map list place_restored, restored_order list) saved

  restored_text : settings_text (list_restored list) ≡ settings_text list
  unfolding settings_text
  restored_text = restored_lines 8 list

  module _ (text : List ℕ) (like : is_like text (settings_text list) ≡ true) where
    like_numbers : numbers_of text ≡ list_restored list
    unfolding settings_text numbers_of
    like_numbers = like_gathered (list_restored list) text (place_lines 8 list) nothing_gathered like whole_gathered

    like_valid : is_settings_text text ≡ true
    unfolding is_settings_text
    like_valid =
        rw (like_numbers, restored_text) (and_both (is_like text (settings_text list)) (is_saved_list (list_restored list)) like restored_saved)

    like_restored : RestoredAs list text
    like_restored = rw (like_numbers, like_valid) refl

  -- no other text is read so
  only_like : (text : List ℕ) → RestoredAs list text → is_like text (settings_text list) ≡ true
  unfolding is_settings_text
  only_like text e =
      let numbers : numbers_of text ≡ list_restored list = ap (λ (x : Restored). x.list) e in
      let like = and_left (is_like text (settings_text (numbers_of text))) (is_saved_list (numbers_of text)) (ap (λ (x : Restored). x.valid) e) in
      subst (λ (t : List ℕ). is_like text t ≡ true) (ap settings_text numbers ∙ restored_text) like

  returnless_text : no_returns (settings_text list) ≡ true
  unfolding settings_text
  returnless_text = returnless_lines 8 list

  pub text_restores : TextRestores list
  text_restores =
      record {
        written = like_restored (settings_text list) (like_itself (settings_text list) returnless_text);
        returned = like_restored (with_returns (settings_text list)) (returns_like (settings_text list) returnless_text);
        unended = λ text e. like_restored text (subst (λ (t : List ℕ). is_like text t ≡ true) e (like_front text (newline ∷ []) refl (rw e returnless_text)));
        like = like_restored;
        only = only_like;
        used = restored_first list;
        zeros = restored_whole list;
      }

-- a text that is valid: its list, written and read, is what it was read as
pub read_again : (text : List ℕ) → (restored text).valid ≡ true → restored (settings_text (restored text).list) ≡ restored text
unfolding is_settings_text
read_again text valid =
    let list = numbers_of text in
    let back = text_restores list (and_right (is_like text (settings_text list)) (is_saved_list list) valid) (numbers_in_fields text) in
    back.written ∙ sym (back.like text (and_left (is_like text (settings_text list)) (is_saved_list list) valid))
