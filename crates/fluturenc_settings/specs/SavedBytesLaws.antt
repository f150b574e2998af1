-- Laws of saved settings in bytes: settings are read back as they were stored, and bytes stored as they were read; calls on the bytes, one after
-- another, are those calls on the list that they hold.
use Rattle.std.specs.Prelude.{◌≡◌, refl, true, false, List, [], ◌∷◌, ◌++◌, ℕ, zero, suc, ◌+◌, ◌*◌, ◌/◌, ◌%◌, ◌<◌, ◌≤◌, eqb, length, get_or, drop, replicate}
use Rattle.std.proofs.Common.{sym, ap, subst, ◌∙◌, arith, eq-eqb, ne_eqb, eqb-true, length-drop, get_or-drop}
use Rattle.bits.specs.Every.{and_left}
use Rattle.refusal.specs.Refusal.{not_saved_settings}
use Rattle.line_records.specs.Lines.{from_two}
use Rattle.saved_setting.specs.declared.SavedSetting.{SavedSetting}
use Rattle.saved_setting.specs.SavedSettings.{Reply, yields, refused, may_follow, setting_places, versions_in_order, is_saved_list, ListReply, keeping_list, saved_wanted, found_in, saved_again}
use Rattle.saved_laws.specs.Histories.{used_of, SettingCall, saving, going_back, called_on, after_calls}
use Rattle.bits.specs.Tests.{sides}
use Rattle.saved_laws.specs.HistoryLaws.{refusal_keeps, stays_ordered}
use Rattle.fluturenc_settings.specs.SavedBytes.{place_size, list_size, place_bytes, list_bytes, front_setting, first_settings, list_in, bytes_after}

-- Settings and bytes.

pub held_list : (b : List ℕ) → length b ≡ list_size → first_settings setting_places b ≡ list_in b
unfolding list_in
held_list b h = simp (eq-eqb (length b) list_size h)

pub no_list : (b : List ℕ) → (length b ≡ list_size → ⊥) → list_in b ≡ []
unfolding list_in
no_list b h = simp (ne_eqb (length b) list_size h)

setting_back : (s : SavedSetting) (rest : List ℕ) → front_setting (place_bytes s ++ rest) ≡ s
unfolding front_setting
setting_back s rest =
    let v : from_two (s.version / 256) (s.version % 256) ≡ s.version = omega arith in
    let f : from_two (s.fine / 256) (s.fine % 256) ≡ s.fine = omega arith in
    let c : from_two (s.coarse / 256) (s.coarse % 256) ≡ s.coarse = omega arith in
    simp (v, f, c)

settings_back : (list : List SavedSetting) → first_settings (length list) (list_bytes list) ≡ list
settings_back [] = refl
settings_back (s ∷ list) =
    ap (λ (t : SavedSetting). t ∷ first_settings (length list) (list_bytes list)) (setting_back s (list_bytes list))
    ∙ ap (λ (l : List SavedSetting). s ∷ l) (settings_back list)

pub bytes_length : (list : List SavedSetting) → length (list_bytes list) ≡ length list * place_size
bytes_length [] = refl
bytes_length (s ∷ list) = omega (arith, bytes_length list)

-- eight settings that are stored are read back
pub list_back : (list : List SavedSetting) → length list ≡ setting_places → list_in (list_bytes list) ≡ list
list_back list h =
    let long : length (list_bytes list) ≡ list_size = omega (arith, bytes_length list, h) in
    sym (held_list (list_bytes list) long) ∙ ap (λ (n : ℕ). first_settings n (list_bytes list)) (sym h) ∙ settings_back list

eight_apart : (b : List ℕ) → place_size ≤ length b
    → get_or b 0 0 ∷ get_or b 1 0 ∷ get_or b 2 0 ∷ get_or b 3 0 ∷ get_or b 4 0 ∷ get_or b 5 0 ∷ get_or b 6 0 ∷ get_or b 7 0 ∷ drop place_size b ≡ b
eight_apart [] h = absurd (omega arith)
eight_apart (x0 ∷ []) h = absurd (omega arith)
eight_apart (x0 ∷ x1 ∷ []) h = absurd (omega arith)
eight_apart (x0 ∷ x1 ∷ x2 ∷ []) h = absurd (omega arith)
eight_apart (x0 ∷ x1 ∷ x2 ∷ x3 ∷ []) h = absurd (omega arith)
eight_apart (x0 ∷ x1 ∷ x2 ∷ x3 ∷ x4 ∷ []) h = absurd (omega arith)
eight_apart (x0 ∷ x1 ∷ x2 ∷ x3 ∷ x4 ∷ x5 ∷ []) h = absurd (omega arith)
eight_apart (x0 ∷ x1 ∷ x2 ∷ x3 ∷ x4 ∷ x5 ∷ x6 ∷ []) h = absurd (omega arith)
eight_apart (x0 ∷ x1 ∷ x2 ∷ x3 ∷ x4 ∷ x5 ∷ x6 ∷ x7 ∷ b) h = refl

high_back : (h l : ℕ) → l < 256 → from_two h l / 256 ≡ h
high_back h l small = omega arith

low_back : (h l : ℕ) → l < 256 → from_two h l % 256 ≡ l
low_back h l small = omega arith

first_back : (n : ℕ) (b : List ℕ) → length b ≡ n * place_size → ((i : ℕ) → get_or b i 0 < 256) → list_bytes (first_settings n b) ≡ b
unfolding front_setting
first_back zero [] h small = refl
first_back zero (x ∷ b) h small = absurd (omega (arith, h))
first_back (suc n) b h small =
    let long : length (drop place_size b) ≡ n * place_size = length-drop place_size b ∙ omega (arith, h) in
    let rest =
    first_back n (drop place_size b) long (λ i. subst (λ (k : ℕ). k < 256) (sym (get_or-drop place_size b i 0)) (small (place_size + i))) in
    simp
    (high_back (get_or b 0 0) (get_or b 1 0) (small 1), low_back (get_or b 0 0) (get_or b 1 0) (small 1), high_back (get_or b 2 0) (get_or b 3 0) (small 3), low_back (get_or b 2 0) (get_or b 3 0) (small 3), high_back (get_or b 4 0) (get_or b 5 0) (small 5), low_back (get_or b 4 0) (get_or b 5 0) (small 5), rest)
    (eight_apart b (omega (arith, h)))

-- the bytes of a list that is read are stored as they were
pub same_bytes : (b : List ℕ) → length b ≡ list_size → ((i : ℕ) → get_or b i 0 < 256) → list_bytes (list_in b) ≡ b
same_bytes b h small = ap list_bytes (sym (held_list b h)) ∙ first_back setting_places b h small

-- a fresh list is all 0: it is in order, and none of its places is used
pub fresh_list : (is_saved_list (list_in (replicate list_size 0)) ≡ true) × (used_of (list_in (replicate list_size 0)) ≡ [])
unfolding list_in front_setting versions_in_order may_follow used_of
fresh_list = (refl, refl)

-- Calls, one after another.

-- the bytes after a call, and after some
abbrev pub bytes_called : List ℕ → SettingCall → List ℕ
bytes_called b c = bytes_after (called_on (list_in b) c).reply (called_on (list_in b) c).list b

-- a list's bytes after calls one after another
abbrev pub bytes_after_calls : List ℕ → List SettingCall → List ℕ
bytes_after_calls b [] = b
bytes_after_calls b (c ∷ calls) = bytes_after_calls (bytes_called b c) calls

left_by_lem : (b : List ℕ) (list : List SavedSetting) (a : Reply ℕ) → length list ≡ setting_places → ((n : ℕ) → a ≡ refused n → list ≡ list_in b)
    → list_in (bytes_after a list b) ≡ list
left_by_lem b list (yields v) long same = list_back list long
left_by_lem b list (refused n) long same = sym (same n refl)

out_of_order : (list : List SavedSetting) (c : SettingCall) → is_saved_list list ≡ false → called_on list c ≡ keeping_list not_saved_settings list
unfolding saved_wanted saved_again found_in
out_of_order list (saving w) h = simp h
out_of_order list (going_back v) h = simp h

-- a call on the bytes leaves those of the list that it leaves
call_left : (b : List ℕ) (c : SettingCall) → list_in (bytes_called b c) ≡ (called_on (list_in b) c).list
call_left b c =
    sides (is_saved_list (list_in b))
    (λ ok.
    let after : List SavedSetting = (called_on (list_in b) c).list in
    left_by_lem b after (called_on (list_in b) c).reply
    (eqb-true (length after) setting_places (and_left (eqb (length after) setting_places) (versions_in_order after) (stays_ordered (list_in b) c ok)))
    (refusal_keeps (list_in b) c))
    (λ no. subst (λ (o : ListReply). list_in (bytes_after o.reply o.list b) ≡ o.list) (sym (out_of_order (list_in b) c no)) refl)

-- whatever calls are made, what the bytes hold is the list that the same calls leave
pub calls_left : (b : List ℕ) (calls : List SettingCall) → list_in (bytes_after_calls b calls) ≡ after_calls (list_in b) calls
calls_left b [] = refl
calls_left b (c ∷ calls) =
    calls_left (bytes_called b c) calls ∙ ap (λ (l : List SavedSetting). after_calls l calls) (call_left b c)
