-- Saved settings (02, A11): a list of eight places; saving, finding and going back.
use Rattle.std.specs.Prelude.{◌≡◌, Bool, true, false, ◌&&◌, cond, List, [], ◌∷◌, ℕ, ◌+◌, eqb, leb, length, drop, Err, Ok, Result}
use Rattle.refusal.specs.Refusal.{not_saved_settings, bad_setting, version_not_held, no_version_left}
use Rattle.refusal.specs.declared.Refusal.{Refusal}
use Rattle.exposure.specs.Exposure.{rate25, rate30, fine_limit, coarse_limit, divisor_limit, is_gain}
use Rattle.saved_setting.specs.declared.SavedSetting.{SavedSetting}
use Rattle.saved_setting.specs.declared.Wanted.{Wanted}

-- What a call says.

-- what it was asked for, or a refusal with its number
pub data Reply (A : Type 0) : Type 0 where
  yields : A → Reply A
  refused : ℕ → Reply A

-- the paper's number and values of each case of the program's answers: of saving and going back, the new version
abbrev pub saved_reply : Result ℕ Refusal → Reply ℕ
saved_reply (Ok v) = yields v
saved_reply (Err r) = refused r.0

-- of finding, the setting: its version, fine, coarse, gain and clock divisor
abbrev pub held_reply : Result SavedSetting Refusal → Reply SavedSetting
held_reply (Ok s) = yields s
held_reply (Err r) = refused r.0

-- One setting.

-- gain code, divisor and frame rate
unfoldable pub is_allowed : Wanted → Bool
is_allowed w = cond (is_gain w.gain) (cond (leb w.divisor divisor_limit) (cond (eqb w.rate rate25) true (eqb w.rate rate30)) false) false

-- a number clipped at a limit
unfoldable pub lesser : ℕ → ℕ → ℕ
lesser n limit = cond (leb n limit) n limit

-- what is saved of a wanted setting, its version still to be given
unfoldable pub clipped : Wanted → SavedSetting
clipped w =
    record { version = 0; fine = lesser w.fine (fine_limit w.rate); coarse = lesser w.coarse coarse_limit; gain = w.gain; divisor = w.divisor }

-- the same setting under another version
unfoldable pub renumbered : SavedSetting → ℕ → SavedSetting
renumbered s v = record { version = v; fine = s.fine; coarse = s.coarse; gain = s.gain; divisor = s.divisor }

-- The list: used places come first, oldest first, with versions in unbroken sequence.

-- version 0 marks an unused place
abbrev pub is_unused : SavedSetting → Bool
is_unused s = eqb s.version 0

-- an unused place after any other; after a used one also the next version
unfoldable pub may_follow : SavedSetting → SavedSetting → Bool
may_follow before after = cond (is_unused after) true (cond (is_unused before) false (eqb (before.version + 1) after.version))

-- versions one after another, unused places last
unfoldable pub versions_in_order : List SavedSetting → Bool
versions_in_order [] = true
versions_in_order (s ∷ []) = true
versions_in_order (s ∷ t ∷ list) = may_follow s t && versions_in_order (t ∷ list)

-- how many settings a list holds (02, A11)
abbrev pub setting_places : ℕ
setting_places = 8

-- a list of saved settings; any other is 37
abbrev pub is_saved_list : List SavedSetting → Bool
is_saved_list list = eqb (length list) setting_places && versions_in_order list

-- Versions.

-- the greatest version
abbrev pub last_version : ℕ
last_version = 65535

-- the version of the last used place; 0 where none is used
unfoldable pub later_version : ℕ → ℕ → ℕ
later_version v after = cond (eqb after 0) v after

-- the newest version of a list, 0 of an empty one
unfoldable pub newest_version : List SavedSetting → ℕ
newest_version [] = 0
newest_version (s ∷ list) = later_version s.version (newest_version list)

-- the setting that has a version
unfoldable pub held_here : SavedSetting → ℕ → Reply SavedSetting → Reply SavedSetting
held_here s v rest = cond (eqb s.version v) (yields s) rest

-- the setting of a version
unfoldable pub look_up : ℕ → List SavedSetting → Reply SavedSetting
look_up v [] = refused version_not_held
look_up v (s ∷ list) = held_here s v (look_up v list)

-- A setting is put into the list: where all places are used the oldest is dropped.

-- no place is unused
unfoldable pub all_used : List SavedSetting → Bool
all_used [] = true
all_used (s ∷ list) = cond (is_unused s) false (all_used list)

-- at the first unused place, or behind them all
unfoldable pub put_in : SavedSetting → List SavedSetting → List SavedSetting
put_in s [] = s ∷ []
put_in s (t ∷ list) = cond (is_unused t) (s ∷ list) (t ∷ put_in s list)

-- a list with a setting saved: in the first unused place, or the oldest is dropped
unfoldable pub saved_into : SavedSetting → List SavedSetting → List SavedSetting
saved_into s list = put_in s (cond (all_used list) (drop 1 list) list)

-- What the calls say, and the list that they leave.

-- a reply, and the list as it is then
pub record ListReply : Type 0 where
  pub reply : Reply ℕ
  pub list : List SavedSetting

-- a refusal: the list stays
abbrev pub keeping_list : ℕ → List SavedSetting → ListReply
keeping_list n list = record { reply = refused n; list = list }

-- a setting is saved as it is, under one more than the newest version held
unfoldable pub saved_next : List SavedSetting → SavedSetting → ListReply
saved_next list s =
    cond (eqb (newest_version list) last_version) (keeping_list no_version_left list)
    (record { reply = yields (newest_version list + 1); list = saved_into (renumbered s (newest_version list + 1)) list })

-- save: 37, 29, 31, or the new version
unfoldable pub saved_wanted : List SavedSetting → Wanted → ListReply
saved_wanted list w =
    cond (is_saved_list list) (cond (is_allowed w) (saved_next list (clipped w)) (keeping_list bad_setting list)) (keeping_list not_saved_settings list)

-- find: 37, 30, or the setting
unfoldable pub found_in : List SavedSetting → ℕ → Reply SavedSetting
found_in list v = cond (is_saved_list list) (cond (eqb v 0) (refused version_not_held) (look_up v list)) (refused not_saved_settings)

-- going back: what is found is saved as it stands
abbrev pub saved_found : List SavedSetting → Reply SavedSetting → ListReply
saved_found list (yields s) = saved_next list s
saved_found list (refused n) = keeping_list n list

-- go back: 37, 30, 31, or the new version
unfoldable pub saved_again : List SavedSetting → ℕ → ListReply
saved_again list v = saved_found list (found_in list v)

-- Contracts.

-- a call that answers, and leaves the list, as said
pub record Leaves (said : ListReply) (answer : Result ℕ Refusal) (after : List SavedSetting) : Type 0 where
  pub answers : saved_reply answer ≡ said.reply
  pub leaves : after ≡ said.list
