-- Histories of a list of saved settings: calls one after another, refused ones among them.
use Rattle.std.specs.Prelude.{◌≡◌, cond, List, [], ◌∷◌, ℕ, ◌+◌}
use Rattle.saved_setting.specs.declared.SavedSetting.{SavedSetting}
use Rattle.saved_setting.specs.declared.Wanted.{Wanted}
use Rattle.saved_setting.specs.SavedSettings.{Reply, yields, refused, is_unused, clipped, ListReply, saved_wanted, found_in, saved_again}

-- the used places, which come first
unfoldable pub used_of : List SavedSetting → List SavedSetting
used_of [] = []
used_of (s ∷ list) = cond (is_unused s) [] (s ∷ used_of list)

-- the calls that change a list
pub data SettingCall : Type 0 where
  saving : Wanted → SettingCall
  going_back : ℕ → SettingCall

-- what a call says, and the list that it leaves
abbrev pub called_on : List SavedSetting → SettingCall → ListReply
called_on list (saving w) = saved_wanted list w
called_on list (going_back v) = saved_again list v

-- the setting that a call is to save: what is wanted, clipped; or what is found, as it stands
abbrev pub ToSave : List SavedSetting → SettingCall → SavedSetting → Type 0
ToSave list (saving w) s = clipped w ≡ s
ToSave list (going_back v) s = found_in list v ≡ yields s

-- the list after some calls, and how many of them saved
abbrev pub after_calls : List SavedSetting → List SettingCall → List SavedSetting
after_calls list [] = list
after_calls list (c ∷ calls) = after_calls (called_on list c).list calls

-- how many settings a reply has saved
abbrev pub saves_of : Reply ℕ → ℕ
saves_of (yields v) = 1
saves_of (refused n) = 0

-- how many settings calls save
abbrev pub later_saves : List SavedSetting → List SettingCall → ℕ
later_saves list [] = 0
later_saves list (c ∷ calls) = saves_of (called_on list c).reply + later_saves (called_on list c).list calls
