-- What a request does to a list of saved settings, and to the text of one.
use Rattle.std.specs.Prelude.{◌≡◌, Bool, true, false, cond, List, [], ◌++◌, ℕ, get_or}
use Rattle.refusal.specs.Refusal.{not_saved_settings}
use Rattle.text.specs.Text.{ascii}
use Rattle.text.specs.Put.{Puts}
use Rattle.saved_setting.specs.declared.SavedSetting.{SavedSetting}
use Rattle.saved_setting.specs.SavedSettings as reply
use Rattle.saved_setting.specs.SavedSettings.{Reply, is_unused, saved_wanted, found_in, saved_again}
use Rattle.saved_lines.specs.SavedLines.{setting_line, unused, settings_text}
use Rattle.saved_text.specs.SettingsText.{numbers_of, is_settings_text}
use Rattle.settings_replies.specs.SettingsWords.{notes, refused_request, writes_of}
use Rattle.settings_request.specs.declared.Request.{Request}
use Rattle.settings_request.specs.declared.Request.TheVariants.{Save, Find, Back, ListAll, Messages}
use Rattle.settings_request.specs.declared.Response.{Response}
use Rattle.settings_request.specs.declared.Served.{Served}

-- On a list.

-- the list afterwards, what is said, and whether the list is another, or the request refused
pub record RequestEffect : Type 0 where
  pub list : List SavedSetting
  pub text : List ℕ
  pub changed : Bool
  pub refused : Bool

-- nothing is changed but for a setting that is saved
abbrev pub telling : List SavedSetting → List ℕ → RequestEffect
telling list text = record { list = list; text = text; changed = false; refused = false }

-- a refused request: the list stays
abbrev pub refusing_request : List SavedSetting → ℕ → RequestEffect
refusing_request list n = record { list = list; text = refused_request n; changed = false; refused = true }

-- what is found, as its line
unfoldable pub held_line : Reply SavedSetting → List ℕ
held_line (reply.yields s) = setting_line s
held_line (reply.refused n) = refused_request n

-- what was saved is said as it is then found
unfoldable pub saving : List SavedSetting → List ℕ → Reply ℕ → RequestEffect
saving list more (reply.yields v) = record { list = list; text = held_line (found_in list v) ++ more; changed = true; refused = false }
saving list more (reply.refused n) = refusing_request list n

-- the line of what is found, or its messages
unfoldable pub looking_up : List SavedSetting → Reply SavedSetting → RequestEffect
looking_up list (reply.yields s) = telling list (setting_line s)
looking_up list (reply.refused n) = refusing_request list n

-- the messages of a setting that is found, or its refusal
unfoldable pub sending : List SavedSetting → Reply SavedSetting → RequestEffect
sending list (reply.yields s) = telling list (writes_of s)
sending list (reply.refused n) = refusing_request list n

-- a list in words
unfoldable pub listed_text : List SavedSetting → List ℕ
listed_text list = cond (is_unused (get_or list 0 unused)) (ascii "nothing is saved yet\n") (settings_text list)

-- a request's effect: after saving, what was clipped is said too
abbrev pub request_effect : Request → List SavedSetting → RequestEffect
request_effect (Save w) list = saving (saved_wanted list w).list (notes w) (saved_wanted list w).reply
request_effect (Find v) list = looking_up list (found_in list v)
request_effect (Back v) list = saving (saved_again list v).list [] (saved_again list v).reply
request_effect ListAll list = telling list (listed_text list)
request_effect (Messages v) list = sending list (found_in list v)

-- a call that has an effect, and puts what is said at the front of a buffer
pub record Responds (e : RequestEffect) (before after : List ℕ) (r : Response) : Type 0 where
  pub lists : r.list ≡ e.list
  pub changes : r.changed ≡ e.changed
  pub refuses : r.refused ≡ e.refused
  pub says : Puts before 0 e.text r.said after

-- On a text.

-- the text of the list afterwards, what is said, and as above
pub record Service : Type 0 where
  pub file : List ℕ
  pub text : List ℕ
  pub changed : Bool
  pub refused : Bool

-- what a request makes of the file, and what is said
abbrev pub written : RequestEffect → Service
written e = record { file = settings_text e.list; text = e.text; changed = e.changed; refused = e.refused }

-- a text that is no list's is refused
unfoldable pub service : Request → List ℕ → Service
service q text =
    cond (is_settings_text text) (written (request_effect q (numbers_of text)))
    (record { file = []; text = refused_request not_saved_settings; changed = false; refused = true })

-- what a call gives: both buffers, and what was done
pub record Serves (s : Service) (file_before file_after before after : List ℕ) (r : Served) : Type 0 where
  pub changes : r.changed ≡ s.changed
  pub refuses : r.refused ≡ s.refused
  pub writes : Puts file_before 0 s.file r.file file_after
  pub says : Puts before 0 s.text r.said after
