-- A request about saved settings, in words: a verb, and the numbers after it.
use Rattle.std.specs.Prelude.{Bool, false, ◌&&◌, cond, List, ℕ, eqb, leb}
use Rattle.text.specs.Text.{ascii}
use Rattle.command_word.specs.Word.{same}
use Rattle.saved_setting.specs.declared.Wanted.{Wanted}
use Rattle.settings_request.specs.declared.Request.TheVariants.{Save, Find, Back, ListAll, Messages}
use Rattle.settings_typed.specs.declared.NumberWords.{NumberWords}
use Rattle.settings_typed.specs.declared.TypedRequest.{TypedRequest}

-- a number up to 65,535; what is none stands above (crate typed_setting)
abbrev pub is_number : ℕ → Bool
is_number n = leb n 65535

-- a number that is above a limit counts as the limit
unfoldable pub up_to : ℕ → ℕ → ℕ
up_to limit n = cond (leb n limit) n limit

-- fine, coarse, gain, divisor and rate; gain, divisor or rate that is no number up to 255 counts as 255, which no setting may have
abbrev pub wanted_in : NumberWords → Wanted
wanted_in w =
    record { fine = up_to 65535 w.first; coarse = up_to 65535 w.second; gain = up_to 255 w.third; divisor = up_to 255 w.fourth; rate = up_to 255 w.fifth }

-- five words, of which fine and coarse are numbers
unfoldable pub are_five : NumberWords → Bool
are_five w = eqb w.count 5 && (is_number w.first && is_number w.second)

-- one number is typed
unfoldable pub is_one : NumberWords → Bool
is_one w = eqb w.count 1 && is_number w.first

-- what is asked for, and whether the words are understood
abbrev pub version : NumberWords → ℕ
version w = up_to 65535 w.first

-- a request of the other verbs
unfoldable pub other_asked : List ℕ → NumberWords → TypedRequest
other_asked verb w =
    cond (same verb (ascii "messages")) (record { request = Messages (version w); understood = is_one w })
    (cond (same verb (ascii "list")) (record { request = ListAll; understood = eqb w.count 0 })
    (record { request = ListAll; understood = false }))

-- the request of a verb and its numbers
unfoldable pub asked_in : List ℕ → NumberWords → TypedRequest
asked_in verb w =
    cond (same verb (ascii "save")) (record { request = Save (wanted_in w); understood = are_five w })
    (cond (same verb (ascii "find")) (record { request = Find (version w); understood = is_one w })
    (cond (same verb (ascii "back")) (record { request = Back (version w); understood = is_one w }) (other_asked verb w)))
