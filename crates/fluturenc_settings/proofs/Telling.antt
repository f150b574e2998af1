-- What saving and going back tell: as the places by value do, and 37 for a list of another length.
use mathlib.Core.Path.{◌≡◌, ap, ap₂, subst, ◌∙◌}
use mathlib.Core.List.{List}
use Prim.Native.Nat.{ℕ}
use native.Mathlib.Omega.{arith}
use lib.ListN.{length}
use Rattle.refusal.specs.Refusal.{not_saved_settings}
use Rattle.saved_setting.specs.declared.SavedSetting.{SavedSetting}
use Rattle.std.specs.Prelude.{Err, Result}
use Rattle.refusal.specs.declared.Refusal.{Refusal}
use Rattle.saved_setting.specs.SavedSettings.{Reply, saved_reply, setting_places, ListReply, Leaves}
use Rattle.fluturenc_settings.specs.SavedBytes.{list_size, list_in, saved_number, saved_version, bytes_after, SaveGives}
use Rattle.fluturenc_settings.specs.SavedBytesLaws.{no_list}

pub told : (call : List SavedSetting → ListReply) (list held after : List SavedSetting) (a : Result ℕ Refusal) (answer version : ℕ) (before bytes : List ℕ)
    → list ≡ held → Leaves (call list) a after → SaveGives (record { reply = saved_reply a; list = after }) answer version before bytes
    → SaveGives (call held) answer version before bytes
told call list held after a answer version before bytes e left g =
    let same : Leaves (call held) a after = subst (λ (l : List SavedSetting). Leaves (call l) a after) e left in
    record {
      says = g.says ∙ ap saved_number same.answers;
      gives = g.gives ∙ ap saved_version same.answers;
      leaves = g.leaves ∙ ap₂ (λ (x : Reply ℕ) (l : List SavedSetting). bytes_after x l before) same.answers same.leaves;
    }

pub not_eight : (b : List ℕ) → (length b ≡ list_size → ⊥) → length (list_in b) ≡ setting_places → ⊥
not_eight b other h =
    let none : length (list_in b) ≡ 0 = ap length (no_list b other) in
    omega (arith, none, h)

pub not_told : (said : ListReply) (list : List SavedSetting) (b : List ℕ) → Leaves said (Err (record { 0 = not_saved_settings })) list
    → SaveGives said not_saved_settings 0 b b
not_told said list b left =
    record {
      says = ap saved_number left.answers;
      gives = ap saved_version left.answers;
      leaves = ap₂ (λ (x : Reply ℕ) (l : List SavedSetting). bytes_after x l b) left.answers left.leaves;
    }
