-- A text written on a page a part at a time: what is written so far, with what is left to write, is all of it.
use Rattle.std.specs.Prelude.{◌≡◌, refl, List, [], ◌++◌, ℕ}
use Rattle.std.proofs.Common.{sym, subst, ◌∙◌}
use Rattle.text.specs.declared.Page.{Page}
use Rattle.text.specs.Pages.{Writes}
use Rattle.text.specs.PagesLaws.{next, nothing}

-- once what is left is written, all of the text is
pub record Left (before : Page) (all left : List ℕ) (page : Page) : Type 0 where
  pub same_room : page.room.ghost_name ≡ before.room.ghost_name
  pub onward : (z : Page) → Writes left page z → Writes all before z

pub left_all : (before : Page) (all : List ℕ) → Left before all all before
left_all before all = record { same_room = refl; onward = λ z w. w }

pub left_put : {a b c : Page} {all : List ℕ} (whole u left : List ℕ) → whole ≡ u ++ left → Left a all whole b → Writes u b c → Left a all left c
left_put {a} {b} {c} {all} whole u left e l w =
    record {
      same_room = w.same_room ∙ l.same_room;
      onward = λ z q. l.onward z (subst (λ (t : List ℕ). Writes t b z) (sym e) (next w q));
    }

pub left_none : {a b : Page} {all : List ℕ} (left : List ℕ) → left ≡ [] → Left a all left b → Writes all a b
left_none {a} {b} {all} left e l = l.onward b (subst (λ (t : List ℕ). Writes t b b) (sym e) (nothing b))

pub writes_is : {a b : Page} {u v : List ℕ} → u ≡ v → Writes u a b → Writes v a b
writes_is {a} {b} e = subst (λ (t : List ℕ). Writes t a b) e
