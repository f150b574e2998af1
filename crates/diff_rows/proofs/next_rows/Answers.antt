-- The next number's differences have room in the bytes, which tell them, so their rows are written.
use mathlib.Core.Path.{ap, ◌∙◌}
use mathlib.Core.List.{List}
use Prim.Native.Nat.{ℕ}
use native.Mathlib.Omega.{arith}
use borrow.Author.Rules.{rules}
use Rattle.text.specs.PutLaws.{whole, front_text}
use Rattle.text.specs.PagesLaws.{from_front}
use Rattle.diff_records.specs.ReadBack.{differences_in}
use Rattle.diff_records.proofs.NextLaws.{next_is, stepped}
use Rattle.diff_rows.specs.Rows.{rows_text}
use Rattle.diff_rows.specs.RowsLaws.{next_back, next_few}
use Rattle.diff_rows.proofs.LeftLaws.{writes_is}
use Rattle.diff_rows.proofs.next_rows.Goals as goal

pub slice_bounds-records-end : goal.slice_bounds-records-end
slice_bounds-records-end c = omega (arith, c.put_next-size.ensures.place)

pub returns : goal.returns
returns c =
    let p = c.next_number-n.ensures in
    let q = c.next_number-m.ensures in
    let a = c.args in
    let s = stepped a.a.now a.b.now _ _ p q in
    let bytes = front_text (whole c.put_next-size.ensures (omega (arith, next_few p q))) in
    let written = writes_is (ap (λ (l : List ℕ). rows_text (differences_in l)) bytes ∙ ap rows_text (next_back p q)) c.put_rows.ensures in
    record {
      rows = search (rules, from_front c.new-page.ensures written);
      first_passed = simp (c.how_far-first.ensures, next_is p, next_is q);
      second_passed = simp (c.how_far-second.ensures, next_is p, next_is q);
      first_inside = omega (arith, c.how_far-first.ensures, s.first_in);
      second_inside = omega (arith, c.how_far-second.ensures, s.second_in);
    }
