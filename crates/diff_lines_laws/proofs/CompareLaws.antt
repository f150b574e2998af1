-- What 02 asks of a comparison: equal lists, and only these, give nothing; the bytes written turn the first list into the second; their order.
use Rattle.std.specs.Prelude.{◌≡◌, true, ◌&&◌, ℕ, ◌≤◌, ◌<◌, length, get_or, take, Ok}
use Rattle.std.proofs.Common.{sym, ap, subst, ◌∙◌, arith, le-leb}
use mathlib.Core.List.{List, [], Memᴰ}
use Rattle.bits.specs.Every.{and_left, and_right}
use Rattle.lent_buffer.specs.Filled.{used, Gives, require}
use Rattle.lent_buffer.specs.FilledLaws.{passed, used_fitted}
use Rattle.line_records.specs.Lines.{full_lines, headed_lines, as_lent, none_cut, rises, numbers_small, kinds_known}
use Rattle.line_records_laws.specs.LinesBackLaws.{lines_sized, heads_whole, list_back}
use Rattle.diff_records.specs.Difference.{Difference, differences, encoded_all}
use Rattle.diff_records.specs.ReadBack.{differences_in}
use Rattle.diff_lines.specs.Compare.{compare_of}
use Rattle.diff_lines_laws.specs.Applied.{applied_all, InOrder}
use Rattle.diff_lines_laws.proofs.ApplyLaws.{applied_is_second, equal_none}
use Rattle.diff_lines_laws.proofs.OrderLaws.{in_order_lem}
use Rattle.diff_lines_laws.specs.BytesLaws.{differences_back}
use Rattle.diff_lines_laws.specs.Meaning.{Differs}
use Rattle.diff_lines_laws.proofs.UniqueLaws.{known_by_members}
use Rattle.diff_lines_laws.proofs.MeaningLaws.{every_one, nothing_else}

-- each of a list is a byte
abbrev pub AllBytes : List ℕ → Type 0
AllBytes bs = (i : ℕ) → get_or bs i 0 < 256

-- what was passed where something is written
record Checked (first second w : List ℕ) (n room : ℕ) : Type 0 where
  first_rises : rises (full_lines first) ≡ true
  second_rises : rises (full_lines second) ≡ true
  first_whole : none_cut first ≡ true
  second_whole : none_cut second ≡ true
  wrote : w ≡ encoded_all (differences (full_lines first) (full_lines second))
  long : n ≡ length w
  fits : n ≤ room

what_passed : (first second w : List ℕ) (n room : ℕ) → compare_of first second room ≡ used n w → Checked first second w n room
unfolding compare_of
what_passed first second w n room h =
    let r = passed (rises (headed_lines first) && rises (headed_lines second)) _ _ h in
    let s = passed (numbers_small (headed_lines first) && numbers_small (headed_lines second)) _ _ r.1 in
    let k = passed (kinds_known (headed_lines first) && kinds_known (headed_lines second)) _ _ s.1 in
    let t = passed (none_cut first && none_cut second) _ _ k.1 in
    let f = used_fitted (encoded_all (differences (full_lines first) (full_lines second))) room t.1 in
    let whole = and_left _ (none_cut second) t.0 in
    let whole2 = and_right (none_cut first) _ t.0 in
    record {
      first_rises = ap rises (sym (heads_whole first whole)) ∙ and_left _ (rises (headed_lines second)) r.0;
      second_rises = ap rises (sym (heads_whole second whole2)) ∙ and_right (rises (headed_lines first)) _ r.0;
      first_whole = whole;
      second_whole = whole2;
      wrote = f.0;
      long = f.1 ∙ sym (ap length f.0);
      fits = omega (arith, f.1, f.2);
    }

module _ (first second w : List ℕ) (n room : ℕ) (h : compare_of first second room ≡ used n w) where
  -- the bytes written tell the differences
  pub tells : differences_in w ≡ differences (full_lines first) (full_lines second)
  tells =
      let p = what_passed first second w n room h in
      ap differences_in p.wrote ∙ differences_back (full_lines first) (full_lines second) (lines_sized first) (lines_sized second)

  -- the lines of the first list with the differences applied are those of the second
  pub second_lines : applied_all (differences_in w) (full_lines first) ≡ full_lines second
  second_lines =
      let p = what_passed first second w n room h in
      ap (λ (ds : List Difference). applied_all ds (full_lines first)) tells
      ∙ applied_is_second (full_lines first) (full_lines second) p.first_rises p.second_rises (lines_sized first) (lines_sized second)

  -- and so are its bytes
  pub second_list : AllBytes second → as_lent (applied_all (differences_in w) (full_lines first)) ≡ second
  second_list b = ap as_lent second_lines ∙ list_back second (what_passed first second w n room h).second_whole b

  -- equal lists give an empty result
  pub equal_empty : first ≡ second → w ≡ []
  equal_empty e =
      (what_passed first second w n room h).wrote
      ∙ ap (λ (l : List ℕ). encoded_all (differences (full_lines l) (full_lines second))) e
      ∙ ap encoded_all (equal_none (full_lines second))

  -- lists that give one are equal
  pub empty_equal : AllBytes first → AllBytes second → w ≡ [] → first ≡ second
  empty_equal b c e =
      let p = what_passed first second w n room h in
      sym (list_back first p.first_whole b)
      ∙ ap (λ (v : List ℕ). as_lent (applied_all (differences_in v) (full_lines first))) (sym e)
      ∙ second_list c

  -- rising number, kinds before places, then place
  pub ordered : InOrder (differences_in w)
  ordered =
      let p = what_passed first second w n room h in
      subst InOrder (sym tells) (in_order_lem (full_lines first) (full_lines second) p.first_rises p.second_rises)

  -- everything that differs is there
  pub all_there : (d : Difference) → Differs (full_lines first) (full_lines second) d → Memᴰ d (differences_in w)
  all_there d f =
      let p = what_passed first second w n room h in
      subst (Memᴰ d) (sym tells) (every_one (full_lines first) (full_lines second) p.first_rises p.second_rises d f)

  -- and nothing else
  pub all_true : (d : Difference) → Memᴰ d (differences_in w) → Differs (full_lines first) (full_lines second) d
  all_true d i =
      let p = what_passed first second w n room h in
      nothing_else (full_lines first) (full_lines second) p.first_rises p.second_rises d (subst (Memᴰ d) tells i)

  -- and so the bytes tell the one list of differences that is in order, and holds what differs and nothing else
  pub only_one : (ds : List Difference) → InOrder ds → ((d : Difference) → Differs (full_lines first) (full_lines second) d → Memᴰ d ds)
      → ((d : Difference) → Memᴰ d ds → Differs (full_lines first) (full_lines second) d) → ds ≡ differences_in w
  only_one ds o f g = known_by_members o ordered (λ d i. all_there d (g d i)) (λ d i. f d (all_true d i))

-- A case at the edge.

pub no_lines : (room : ℕ) → compare_of [] [] room ≡ used 0 []
unfolding compare_of full_lines headed_lines require
no_lines room = simp (le-leb 0 room (omega arith))

-- From the buffer, as a call leaves it.

module _ (first second before after : List ℕ) (n : ℕ) (g : Gives (compare_of first second (length before)) (Ok n) before after) where
  -- the bytes used, and the first list, tell the second
  pub from_buffer : AllBytes second → as_lent (applied_all (differences_in (take n after)) (full_lines first)) ≡ second
  from_buffer = second_list first second (take n after) n (length before) (sym g.says)

  -- the length used is 0 for equal lists, and for these only
  pub equal_zero : first ≡ second → n ≡ 0
  equal_zero e =
      let h = sym g.says in
      (what_passed first second (take n after) n (length before) h).long ∙ ap length (equal_empty first second (take n after) n (length before) h e)

  pub zero_equal : AllBytes first → AllBytes second → n ≡ 0 → first ≡ second
  zero_equal b c e =
      let h = sym g.says in
      empty_equal first second (take n after) n (length before) h b c (ap (λ (k : ℕ). take k after) e)
