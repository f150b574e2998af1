-- Laws of what holds of each of some differences.
use Rattle.std.specs.Prelude.{Bool, true, false}
use Rattle.std.proofs.Common.{sym, subst}
use mathlib.Core.List.{List, ◌++◌, Memᴰ}
use Rattle.diff_records.specs.Difference.{Difference, unless}
use Rattle.diff_lines_laws.specs.Applied.{Each, done, also}

pub each_append : {P : Difference → Type 0} {ds es : List Difference} → Each P ds → Each P es → Each P (ds ++ es)
each_append done g = g
each_append (also h f) g = also h (each_append f g)

pub each_map : {P Q : Difference → Type 0} {ds : List Difference} → ((d : Difference) → P d → Q d) → Each P ds → Each Q ds
each_map f done = done
each_map f (also {d} h g) = also (f d h) (each_map f g)

pub each_unless : {P : Difference → Type 0} (t : Bool) (d : Difference) {ds : List Difference} → P d → Each P ds → Each P (unless t d ds)
each_unless true d h g = g
each_unless false d h g = also h g

pub each_both : {P Q R : Difference → Type 0} {ds : List Difference} → ((d : Difference) → P d → Q d → R d) → Each P ds → Each Q ds → Each R ds
each_both f done done = done
each_both f (also {d} h g) (also k i) = also (f d h k) (each_both f g i)

pub each_in : {P : Difference → Type 0} {ds : List Difference} {d : Difference} → Each P ds → Memᴰ d ds → P d
each_in {P = P} {d = d} done x3 = elim x3 [ ]
each_in {P} (also h g) (Memᴰ.head e) = subst P (sym e) h
each_in (also h g) (Memᴰ.tail i) = each_in g i
