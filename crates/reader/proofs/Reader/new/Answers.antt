-- By whether the number is a profile's: a fresh reader of it, or a fresh reader of profile 0 with 11.
use Rattle.reader.proofs.Reader.new.Goals as goal

pub returns-in-Some : goal.returns-in-Some
returns-in-Some c =
    let v = c.numbered-found.ensures in
    let g = c.in-Some.is in
    record { next = simp (← v, g, c.fresh-reader.ensures); says = simp (← v, g) }

pub returns-in-None : goal.returns-in-None
returns-in-None c =
    let v = c.numbered-found.ensures in
    let g = c.in-None.is in
    record { next = simp (← v, g, c.fresh-reader-in-None.ensures); says = simp (← v, g) }
