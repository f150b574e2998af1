-- A stray nibble refuses in both profiles; profile 0 asks no more, profile 1 also for two whole gap bytes that its layout allows.
use mathlib.Core.Path.{◌≡◌}
use mathlib.Core.Bool.{true}
use Prim.Native.Nat.{ℕ}
use Rattle.refusal.specs.Refusal.{bad_gap}
use Rattle.line_code.specs.declared.Kind.{Kind}
use Rattle.profile.specs.declared.Profile.{Profile}
use Rattle.profile.specs.declared.Profile.TheVariants.{VV5404, VV5300}
use Rattle.stream.specs.Answers.{refused}
use Rattle.mark_text.specs.declared.Kept.{Kept}
use Rattle.gap_answer.specs.KeptGap.{kept_gap}
use borrow.Author.Tests.{le-leb, lt-leb}
use Rattle.stream.specs.Answers.{require, good_gap}
use borrow.Author.Rules.{rules}
use Rattle.gap_answer.proofs.gap_answer.Goals as goal

stray_refused : (p : Profile) (k : Kind) (n len : ℕ) (t : Kept) → t.stray ≡ true → kept_gap p k n len t ≡ refused bad_gap
unfolding require
stray_refused VV5404 k n len t h = simp h
stray_refused VV5300 k n len t h = simp h

pub returns-then-kept : goal.returns-then-kept
returns-then-kept c = simp (stray_refused c.args.profile c.args.kind c.args.period.0 c.args.length c.args.kept c.if-kept.true)

pub returns-then-length-lt-BODY_PLACE : goal.returns-then-length-lt-BODY_PLACE
unfolding require
returns-then-length-lt-BODY_PLACE c = simp (c.in-VV5300.is, c.if-kept.false, lt-leb _ _ c.if-length-lt-BODY_PLACE.true)

pub returns-then-gap_fits : goal.returns-then-gap_fits
unfolding require good_gap
returns-then-gap_fits c =
    let p = c.in-VV5300.is in
    let e = simp p at c.gap_fits.ensures in
    simp (p, c.if-kept.false, le-leb _ _ c.if-length-lt-BODY_PLACE.false, ← e, c.if-gap_fits.true)

pub returns-in-VV5404 : goal.returns-in-VV5404
unfolding require good_gap
returns-in-VV5404 c = simp (c.in-VV5404.is, c.if-kept.false)

pub returns-else-gap_fits : goal.returns-else-gap_fits
unfolding require
returns-else-gap_fits c =
    let p = c.in-VV5300.is in
    let e = simp p at c.gap_fits.ensures in
    simp (p, c.if-kept.false, le-leb _ _ c.if-length-lt-BODY_PLACE.false, ← e, c.if-gap_fits.false)
