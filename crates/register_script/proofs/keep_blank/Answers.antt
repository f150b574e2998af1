-- A blank that comes first, that has no room or that follows a space is not kept; else it is kept as a space.
use native.Mathlib.Omega.{arith}
use borrow.Author.Rules.{rules}
use Rattle.register_script.specs.ScriptLaws.{no_blank_first, no_blank_full, no_blank_again, one_blank}
use Rattle.register_script.proofs.keep_blank.Goals as goal

pub returns-then-length-eq0 : goal.returns-then-length-eq0
returns-then-length-eq0 c = simp c.if-length-eq0.true (no_blank_first _)

pub returns-then-line-length : goal.returns-then-line-length
returns-then-line-length c = no_blank_full _ _ c.if-line-length.true

pub returns-then-line-length-eq32 : goal.returns-then-line-length-eq32
returns-then-line-length-eq32 c =
    no_blank_again _ _ (omega (arith, c.if-length-eq0.false)) c.if-line-length.false c.if-line-length-eq32.true

pub returns : goal.returns
returns c =
    one_blank _ _ (omega (arith, c.if-length-eq0.false)) c.if-line-length.false c.if-line-length-eq32.false c.append.ensures
