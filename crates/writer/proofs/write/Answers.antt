-- Each refusal is the first in the paper's order whose test fails; past all tests the line may be written, has room, and is put.
use mathlib.Core.Path.{sym, ◌∙◌}
use native.Mathlib.Omega.{arith}
use borrow.Author.Tests.{not-true, not-false}
use Rattle.std.proofs.lemmas.Result.{err_from_is_err_and}
use Rattle.lent_buffer.specs.FilledLaws.{refuses}
use Rattle.profile.specs.LayoutLaws.{body_small}
use Rattle.stream.specs.Written.{Sent}
use Rattle.writer.specs.Writer.{sent}
use Rattle.writer.specs.WriterTable.{number_too_large_lem, wrong_body_length_lem, byte_not_allowed_lem, too_many_nulls_lem, no_room_lem, line, bad_profile, bad_kind_lem}
use Rattle.writer.specs.WriterLaws.{answer_only, written_length, writable}
use Rattle.writer.proofs.Answering.{handed_on, encoded_small, encoded_not, of_sent, writes}
use borrow.Author.Rules.{rules}
use Rattle.writer.proofs.write.Goals as goal

pub returns-in_err-p : goal.returns-in_err-p
returns-in_err-p c =
    let p = err_from_is_err_and c.from_residual.result c.from_residual.ensures.1 in
    let none = c.in_err-p.ensures.ok_part in
    rw (p.1, p.2, handed_on _ _ _ c.in_err-p.ensures.value none) (refuses _ _ _ (answer_only _ _ _ _ _ _ _ _ _ (bad_profile (sym c.numbered.ensures ∙ none))))

pub returns-in_err-k : goal.returns-in_err-k
returns-in_err-k c =
    let p = err_from_is_err_and c.from_residual-in_err-k.result c.from_residual-in_err-k.ensures.1 in
    let none = c.in_err-k.ensures.ok_part in
    let profile = sym c.numbered.ensures ∙ c.in_ok-p.ensures.ok_part in
    rw (p.1, p.2, handed_on _ _ _ c.in_err-k.ensures.value none)
    (refuses _ _ _ (answer_only _ _ _ _ _ _ _ _ _ (bad_kind_lem c.in_ok-p.p profile (sym c.numbered-2.ensures ∙ none))))

pub returns-in_err-high : goal.returns-in_err-high
returns-in_err-high c =
    let p = err_from_is_err_and c.from_residual-in_err-high.result c.from_residual-in_err-high.ensures.1 in
    let none = c.in_err-high.ensures.ok_part in
    let profile = sym c.numbered.ensures ∙ c.in_ok-p.ensures.ok_part in
    let kind = sym c.numbered-2.ensures ∙ c.in_ok-k.ensures.ok_part in
    rw (p.1, p.2, handed_on _ _ _ c.in_err-high.ensures.value none)
    (refuses _ _ _ (of_sent _ _ _ _ _ _ _ _ profile kind (number_too_large_lem (encoded_not _ (sym c.encode.ensures ∙ none)))))

pub returns-then-body-body_length : goal.returns-then-body-body_length
returns-then-body-body_length c =
    let profile = sym c.numbered.ensures ∙ c.in_ok-p.ensures.ok_part in
    let kind = sym c.numbered-2.ensures ∙ c.in_ok-k.ensures.ok_part in
    let small = encoded_small _ _ _ (sym c.encode.ensures ∙ c.in_ok-high.ensures.ok_part) in
    refuses _ _ _
    (of_sent _ _ _ _ _ _ _ _ profile kind (wrong_body_length_lem small (λ e. c.if-body-body_length.true (e ∙ sym c.body_length.ensures))))

pub returns-then-has_bad_byte : goal.returns-then-has_bad_byte
returns-then-has_bad_byte c =
    let profile = sym c.numbered.ensures ∙ c.in_ok-p.ensures.ok_part in
    let kind = sym c.numbered-2.ensures ∙ c.in_ok-k.ensures.ok_part in
    let small = encoded_small _ _ _ (sym c.encode.ensures ∙ c.in_ok-high.ensures.ok_part) in
    let right = c.if-body-body_length.false ∙ c.body_length.ensures in
    let bad = not-true _ (sym c.has_bad_byte.ensures ∙ c.if-has_bad_byte.true) in
    refuses _ _ _ (of_sent _ _ _ _ _ _ _ _ profile kind (byte_not_allowed_lem small right bad))

pub returns-then-nulls-gt-MOST_NULLS : goal.returns-then-nulls-gt-MOST_NULLS
returns-then-nulls-gt-MOST_NULLS c =
    let profile = sym c.numbered.ensures ∙ c.in_ok-p.ensures.ok_part in
    let kind = sym c.numbered-2.ensures ∙ c.in_ok-k.ensures.ok_part in
    let small = encoded_small _ _ _ (sym c.encode.ensures ∙ c.in_ok-high.ensures.ok_part) in
    let right = c.if-body-body_length.false ∙ c.body_length.ensures in
    let good = not-false _ (sym c.has_bad_byte.ensures ∙ c.if-has_bad_byte.false) in
    refuses _ _ _ (of_sent _ _ _ _ _ _ _ _ profile kind (too_many_nulls_lem small right good c.if-nulls-gt-MOST_NULLS.true))

pub overflow_add-body : goal.overflow_add-body
overflow_add-body c = omega (arith, body_small c.in_ok-p.p)

pub overflow_add-body-2 : goal.overflow_add-body-2
overflow_add-body-2 c = omega (arith, body_small c.in_ok-p.p)

pub returns-then-buffer-body : goal.returns-then-buffer-body
returns-then-buffer-body c =
    let profile = sym c.numbered.ensures ∙ c.in_ok-p.ensures.ok_part in
    let kind = sym c.numbered-2.ensures ∙ c.in_ok-k.ensures.ok_part in
    let small = encoded_small _ _ _ (sym c.encode.ensures ∙ c.in_ok-high.ensures.ok_part) in
    let right = c.if-body-body_length.false ∙ c.body_length.ensures in
    let good = not-false _ (sym c.has_bad_byte.ensures ∙ c.if-has_bad_byte.false) in
    let may_be_written = writable _ _ small good c.if-nulls-gt-MOST_NULLS.false in
    refuses _ _ _ (of_sent _ _ _ _ _ _ _ _ profile kind (no_room_lem may_be_written (omega (arith, right))))

pub returns : goal.returns
returns c =
    let a = c.args in
    let profile = sym c.numbered.ensures ∙ c.in_ok-p.ensures.ok_part in
    let kind = sym c.numbered-2.ensures ∙ c.in_ok-k.ensures.ok_part in
    let encodes = sym c.encode.ensures ∙ c.in_ok-high.ensures.ok_part in
    let right = c.if-body-body_length.false ∙ c.body_length.ensures in
    let good = not-false _ (sym c.has_bad_byte.ensures ∙ c.if-has_bad_byte.false) in
    let s : Sent = sent c.in_ok-k.k a.number a.body.now a.first a.second a.nulls in
    let may_be_written = writable _ s (encoded_small _ _ _ encodes) good c.if-nulls-gt-MOST_NULLS.false in
    writes _ s _ _ _ _ _ encodes (of_sent _ _ _ _ _ _ _ _ profile kind (line may_be_written (omega (arith, right))))
    (omega (arith, written_length c.in_ok-p.p s right)) c.put_line-end.ensures
