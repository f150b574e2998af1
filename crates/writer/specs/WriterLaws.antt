-- Laws of the writer: how long a line is as written, and exactly when each answer comes.
use Rattle.std.specs.Prelude.{◌≡◌, Bool, true, false, List, ◌++◌, ◌↔◌, ℕ, ◌≤◌, ◌<◌, length, replicate, None, Option, Some}
use Rattle.std.proofs.Math.Path.{refl}
use Rattle.std.proofs.Common.{sym, subst, ◌∙◌, arith, leb-true, leb-false, eqb-true, le-leb, eq-eqb, ne_eqb, length-append}
use Rattle.std.proofs.lemmas.Bool.{eqb-false, lt-leb}
use Rattle.std.proofs.lemmas.List.{length-replicate}
use Rattle.bits.specs.Every.{and_left, and_right}
use Rattle.refusal.specs.Refusal.{no_room}
use Rattle.lent_buffer.specs.Filled.{Output, used, refused, require}
use Rattle.line_code.specs.declared.Kind.{Kind}
use Rattle.line_code.specs.declared.Kind.TheVariants.{BL, BK, VL, SOF, EOF}
use Rattle.line_code.specs.LineCode.{kind_number, kind_numbered}
use Rattle.line_number.specs.LineNumber.{greatest}
use Rattle.profile.specs.declared.Profile.{Profile}
use Rattle.profile.specs.declared.Profile.TheVariants.{VV5404, VV5300}
use Rattle.profile.specs.Profile.{profile_number, profile_numbered, body_length, null_byte}
use Rattle.profile.specs.Layout.{rules, fits}
use Rattle.profile.specs.LayoutLaws.{rules_length, fits_length}
use Rattle.stream.specs.Written.{Sent, Writable, most_nulls, nibbles, end_mark, tail, written}
use Rattle.stream.specs.NibblesLaws.{nibbles_length}
use Rattle.writer.specs.Writer.{room_for, bytes_fit, write_line, sent, write_kind, write_profile, write_of}
use Rattle.writer.specs.WriterTable.{LineAnswer, number_too_large_lem, wrong_body_length_lem, byte_not_allowed_lem, too_many_nulls_lem, no_room_lem, line, WriteAnswer, bad_profile, bad_kind_lem, of_line, write_sent}

-- Lengths.

-- a line as written is as long as the room that it needs
pub written_length : (p : Profile) (s : Sent) → length s.body ≡ body_length p → length (written s) ≡ room_for p s.nulls
written_length p s h =
    omega
    (arith, nibbles_length s.body, length-append (nibbles s.body) (end_mark ++ tail s), nibbles_length (replicate s.nulls null_byte), length-replicate s.nulls null_byte)

pub writable_length : (p : Profile) (s : Sent) → Writable p s → length s.body ≡ body_length p
writable_length p s w = fits_length (rules p s.kind) s.body w.body_fits ∙ rules_length p s.kind

pub writable : (p : Profile) (s : Sent) → s.number ≤ greatest → bytes_fit p s ≡ true → s.nulls ≤ most_nulls → Writable p s
writable p s h f n =
    let body = fits (rules p s.kind) s.body in
    record { number_small = h; body_fits = and_left body _ f; gap_fits = and_right body _ f; nulls_few = n }

-- Answers: what the table gives, each exactly when named, in the writer's order.

pub line_answer_only : (p : Profile) (s : Sent) (room : ℕ) (o : Output) → LineAnswer p s room o → write_line p s room ≡ o
unfolding require
line_answer_only p s room o (number_too_large_lem h) = simp (lt-leb _ _ h)
line_answer_only p s room o (wrong_body_length_lem h l) = simp (le-leb _ _ h, ne_eqb _ _ l)
line_answer_only p s room o (byte_not_allowed_lem h l f) = simp (le-leb _ _ h, eq-eqb _ _ l, f)
line_answer_only p s room o (too_many_nulls_lem h l f n) = simp (le-leb _ _ h, eq-eqb _ _ l, f, lt-leb _ _ n)
line_answer_only p s room o (no_room_lem w r) =
    simp (le-leb _ _ w.number_small, eq-eqb _ _ (writable_length p s w), w.body_fits, w.gap_fits, le-leb _ _ w.nulls_few, lt-leb _ _ r)
line_answer_only p s room o (line w r) =
    simp (le-leb _ _ w.number_small, eq-eqb _ _ (writable_length p s w), w.body_fits, w.gap_fits, le-leb _ _ w.nulls_few, le-leb _ _ r)

required : (A : Output → Type 0) (t : Bool) (n : ℕ) (o : Output) → (t ≡ false → A (refused n)) → (t ≡ true → A o) → A (require t n o)
unfolding require
required A true n o f g = g refl
required A false n o f g = f refl

pub line_answer_lem : (p : Profile) (s : Sent) (room : ℕ) → LineAnswer p s room (write_line p s room)
line_answer_lem p s room =
    required A _ _ _ (λ e. number_too_large_lem (leb-false _ _ e)) (λ h.
    required A _ _ _ (λ e. wrong_body_length_lem (leb-true _ _ h) (eqb-false _ _ e)) (λ l.
    required A _ _ _ (λ e. byte_not_allowed_lem (leb-true _ _ h) (eqb-true _ _ l) e) (λ f.
    required A _ _ _ (λ e. too_many_nulls_lem (leb-true _ _ h) (eqb-true _ _ l) f (leb-false _ _ e)) (λ n.
    let w = writable p s (leb-true _ _ h) f (leb-true _ _ n) in
    required A _ _ _ (λ e. no_room_lem w (leb-false _ _ e)) (λ r. line w (leb-true _ _ r))))))
  where
    A : Output → Type 0
    A = LineAnswer p s room

module _ (profile kind number : ℕ) (body : List ℕ) (a b nulls room : ℕ) where
  by_kind : (p : Profile) → profile_numbered profile ≡ Some p → (k : Option Kind) → kind_numbered kind ≡ k
      → WriteAnswer profile kind number body a b nulls room (write_kind p k number body a b nulls room)
  by_kind p e None f = bad_kind_lem p e f
  by_kind p e (Some k) f = of_line p k e f (line_answer_lem p (sent k number body a b nulls) room)

  by_profile : (n : Option Profile) → profile_numbered profile ≡ n
      → WriteAnswer profile kind number body a b nulls room (write_profile n kind number body a b nulls room)
  by_profile None e = bad_profile e
  by_profile (Some p) e = by_kind p e (kind_numbered kind) refl

  -- the writer's answer is the table's, and there is no other
  pub answer : WriteAnswer profile kind number body a b nulls room (write_of profile kind number body a b nulls room)
  unfolding write_of
  answer = by_profile (profile_numbered profile) refl

  pub answer_only : (o : Output) → WriteAnswer profile kind number body a b nulls room o → write_of profile kind number body a b nulls room ≡ o
  unfolding write_of
  answer_only o (bad_profile e) = simp e
  answer_only o (bad_kind_lem p e f) = simp (e, f)
  answer_only o (of_line p k e f l) = simp (e, f) (line_answer_only p (sent k number body a b nulls) room o l)

-- Lines of a profile.

profile_back : (p : Profile) → profile_numbered (profile_number p) ≡ Some p
unfolding profile_numbered
profile_back VV5404 = refl
profile_back VV5300 = refl

kind_back : (k : Kind) → kind_numbered (kind_number k) ≡ Some k
unfolding kind_numbered
kind_back BL = refl
kind_back BK = refl
kind_back VL = refl
kind_back SOF = refl
kind_back EOF = refl

module _ (p : Profile) (s : Sent) (room : ℕ) where
  pub sent_line : write_sent p s room ≡ write_line p s room
  unfolding write_of
  sent_line = simp (profile_back p, kind_back s.kind)

  pub sent_answer : (o : Output) → (write_sent p s room ≡ o) ↔ LineAnswer p s room o
  sent_answer o =
      (λ e. subst (LineAnswer p s room) (sym sent_line ∙ e) (line_answer_lem p s room), λ l. sent_line ∙ line_answer_only p s room o l)

  -- what an answer says of the line
  abbrev Says : Output → Type 0
  Says (used n w) = Writable p s × (room_for p s.nulls ≤ room)
  Says (refused n) = n ≡ no_room → Writable p s × (room < room_for p s.nulls)

  says : (o : Output) → LineAnswer p s room o → Says o
  says o (number_too_large_lem h) = λ e. absurd (omega arith)
  says o (wrong_body_length_lem h l) = λ e. absurd (omega arith)
  says o (byte_not_allowed_lem h l f) = λ e. absurd (omega arith)
  says o (too_many_nulls_lem h l f n) = λ e. absurd (omega arith)
  says o (no_room_lem w r) = λ e. (w, r)
  says o (line w r) = (w, r)

  -- room is lacking exactly if the line may be written and is longer than the buffer
  pub lacks_room : (write_sent p s room ≡ refused no_room) ↔ (Writable p s × (room < room_for p s.nulls))
  lacks_room = (λ e. says _ ((sent_answer _).0 e) refl, λ h. (sent_answer _).1 (no_room_lem h.0 h.1))

  -- the line comes out as written exactly if it may be written and there is room
  pub writes : (write_sent p s room ≡ used (length (written s)) (written s)) ↔ (Writable p s × (room_for p s.nulls ≤ room))
  writes = (λ e. says _ ((sent_answer _).0 e), λ h. (sent_answer _).1 (line h.0 h.1))
