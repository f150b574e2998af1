-- From the steps of `write` to its answer.
use Rattle.std.specs.Prelude.{Option, None, Some, Result, Ok, Err, ok_or}
use mathlib.Core.Path.{◌≡◌, refl, ap, ◌∙◌}
use mathlib.Core.Bool.{Bool, true, false, cond}
use mathlib.Core.List.{List, [], ◌∷◌, ◌++◌}
use Prim.Native.Nat.{ℕ, ◌*◌, ◌/◌, ◌%◌, ◌≤◌, ◌<◌}
use native.Mathlib.Omega.{arith}
use borrow.Author.Tests.{leb-true, leb-false}
use lib.Dec.{leb}
use lib.ListN.{length, drop, replicate}
use Rattle.refusal.specs.declared.Refusal.{Refusal}
use Rattle.lent_buffer.specs.Filled.{Output, used, Gives}
use Rattle.lent_buffer.specs.FilledLaws.{fills}
use Rattle.line_code.specs.declared.Kind.{Kind}
use Rattle.line_code.specs.declared.Meaning.TheVariants.{EndOfLine}
use Rattle.line_code.specs.LineCode.{clean_byte, kind_numbered}
use Rattle.line_number.specs.LineNumber.{greatest, number_byte, two_bytes, encode_of}
use Rattle.line_number.specs.LineNumberLaws.{bytes_apart}
use Rattle.profile.specs.declared.Profile.{Profile}
use Rattle.profile.specs.Profile.{null_byte, profile_numbered}
use Rattle.stream.specs.Written as stream
use Rattle.stream.specs.Written.{Sent, written, start_mark}
use Rattle.stream.specs.NibblesLaws.{nibbles_length, nibbles_append}
use Rattle.writer.specs.Writer.{sent, write_of}
use Rattle.writer.specs.WriterTable.{LineAnswer, of_line}
use Rattle.writer.specs.WriterLaws.{answer_only}
use Rattle.writer.specs.Parts.{PutNibbles, mark_bytes, line_bytes}
use Rattle.writer.proofs.Putting.{put_front}

-- The refusal that a call without a value hands on.
pub handed_on : {A : Type 0} (o : Option A) (r e : Refusal) → Err e ≡ ok_or o r → o ≡ None → e ≡ r
handed_on {A} o r e h none =
    let k : Err e ≡ ok_or None r = h ∙ ap (λ (o : Option A). ok_or o r) none in
    cc

-- A number's two bytes.

known : (t : Bool) (a b c d : ℕ) → cond t (two_bytes a b) None ≡ two_bytes c d → (t ≡ true) × (a ≡ c) × (b ≡ d)
known true a b c d h =
    let k = bytes_apart a b c d h in
    (refl, k.0, k.1)
known false a b c d h = (cc, cc, cc)

module _ (n high low : ℕ) (e : encode_of n ≡ two_bytes high low) where
  pub encoded_small : n ≤ greatest
  encoded_small = leb-true n greatest (known (leb n greatest) _ _ high low e).0

  encoded_high : number_byte (n / 64) ≡ high
  encoded_high = (known (leb n greatest) _ _ high low e).1

  encoded_low : number_byte (n % 64) ≡ low
  encoded_low = (known (leb n greatest) _ _ high low e).2

not_known : (t : Bool) (a b : ℕ) → cond t (two_bytes a b) None ≡ None → t ≡ false
not_known true a b h = cc
not_known false a b h = refl

pub encoded_not : (n : ℕ) → encode_of n ≡ None → greatest < n
encoded_not n e = leb-false n greatest (not_known (leb n greatest) _ _ e)

-- An answer to a line of a known profile and kind is the writer's.
pub of_sent : (profile kind number : ℕ) (body : List ℕ) (a b nulls room : ℕ) {p : Profile} {k : Kind} {o : Output}
    → profile_numbered profile ≡ Some p → kind_numbered kind ≡ Some k → LineAnswer p (sent k number body a b nulls) room o
    → write_of profile kind number body a b nulls room ≡ o
of_sent profile kind number body a b nulls room {p} {k} {o} e f l = answer_only profile kind number body a b nulls room o (of_line p k e f l)

-- The line.

-- a line's bytes, as it is written
line_nibbles_lem : (s : Sent) (high low : ℕ) → encode_of s.number ≡ two_bytes high low
    → stream.nibbles (line_bytes s.kind high low s.body s.gap_one s.gap_two s.nulls) ≡ written s
line_nibbles_lem s high low e =
    simp (encoded_high s.number high low e, encoded_low s.number high low e)
    (ap (λ (w : List ℕ). start_mark s ++ (stream.nibbles (high ∷ low ∷ []) ++ w))
    (nibbles_append s.body (mark_bytes (clean_byte EndOfLine) ++ (s.gap_one ∷ s.gap_two ∷ replicate s.nulls null_byte))))

front : (o : Output) (w bytes b d : List ℕ) (n : ℕ) → o ≡ used (length w) w → stream.nibbles bytes ≡ w → length w ≤ length b → PutNibbles bytes b 0 n d
    → Gives o (Ok n) b d
front o w bytes b d n e f room p =
    let r : 2 * length bytes ≤ length b = omega (arith, nibbles_length bytes, ap length f) in
    let count : length w ≡ n = omega (arith, p.place, nibbles_length bytes, ap length f) in
    fills o n w b d (e ∙ ap (λ (k : ℕ). used k w) count) count (put_front p r ∙ ap (λ (u : List ℕ). u ++ drop (length u) b) f ∙ ap (λ (k : ℕ). w ++ drop k b) count)

pub writes : (o : Output) (s : Sent) (high low : ℕ) (b d : List ℕ) (n : ℕ) → encode_of s.number ≡ two_bytes high low
    → o ≡ used (length (written s)) (written s) → length (written s) ≤ length b
    → PutNibbles (line_bytes s.kind high low s.body s.gap_one s.gap_two s.nulls) b 0 n d
    → Gives o (Ok n) b d
writes o s high low b d n e f room p = front o (written s) _ b d n f (line_nibbles_lem s high low e) room p
