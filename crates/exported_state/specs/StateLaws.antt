-- Laws of a reader's state in bytes: it is read back as it was stored.
use Rattle.std.specs.Prelude.{◌≡◌, refl, true, ℕ, ◌+◌, ◌/◌, ◌%◌, ◌≤◌, leb, length, get_or}
use Rattle.std.proofs.Math.Path.{ap}
use Rattle.std.proofs.Common.{◌∙◌, arith, leb-true, le-leb, length-append, take_at}
use mathlib.Core.List.{List, ◌++◌}
use Rattle.std.proofs.Math.ListN.{take, drop, length-drop}
use Rattle.bits.specs.Every.{and_left, and_both}
use Rattle.exported_call.specs.LentCallLaws.{bit_back, bit_tag}
use Rattle.line_code.specs.declared.Kind.{Kind}
use Rattle.line_code.specs.declared.Kind.TheVariants.{BL, BK, VL, SOF, EOF}
use Rattle.line_code.specs.LineCode.{kind_number, kind_numbered}
use Rattle.profile.specs.declared.Profile.{Profile}
use Rattle.profile.specs.declared.Profile.TheVariants.{VV5404, VV5300}
use Rattle.profile.specs.Profile.{profile_number, longest}
use Rattle.stream.specs.declared.Before.{Before}
use Rattle.stream.specs.declared.Before.TheVariants.{NoLine, RefusedLine, HandedOut}
use Rattle.stream.specs.declared.Mark.{Mark}
use Rattle.stream.specs.declared.Mark.TheVariants.{NoMark, Open}
use Rattle.reader_head.specs.declared.Head.{Head}
use Rattle.reader.specs.declared.Reader.{Reader}
use Rattle.reader_head.specs.Head.{passes}
use Rattle.exported_state.specs.State.{state_length, no_mark, before_number, before_numbered, greatest_mark, mark_number, code_of, head_bytes, stored, profile_of, mark_numbered, number_of, head_in, held_head, reader_in, tagged, holds_reader}

pub holds_length : (s : List ℕ) → holds_reader s ≡ true → state_length ≤ length s
unfolding holds_reader
holds_length s h = leb-true state_length (length s) (and_left _ _ h)

pub held_head_lem : (s : List ℕ) → state_length ≤ length s → held_head s ≡ head_in s
unfolding held_head
held_head_lem s room = simp (le-leb state_length (length s) room)

-- Each part is read back.

profile_back : (p : Profile) → profile_of (profile_number p) ≡ p
profile_back VV5404 = refl
profile_back VV5300 = refl

before_back : (b : Before) → before_numbered (before_number b) ≡ b
unfolding kind_numbered
before_back NoLine = refl
before_back (RefusedLine BL) = refl
before_back (RefusedLine BK) = refl
before_back (RefusedLine VL) = refl
before_back (RefusedLine SOF) = refl
before_back (RefusedLine EOF) = refl
before_back (HandedOut BL) = refl
before_back (HandedOut BK) = refl
before_back (HandedOut VL) = refl
before_back (HandedOut SOF) = refl
before_back (HandedOut EOF) = refl

open_back : (before : Before) (code : ℕ) → mark_numbered (before_number before) code ≡ Open (before_numbered (before_number before)) code
open_back NoLine code = refl
open_back (RefusedLine BL) code = refl
open_back (RefusedLine BK) code = refl
open_back (RefusedLine VL) code = refl
open_back (RefusedLine SOF) code = refl
open_back (RefusedLine EOF) code = refl
open_back (HandedOut BL) code = refl
open_back (HandedOut BK) code = refl
open_back (HandedOut VL) code = refl
open_back (HandedOut SOF) code = refl
open_back (HandedOut EOF) code = refl

mark_back : (m : Mark) → mark_numbered (mark_number m) (code_of m) ≡ m
mark_back NoMark = refl
mark_back (Open before code) = open_back before code ∙ ap (λ (b : Before). Open b code) (before_back before)

number_back : (n : ℕ) → number_of (n / 0x1000000) (n / 0x10000 % 256) (n / 0x100 % 256) (n % 256) ≡ n
number_back n = omega arith

head_back : (h : Head) (w : List ℕ) → head_in (head_bytes h ++ w) ≡ h
unfolding head_in head_bytes
head_back h w =
    simp (profile_back h.profile, mark_back h.at, number_back h.count, number_back h.window, bit_back h.kept.stray)

mark_tag : (m : Mark) → leb (mark_number m) greatest_mark ≡ true
mark_tag NoMark = refl
mark_tag (Open NoLine code) = refl
mark_tag (Open (RefusedLine BL) code) = refl
mark_tag (Open (RefusedLine BK) code) = refl
mark_tag (Open (RefusedLine VL) code) = refl
mark_tag (Open (RefusedLine SOF) code) = refl
mark_tag (Open (RefusedLine EOF) code) = refl
mark_tag (Open (HandedOut BL) code) = refl
mark_tag (Open (HandedOut BK) code) = refl
mark_tag (Open (HandedOut VL) code) = refl
mark_tag (Open (HandedOut SOF) code) = refl
mark_tag (Open (HandedOut EOF) code) = refl

-- the number of a mark handed out is among them
pub handed_small : (k : Kind) → no_mark + kind_number k ≤ greatest_mark
handed_small BL = omega arith
handed_small BK = omega arith
handed_small VL = omega arith
handed_small SOF = omega arith
handed_small EOF = omega arith

profile_tag : (p : Profile) → leb (profile_number p) 1 ≡ true
profile_tag VV5404 = refl
profile_tag VV5300 = refl

-- A stored reader is read back.

module _ (r : Reader) (s : List ℕ) (full : length r.body ≡ longest) where
  pub reader_back : reader_in (stored r s) ≡ r
  unfolding stored head_bytes
  reader_back =
      ap (λ (h : Head). record { head = h; body = take longest (r.body ++ drop state_length s) }) (head_back r.head (r.body ++ drop state_length s))
      ∙ ap (λ (b : List ℕ). record { head = r.head; body = b }) (take_at r.body (drop state_length s) longest full)

  pub stored_length : state_length ≤ length s → length (stored r s) ≡ length s
  unfolding stored head_bytes
  stored_length h = simp (length-append, full) (omega (arith, length-drop state_length s))

  stored_tagged : tagged (get_or (stored r s) 0 0) (get_or (stored r s) 1 0) (get_or (stored r s) 13 0) ≡ true
  unfolding stored head_bytes tagged
  stored_tagged = simp (profile_tag r.head.profile, mark_tag r.head.at, bit_tag r.head.kept.stray)

  pub stored_holds : state_length ≤ length s → passes r.head ≡ true → holds_reader (stored r s) ≡ true
  unfolding holds_reader
  stored_holds h p =
      and_both (leb state_length (length (stored r s))) _ (le-leb state_length (length (stored r s)) (omega (arith, stored_length h))) (and_both (tagged (get_or (stored r s) 0 0) (get_or (stored r s) 1 0) (get_or (stored r s) 13 0)) _ stored_tagged (ap (λ (x : Reader). passes x.head) reader_back ∙ p))
