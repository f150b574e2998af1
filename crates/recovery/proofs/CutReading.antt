-- Reading on through a clean stream, nibble by nibble: which mark is open at each place, and what each nibble brings. A cut can end at any of them.
use Rattle.std.specs.Prelude.{◌≡◌, refl, Bool, true, false, List, [], ◌∷◌, ◌++◌, ℕ, zero, suc, ◌+◌, ◌/◌, ◌%◌, ◌≤◌, length, take}
use Rattle.std.proofs.Common.{◌∙◌, ap, ap₂, sym, subst, arith}
use Rattle.std.proofs.Math.Option.{none, some}
use Rattle.refusal.specs.Refusal.{end_without_line, bad_gap}
use Rattle.line_code.specs.declared.Kind.{Kind}
use Rattle.line_code.specs.declared.Meaning.TheVariants.{EndOfLine, Line}
use Rattle.line_code.specs.LineCode.{clean_byte}
use Rattle.line_code.specs.LineCodeLaws.{clean_reading}
use Rattle.profile.specs.declared.Profile.{Profile}
use Rattle.profile.specs.declared.Profile.TheVariants.{VV5404, VV5300}
use Rattle.stream.specs.declared.Before.{Before}
use Rattle.stream.specs.declared.Before.TheVariants.{NoLine, HandedOut}
use Rattle.stream.specs.declared.LineFacts.{LineFacts}
use Rattle.stream.specs.declared.GapFacts.{GapFacts}
use Rattle.stream.specs.declared.Mark.{Mark}
use Rattle.stream.specs.declared.Mark.TheVariants.{NoMark, Open}
use Rattle.stream.specs.Answers.{Outcome, nothing, line, gap, refused, require, good_gap, gap_from, by_reading, answer_of}
use Rattle.stream.specs.Stream.{State, Completed, answer_at, advance, step, finish, run, outcomes}
use Rattle.stream.specs.Written.{most_text, mark_of}
use Rattle.recovery.specs.Marks.{onto}
use Rattle.recovery.specs.Collected.{nothings}
use Rattle.recovery.specs.CollectedLaws.{collected_nothings}
use Rattle.recovery.specs.Resync.{state_with, opened, becomes}
use Rattle.recovery.specs.ResyncLaws.{byte_joined}
use Rattle.recovery.specs.MarkFreeLaws.{NoGroup, no_group_more, no_group_onto, no_group_older, none_completed}
use Rattle.recovery.proofs.Gaps.{end_code}
use Rattle.recovery.specs.CleanAnswers.{said_in, said}
use Rattle.recovery.specs.CutStream.{Tidy, tidy_none, tidy_line, tidy_both, Orderly, all_tidy, began_within, LastAnswer, no_mark_read, within_line, within_gap, gap_closed, end_alone, TextShort}

-- before the first line's mark; and from there on within a line, or within a gap
pub data Phase : Type 0 where
  starting : Phase
  lining : Phase
  gapping : Phase

-- the open mark: none, or an end mark without its line; then a line's, or an end mark after a line handed out
pub data OpenMark (p : Profile) : Phase → State → Type 0 where
  no_mark_yet : (t : List ℕ) → OpenMark p starting (state_with NoMark t)
  end_first : (t : List ℕ) → length t ≤ most_text p → OpenMark p starting (state_with (Open NoLine end_code) t)
  in_line : (b : Before) (k : Kind) (t : List ℕ) → length t ≤ most_text p → OpenMark p lining (state_with (Open b (clean_byte (Line k))) t)
  in_gap : (k : Kind) (t : List ℕ) → length t ≤ most_text p → OpenMark p gapping (state_with (Open (HandedOut k) end_code) t)

-- what a nibble may bring: the first line's mark answers none or 8, every other mark a line or a good gap
pub data Brings : Phase → Outcome → Phase → Type 0 where
  brings_nothing : {q : Phase} → Brings q nothing q
  brings_first : Brings starting nothing lining
  brings_eight : Brings starting (refused end_without_line) lining
  brings_line : {f : LineFacts} {body : List ℕ} → Brings lining (line f body) gapping
  brings_gap : {g : GapFacts} → Brings gapping (gap g) lining

-- the nibbles w lead from a state to another so
pub data Reads (p : Profile) : Phase → State → List ℕ → Phase → State → Type 0 where
  reads_none : {q : Phase} {x : State} → OpenMark p q x → Reads p q x [] q x
  reads_one : {q r z : Phase} {x y end : State} {n : ℕ} {w : List ℕ} {o : Outcome} → OpenMark p q x → (step p x n).outcome ≡ o → (step p x n).state ≡ y
      → Brings q o r → Reads p r y w z end → Reads p q x (n ∷ w) z end

module _ {p : Profile} where
  pub reads_append : {q r z : Phase} {x y end : State} {u v : List ℕ} → Reads p q x u r y → Reads p r y v z end → Reads p q x (u ++ v) z end
  reads_append (reads_none s) k = k
  reads_append (reads_one s e f b h) k = reads_one s e f b (reads_append h k)

  -- where it leads is where the nibbles lead
  pub reads_run : {q z : Phase} {x end : State} {w : List ℕ} → Reads p q x w z end → run p x w ≡ end
  reads_run (reads_none s) = refl
  reads_run (reads_one {w = w} s e f b h) = ap (λ (x : State). run p x w) f ∙ reads_run h

  stands_first : {q z : Phase} {x end : State} {w : List ℕ} → Reads p q x w z end → OpenMark p q x
  stands_first (reads_none s) = s
  stands_first (reads_one s e f b h) = s

  stands_last : {q z : Phase} {x end : State} {w : List ℕ} → Reads p q x w z end → OpenMark p z end
  stands_last (reads_none s) = s
  stands_last (reads_one s e f b h) = stands_last h

-- the nibbles w lead somewhere so
pub record ReadsOn (p : Profile) (q : Phase) (x : State) (w : List ℕ) : Type 0 where
  pub phase : Phase
  pub end : State
  pub reads : Reads p q x w phase end

pub reads_then : {p : Profile} {q r : Phase} {x y : State} {u v : List ℕ} → Reads p q x u r y → ReadsOn p r y v → ReadsOn p q x (u ++ v)
reads_then h k = record { phase = k.phase; end = k.end; reads = reads_append h k.reads }

-- and so does every front of them
pub reads_front : {p : Profile} {q z : Phase} {x end : State} {w : List ℕ} → Reads p q x w z end → (n : ℕ) → ReadsOn p q x (take n w)
reads_front {q = q} {x = x} h zero = record { phase = q; end = x; reads = reads_none (stands_first h) }
reads_front {q = q} {x = x} (reads_none s) (suc n) = record { phase = q; end = x; reads = reads_none s }
reads_front (reads_one s e f b h) (suc n) = let k = reads_front h n in record { phase = k.phase; end = k.end; reads = reads_one s e f b k.reads }

-- What is said on the way.

not_lining : lining ≡ starting → ⊥
not_lining e = let z : ◌≡◌ {A = ℕ} 0 1 = cc in omega arith

not_gapping : gapping ≡ starting → ⊥
not_gapping e = let z : ◌≡◌ {A = ℕ} 0 1 = cc in omega arith

-- one outcome, and those after it
said_more : (A : List Outcome → Type 0) (p : Profile) (x : State) (n : ℕ) {y : State} {o : Outcome} (w : List ℕ) → (step p x n).outcome ≡ o → (step p x n).state ≡ y
    → A (said_in o ++ said (outcomes p y w)) → A (said (outcomes p x (n ∷ w)))
said_more A p x n {y} {o} w e f h =
    subst (λ (o : Outcome). A (said_in o ++ said (outcomes p (step p x n).state w))) (sym e) (subst (λ (y : State). A (said_in o ++ said (outcomes p y w))) (sym f) h)

-- what is said from each phase on: within a gap, after any line
abbrev pub TidyFrom : Phase → List Outcome → Type 0
TidyFrom starting os = Orderly os
TidyFrom lining os = Tidy os
TidyFrom gapping os = (f : LineFacts) (body : List ℕ) → Tidy (line f body ∷ os)

none_from : (q : Phase) → TidyFrom q []
none_from starting = all_tidy tidy_none
none_from lining = tidy_none
none_from gapping = λ f body. tidy_line

more_from : {q r : Phase} {o : Outcome} (os : List Outcome) → Brings q o r → TidyFrom r os → TidyFrom q (said_in o ++ os)
more_from os brings_nothing h = h
more_from os brings_first h = all_tidy h
more_from os brings_eight h = began_within h
more_from os (brings_line {f} {body}) h = h f body
more_from os brings_gap h = λ f body. tidy_both h

back : {q r : Phase} {o : Outcome} → Brings q o r → r ≡ starting → q ≡ starting
back brings_nothing e = e
back brings_first e = refl
back brings_eight e = refl
back brings_line e = absurd (not_gapping e)
back brings_gap e = absurd (not_lining e)

module _ {p : Profile} where
  pub tidy_from : {q z : Phase} {x end : State} {w : List ℕ} → Reads p q x w z end → TidyFrom q (said (outcomes p x w))
  tidy_from (reads_none {q} s) = none_from q
  tidy_from (reads_one {q} {x = x} {y} {n = n} {w} s e f b h) = said_more (TidyFrom q) p x n w e f (more_from (said (outcomes p y w)) b (tidy_from h))

  -- before the first line's mark no nibble brings an answer
  never_back : {q : Phase} {x end : State} {w : List ℕ} → Reads p q x w starting end → q ≡ starting
  never_back (reads_none s) = refl
  never_back (reads_one s e f b h) = back b (never_back h)

  pub starting_quiet : {x end : State} {w : List ℕ} → Reads p starting x w starting end → outcomes p x w ≡ nothings w
  starting_quiet (reads_none s) = refl
  starting_quiet (reads_one {w = w} s e f brings_nothing h) =
      ap₂ (λ (o : Outcome) (y : State). o ∷ outcomes p y w) e f ∙ ap {B = List Outcome} (λ os. nothing ∷ os) (starting_quiet h)
  starting_quiet (reads_one s e f brings_first h) = absurd (not_lining (never_back h))
  starting_quiet (reads_one s e f brings_eight h) = absurd (not_lining (never_back h))

-- What finish answers.

require_nine : {os : List Outcome} (b : Bool) (o : Outcome) → LastAnswer os o → LastAnswer os (require b bad_gap o)
unfolding require
require_nine true o h = h
require_nine false o h = within_gap

good : {os : List Outcome} (n a b : ℕ) → LastAnswer os (good_gap n a b)
unfolding good_gap
good n a b = gap_closed

-- a good gap or 9
gap_or_nine : {os : List Outcome} (p : Profile) (k : Kind) (n : ℕ) (w : List ℕ) → LastAnswer os (gap_from p k n w)
gap_or_nine VV5404 k n w = require_nine _ _ (good n _ _)
gap_or_nine VV5300 k n [] = within_gap
gap_or_nine VV5300 k n (h ∷ []) = within_gap
gap_or_nine VV5300 k n (h ∷ l ∷ []) = within_gap
gap_or_nine VV5300 k n (h ∷ l ∷ h₂ ∷ []) = within_gap
gap_or_nine VV5300 k n (h ∷ l ∷ h₂ ∷ l₂ ∷ w) = require_nine _ _ (good n _ _)

line_last : (p : Profile) (os : List Outcome) (x : State) → OpenMark p lining x → LastAnswer os (finish p x).outcome
unfolding answer_of
line_last p os x (in_line b k t l) =
    subst (λ c. LastAnswer os (by_reading p b c t none)) (sym (clean_reading (Line k))) within_line

gap_last : (p : Profile) (os : List Outcome) (x : State) → OpenMark p gapping x → LastAnswer os (finish p x).outcome
unfolding answer_of
gap_last p os x (in_gap k t l) =
    subst (λ c. LastAnswer os (by_reading p (HandedOut k) c t none)) (sym (clean_reading EndOfLine)) (gap_or_nine p k _ _)

starting_last : (p : Profile) (x : State) → OpenMark p starting x → LastAnswer [] (finish p x).outcome
unfolding answer_of
starting_last p x (no_mark_yet t) = no_mark_read
starting_last p x (end_first t l) = subst (λ c. LastAnswer [] (by_reading p NoLine c t none)) (sym (clean_reading EndOfLine)) end_alone

said_nothings : (w : List ℕ) → said (nothings w) ≡ []
said_nothings w = collected_nothings said_in refl w

-- of nibbles that lead from before the first line's mark
pub last_answer_lem : {p : Profile} {x : State} {w : List ℕ} (z : Phase) {end : State} → Reads p starting x w z end → LastAnswer (said (outcomes p x w)) (finish p end).outcome
last_answer_lem {p} {x} {w} starting {end} h =
    subst (λ (os : List Outcome). LastAnswer os (finish p end).outcome) (sym (ap said (starting_quiet h) ∙ said_nothings w)) (starting_last p end (stands_last h))
last_answer_lem {p} {x} {w} lining {end} h = line_last p _ end (stands_last h)
last_answer_lem {p} {x} {w} gapping {end} h = gap_last p _ end (stands_last h)

-- The text.

stands_short : {p : Profile} {q : Phase} {x : State} → OpenMark p q x → TextShort p x
stands_short (no_mark_yet t) before code e = let z : ◌≡◌ {A = ℕ} 0 1 = cc in omega arith
stands_short (end_first t l) before code e = l
stands_short (in_line b k t l) before code e = l
stands_short (in_gap k t l) before code e = l

pub last_short : {p : Profile} {q z : Phase} {x end : State} {w : List ℕ} → Reads p q x w z end → TextShort p end
last_short h = stands_short (stands_last h)

-- Pieces of a stream.

-- nibbles that bring no mark
pub reads_text : (p : Profile) (q : Phase) (m : Mark) (t w : List ℕ) → NoGroup (onto t w)
    → ((v : List ℕ) → length v ≤ length t + length w → OpenMark p q (state_with m v)) → Reads p q (state_with m t) w q (state_with m (onto t w))
reads_text p q m t [] h s = reads_none (s t (omega arith))
reads_text p q m t (n ∷ w) h s =
    let e = none_completed n (no_group_older (no_group_onto (n ∷ t) w h)) in
    reads_one (s t (omega arith)) (ap (λ (d : Completed). (advance p m (n ∷ t) d).outcome) e) (ap (λ (d : Completed). (advance p m (n ∷ t) d).state) e)
    brings_nothing (reads_text p q m (n ∷ t) w h (λ v l. s v (omega arith)))

-- a mark
pub reads_mark : (p : Profile) (q r : Phase) (m : Mark) (t : List ℕ) (c : ℕ) {o : Outcome} {b : Before} → NoGroup t
    → ((v : List ℕ) → length v ≤ length t + 7 → OpenMark p q (state_with m v))
    → answer_at p m t (some c) ≡ o → Brings q o r → becomes p m t c ≡ b → OpenMark p r (opened b c)
    → Reads p q (state_with m t) (mark_of c) r (opened b c)
reads_mark p q r m t c {o} {b} h s e k f last =
    let more : NoGroup (15 ∷ 15 ∷ t) = no_group_more refl (no_group_more refl h) in
    reads_append (reads_text p q m t (15 ∷ 15 ∷ []) more (λ v l. s v (omega arith)))
    (reads_one (s (15 ∷ 15 ∷ t) (omega arith)) refl refl brings_nothing
    (reads_one (s (15 ∷ 15 ∷ 15 ∷ t) (omega arith)) refl refl brings_nothing
    (reads_one (s (15 ∷ 15 ∷ 15 ∷ 15 ∷ t) (omega arith)) refl refl brings_nothing
    (reads_one (s (0 ∷ 15 ∷ 15 ∷ 15 ∷ 15 ∷ t) (omega arith)) refl refl brings_nothing
    (reads_one (s (0 ∷ 0 ∷ 15 ∷ 15 ∷ 15 ∷ 15 ∷ t) (omega arith)) refl refl brings_nothing
    (reads_one (s (c / 16 ∷ 0 ∷ 0 ∷ 15 ∷ 15 ∷ 15 ∷ 15 ∷ t) (omega arith))
    (ap (λ (d : ℕ). answer_at p m t (some d)) (byte_joined c) ∙ e)
    (ap (λ (d : ℕ). state_with (Open (becomes p m t d) d) (c % 16 ∷ c / 16 ∷ [])) (byte_joined c) ∙ ap (λ (x : Before). opened x c) f)
    k
    (reads_none last)))))))
