-- Each state that may be reached is: the laws that rest on the nibbles to a mark (Reachable).
use Rattle.std.specs.Prelude.{◌≡◌, refl, true, List, [], ◌∷◌, ◌++◌, ℕ, ◌/◌, ◌%◌}
use Rattle.std.proofs.Common.{◌∙◌, ap, sym, subst, arith}
use Rattle.line_code.specs.declared.Kind.{Kind}
use Rattle.line_code.specs.declared.Kind.TheVariants.{BL, BK, VL, SOF, EOF}
use Rattle.line_code.specs.declared.Meaning.TheVariants.{Line}
use Rattle.line_code.specs.declared.Repair.TheVariants.{Clean}
use Rattle.line_code.specs.LineCode.{clean_byte, reading_of, meaning_of, kind_numbered, reserved_of}
use Rattle.line_code.specs.LineCodeLaws.{clean_reading}
use Rattle.profile.specs.declared.Profile.{Profile}
use Rattle.stream.specs.declared.Before.TheVariants.{NoLine, RefusedLine, HandedOut}
use Rattle.stream.specs.declared.Mark.{Mark}
use Rattle.stream.specs.declared.Mark.TheVariants.{NoMark, Open}
use Rattle.stream.specs.Answers.{turned, answer_of}
use Rattle.stream.specs.Stream.{State, not_yet, detect, fresh, run}
use Rattle.stream.specs.Nibbles.{AllNibbles, no_nibble}
use Rattle.stream.specs.NibblesLaws.{all_nibbles_append}
use Rattle.reader_head.specs.Head.{handed_fits}
use Rattle.recovery.specs.Resync.{state_with}
use Rattle.recovery.specs.ReadBackLaws.{run_append, line_opens}
use Rattle.recovery.specs.WrittenLaws.{all_content}
use Rattle.recovery.proofs.Examples.{sample, sample_writable}
use Rattle.reader_laws.specs.Passing.{Byte}
use Rattle.explained.specs.Equivalent.{base_of, Equivalent}
use Rattle.explained.specs.Reachable.{run_lengthens, Leads, leads, marks_for, nibbles_to, EndRead, end_read, reads_end, opened_at_lem, mark_small, clean_small, small_turned, Reachable}

after_line_lem : (p : Profile) (k : Kind) (c : ℕ) → EndRead (reading_of c) → run p fresh (marks_for p (HandedOut k) c) ≡ state_with (Open (HandedOut k) c) (c % 16 ∷ c / 16 ∷ [])
after_line_lem p k c (end_read q e) =
    line_opens p (sample p k 0) (sample_writable p k 0 (omega arith)) (clean_byte (Line k)) c Clean q (clean_reading (Line k)) e fresh

to_mark : (p : Profile) (m : Mark) → handed_fits m ≡ true → run p fresh (nibbles_to p m) ≡ state_with m (base_of m)
unfolding clean_byte reading_of meaning_of kind_numbered reserved_of answer_of
to_mark p NoMark h = refl
to_mark p (Open (HandedOut k) c) h = after_line_lem p k c (reads_end (reading_of c) h)
to_mark p (Open NoLine c) h = opened_at_lem NoLine c (c % 16 ∷ c / 16 ∷ [])
to_mark p (Open (RefusedLine BL) c) h = opened_at_lem (RefusedLine BL) c (c % 16 ∷ c / 16 ∷ [])
to_mark p (Open (RefusedLine BK) c) h = opened_at_lem (RefusedLine BK) c (c % 16 ∷ c / 16 ∷ [])
to_mark p (Open (RefusedLine VL) c) h = opened_at_lem (RefusedLine VL) c (c % 16 ∷ c / 16 ∷ [])
to_mark p (Open (RefusedLine SOF) c) h = opened_at_lem (RefusedLine SOF) c (c % 16 ∷ c / 16 ∷ [])
to_mark p (Open (RefusedLine EOF) c) h = opened_at_lem (RefusedLine EOF) c (c % 16 ∷ c / 16 ∷ [])

to_mark_small : (p : Profile) (m : Mark) → Byte m → AllNibbles (nibbles_to p m)
to_mark_small p NoMark h = no_nibble
to_mark_small p (Open NoLine c) h = mark_small c h
to_mark_small p (Open (RefusedLine k) c) h = all_nibbles_append (mark_small _ (clean_small k)) (mark_small c h)
to_mark_small p (Open (HandedOut k) c) h =
    all_nibbles_append (mark_small _ (clean_small k))
    (all_nibbles_append (all_content p (sample p k 0) (sample_writable p k 0 (omega arith))) (mark_small c h))

pub reachable : (p : Profile) (m : Mark) {v : List ℕ} → Byte m → handed_fits m ≡ true → AllNibbles v → detect (v ++ base_of m) ≡ not_yet
    → Reachable p (state_with m (v ++ base_of m))
reachable p m {v} b fits s e = go (leads m b s e)
  where
    go : Leads m v → Reachable p (state_with m (v ++ base_of m))
    go q =
        record {
          nibbles = nibbles_to p m ++ turned q.new [];
          small = all_nibbles_append (to_mark_small p m b) (small_turned q.small no_nibble);
          equivalent =
              subst (λ (x : State). Equivalent (state_with m (v ++ base_of m)) x)
              (sym
              (run_append p fresh (nibbles_to p m) (turned q.new [])
              ∙ ap (λ (x : State). run p x (turned q.new [])) (to_mark p m fits)
              ∙ run_lengthens p m (base_of m) [] q.no_mark))
              q.equivalent;
        }
