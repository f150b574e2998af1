-- Many stretches at work at the reader's own calls: the four lines of the other examples, which the writer writes, two stretches of them replaced, and
-- runs that a 10 stops. No hypothesis of the law is empty.
use Rattle.std.specs.Prelude.{◌≡◌, refl, true, List, [], ◌∷◌, map}
use Rattle.std.proofs.Common.{subst}
use Rattle.std.specs.Int.Count.{ones}
use Rattle.line_code.specs.declared.Kind.TheVariants.{VL, SOF}
use Rattle.line_code.specs.LineCode.{clean_byte}
use Rattle.line_number.specs.LineNumber.{number_byte}
use Rattle.profile.specs.declared.Profile.{Profile}
use Rattle.profile.specs.declared.Profile.TheVariants.{VV5404, VV5300}
use Rattle.stream.specs.Written.{Sent, stream}
use Rattle.stream.specs.Nibbles.{nibbles_only}
use Rattle.reader.specs.Reader.{fresh_reader}
use Rattle.recovery.specs.Calls.{as_sent, line_collector}
use Rattle.recovery.proofs.Examples.{sample, four}
use Rattle.refinement.specs.Runs.{RunCall, runs_collected}
use Rattle.stretch_laws.specs.Stretches.{changed_of, Sublist}
use Rattle.stretch_laws.proofs.Examples.{two_stretches, segments_clean, whole_lines_lem}
use Rattle.demands.specs.StretchesWrittenLaws.{stretches_written}
use Rattle.demands.specs.Examples.{four_wrote, calls_on, calls_last, calls_taken}

changed_nibbles : (p : Profile) → nibbles_only (changed_of (two_stretches p)) ≡ true
unfolding clean_byte number_byte ones
changed_nibbles VV5404 = refl
changed_nibbles VV5300 = refl

abbrev calls : Profile → List RunCall
calls p = calls_on p (changed_of (two_stretches p))

-- the first and the third line come out as sent, in this order
pub two_come : (p : Profile) → Sublist (as_sent (sample p SOF 0) ∷ as_sent (sample p VL 10) ∷ []) (runs_collected line_collector p (fresh_reader p) (calls p))
two_come p =
    let w = changed_of (two_stretches p) in
    subst (λ (ss : List Sent). Sublist (map as_sent ss) (runs_collected line_collector p (fresh_reader p) (calls p))) (whole_lines_lem p)
    (stretches_written p (four p) (stream (four p)) (four_wrote p) (two_stretches p) (segments_clean p) (calls p) (calls_last p w) (calls_taken p w (changed_nibbles p))).lines_come
