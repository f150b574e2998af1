-- Many stretches at work: four lines of mixed kinds, in either profile, a stretch of the second replaced by three nibbles and one nibble of the last
-- cut out. The first and the third line lie whole in what stayed, and the marks after their gaps too.
use Rattle.std.specs.Prelude.{◌≡◌, refl, List, [], ◌∷◌, ℕ, ◌-◌, take, drop}
use Rattle.line_code.specs.declared.Kind.TheVariants.{VL, SOF}
use Rattle.profile.specs.declared.Profile.{Profile}
use Rattle.profile.specs.declared.Profile.TheVariants.{VV5404, VV5300}
use Rattle.stream.specs.Written.{stream}
use Rattle.recovery.proofs.Examples.{sample, four, from, to, new}
use Rattle.stretch_laws.specs.Stretches.{Segment, unchanged, replaced, clean_of, whole_lines, closed_lines}

-- a place within the last line
abbrev cut : Profile → ℕ
cut VV5404 = 2500
cut VV5300 = 1300

-- a stream with two stretches replaced
abbrev pub two_stretches : Profile → List Segment
two_stretches p =
    let c : List ℕ = stream (four p) in
    unchanged (take (from p) c)
    ∷ replaced (take (to p - from p) (drop (from p) c)) new
    ∷ unchanged (take (cut p - to p) (drop (to p) c))
    ∷ replaced (take 1 (drop (cut p) c)) []
    ∷ unchanged (drop 1 (drop (cut p) c))
    ∷ []

pub segments_clean : (p : Profile) → clean_of (two_stretches p) ≡ stream (four p)
segments_clean VV5404 = refl
segments_clean VV5300 = refl

pub whole_lines_lem : (p : Profile) → whole_lines (four p) (two_stretches p) ≡ sample p SOF 0 ∷ sample p VL 10 ∷ []
whole_lines_lem VV5404 = refl
whole_lines_lem VV5300 = refl

pub closed_lines_lem : (p : Profile) → closed_lines (four p) (two_stretches p) ≡ sample p SOF 0 ∷ sample p VL 10 ∷ []
closed_lines_lem VV5404 = refl
closed_lines_lem VV5300 = refl
