-- Many stretches of what the writer left: its outputs joined are a clean stream.
use Rattle.std.proofs.Common.{◌∙◌}
use Rattle.profile.specs.declared.Profile.{Profile}
use Rattle.stretch_laws.proofs.StretchCallsLaws.{reads_stretches}
use Rattle.demands.specs.DemandThreeWrittenLaws.{wrote_clean}
use Rattle.demands.specs.StretchesWritten.{ReadsWrittenStretches}

-- the law
pub stretches_written : (p : Profile) → ReadsWrittenStretches p
stretches_written p ss c h gs e cs last taken = let k = wrote_clean p ss c h in reads_stretches p ss k.0 gs (e ∙ k.1) cs last taken
