use Rattle.std.proofs.Common.{ap}
use Rattle.cx_profiling.proofs.SampledCounts.{sampled_counts}
use Rattle.cx_profiling.proofs.counting_laws.islands_count_by_samples.Goals as goal

pub returns : goal.returns
returns c i held form kept s n fine q g = ap (λ τ. τ q g) (sampled_counts i held form fine kept s n)
