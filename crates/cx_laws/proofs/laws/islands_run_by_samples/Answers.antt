use Rattle.cx_laws.proofs.SampledLemmas.{sampled_is}
use Rattle.cx_laws.proofs.laws.islands_run_by_samples.Goals as goal

pub returns : goal.returns
returns c = λ i held form kept s n fine. sampled_is i held form fine kept s n
