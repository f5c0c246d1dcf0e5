use Rattle.cx_rewrites.proofs.LoneLemmas.{instance_unwrapped}
use Rattle.cx_rewrites.proofs.examples.lone_parts_run_alike.Goals as goal

pub returns : goal.returns
returns c = λ i held statement s n. instance_unwrapped i held statement s n
