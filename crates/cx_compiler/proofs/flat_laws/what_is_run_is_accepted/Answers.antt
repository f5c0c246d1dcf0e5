use Rattle.cx_compiler.proofs.RunDesigns.{run_is_design, run_is_accepted, run_is_counted}
use Rattle.cx_compiler.proofs.flat_laws.what_is_run_is_accepted.Goals as goal

pub returns : goal.returns
returns c = record {
  design = λ d can. run_is_design d can c.flat_designs_are_designs.ensures.design;
  accepted = λ d can. run_is_accepted d can c.flat_designs_are_accepted.ensures.whole;
  size = λ d can. run_is_counted d can c.flat_designs_keep_weights.ensures.size;
}
