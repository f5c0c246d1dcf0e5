use Rattle.cx_eval_cycle.proofs.passes.step_held.Goals as goal

pub edge-requires-clause-inputs_fit : goal.edge-requires-clause-inputs_fit
edge-requires-clause-inputs_fit c = (c.requires.can c.in-Some.state c.in-Some.is).fits
