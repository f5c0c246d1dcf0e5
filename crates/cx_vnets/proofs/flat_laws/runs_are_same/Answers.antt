use Rattle.cx_vnets.proofs.Fitting.{fitting_ready}
use Rattle.cx_vnets.proofs.RunLemmas.{sim_told}
use Rattle.cx_vnets.proofs.flat_laws.runs_are_same.Goals as goal

pub returns : goal.returns
returns c s loaded last m start b reset go o apart edges memories stands at_start ready run =
    sim_told s m stands apart edges memories c.codes_have_widths.ensures loaded start reset go at_start (fitting_ready m start b ready) run
