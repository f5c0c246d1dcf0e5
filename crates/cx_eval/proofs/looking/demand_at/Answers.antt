use Rattle.std.proofs.Common.{sym, ◌∙◌}
use Rattle.cx_eval_cycle.proofs.PortLemmas.{fits_still}
use Rattle.cx_eval.specs.Looked.{seen_from}
use Rattle.cx_eval.proofs.looking.demand_at.Goals as goal

pub returns-in-Value-clause-fits : goal.returns-in-Value-clause-fits
returns-in-Value-clause-fits c = λ ports wide fits.
    fits_still (seen_from c.args.asking.now c.args.first) ports c.args.inputs.now c.args.port c.in-Value.bits wide (sym c.port_seen.ensures.value ∙ c.in-Value.is) fits
