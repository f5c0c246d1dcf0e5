use Rattle.std.proofs.Common.{◌∙◌, sym}
use Rattle.cx_interp_islands.proofs.laws.sampled_groups_are_together.Goals as goal

pub returns : goal.returns
returns c = λ part v t kept there within sampled.
    (v, sampled.0, t, there, c.samples_give_the_cycle.ensures.active part v.form sampled.0 t kept sampled.1 ∙ sym (c.timers_give_the_active_groups.ensures part v.form sampled.0 t within))
