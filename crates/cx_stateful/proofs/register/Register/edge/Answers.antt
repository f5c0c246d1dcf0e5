use Rattle.std.proofs.Common.{refl}
use Rattle.cx_prim.specs.RegisterRow.{register_row}
use Rattle.cx_prim.proofs.RowTools.{value_at_below}
use Rattle.cx_stateful.proofs.register.Register.edge.Goals as goal

pub returns-then-state-clause-fits : goal.returns-then-state-clause-fits
returns-then-state-clause-fits c =
    rw c.number_at-state.ensures.value
    (value_at_below (register_row c.args.self.now.width).ports c.args.inputs.now 0 _ c.requires.inputs_fit refl c.number_at-state.ensures.fits)
