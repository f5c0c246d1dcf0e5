use Rattle.std.proofs.Common.{map, refl, arith}
use Rattle.cx_design.specs.PlainForms.{plain_guard}
use Rattle.cx_meaning.specs.Designs.{guards_of}
use Rattle.cx_rules.specs.Items.{nodes_in}
use Rattle.cx_design_sizes.proofs.Caps.{ended}
use Rattle.cx_design_sizes.proofs.sizes.+guard.Goals as goal

pub nodes_in-returns : goal.nodes_in-returns
nodes_in-returns t c = ended (λ gs. nodes_in (guards_of (map plain_guard gs))) c.args.guards.now c.loop-guard.guard-index c.loop-guard.nodes refl (omega arith) c.loop-guard.invariant.1 c.loop-guard.invariant.0
