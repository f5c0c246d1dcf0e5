use Rattle.std.proofs.Common.{◌≤◌, ◌-◌, ◌^◌, ◌≡◌, ◌+◌, drop, map}
use Rattle.cx_design.specs.PlainForms.{plain_guard}
use Rattle.cx_meaning.specs.Designs.{guards_of}
use Rattle.cx_rules.specs.Items.{nodes_in}
use Rattle.cx_design_sizes.specs.Capped.{capped}
use Rattle.cx_design_sizes.proofs.sizes.+guard.Given as goal

abbrev pub invariant-nodes_in-loop-guard : goal.invariant-nodes_in-loop-guard
invariant-nodes_in-loop-guard l = (capped (l.nodes + nodes_in (guards_of (map plain_guard (drop l.guard-index l.guards)))) ≡ capped (nodes_in (guards_of (map plain_guard l.guards)))) × (l.nodes ≤ 2 ^ 64 - 1)
