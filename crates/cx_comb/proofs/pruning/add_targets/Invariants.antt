use Rattle.std.proofs.Common.{take}
use Rattle.cx_rules.specs.Ports.{component_of}
use Rattle.cx_design.specs.PlainDesigns.{plain_design}
use Rattle.cx_design.specs.PlainForms.{plain_assigns}
use Rattle.cx_comb.specs.Pruning.{AddsTargets}
use Rattle.cx_comb.proofs.pruning.add_targets.Given as goal

-- the assignments so far
abbrev pub invariant-loop-assign : goal.invariant-loop-assign
invariant-loop-assign l = AddsTargets (component_of (plain_design l.design) l.number) (plain_assigns (take l.assign-index l.assigns)) l.initial.targets.items l.targets.items
