use Rattle.std.proofs.Common.{map, take}
use Rattle.cx_rules.specs.Ports.{component_of}
use Rattle.cx_design.specs.PlainDesigns.{plain_design}
use Rattle.cx_design.specs.PlainForms.{plain_group}
use Rattle.cx_comb.specs.Pruning.{HasTargets}
use Rattle.cx_comb.proofs.pruning.group_targets.Given as goal

-- the groups so far
abbrev pub invariant-loop-group : goal.invariant-loop-group
invariant-loop-group l = HasTargets (component_of (plain_design l.design) l.number) (map plain_group (take l.group-index l.groups)) l.targets.items
