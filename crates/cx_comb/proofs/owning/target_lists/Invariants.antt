use Rattle.std.proofs.Common.{map, take}
use Rattle.cx_graphs.specs.Graphs.{edges_of}
use Rattle.cx_rules.specs.Ports.{component_of}
use Rattle.cx_design.specs.PlainDesigns.{plain_design}
use Rattle.cx_design.specs.PlainForms.{plain_group}
use Rattle.cx_comb.specs.Owning.{AreTargetLists}
use Rattle.cx_comb.proofs.owning.target_lists.Given as goal

-- the groups so far
abbrev pub invariant-loop-group : goal.invariant-loop-group
invariant-loop-group l = AreTargetLists (component_of (plain_design l.design) l.number) (map plain_group (take l.group-index l.groups)) (edges_of l.lists.items)
