use Rattle.std.proofs.Common.{◌≡◌, ◌++◌, drop, map}
use Rattle.cx_rules.specs.Ports.{component_of}
use Rattle.cx_design.specs.PlainDesigns.{plain_design}
use Rattle.cx_design.specs.PlainForms.{plain_group}
use Rattle.cx_promotion.specs.Promotable.{promotable}
use Rattle.cx_promote.proofs.lengths.lengths.Given as goal

-- the lengths so far, and of the groups that are left
abbrev pub invariant-loop-group : goal.invariant-loop-group
invariant-loop-group l =
    l.lengths.items ++ map (promotable (component_of (plain_design l.design) l.number)) (map plain_group (drop l.group-index l.groups))
    ≡ map (promotable (component_of (plain_design l.design) l.number)) (map plain_group l.groups)
