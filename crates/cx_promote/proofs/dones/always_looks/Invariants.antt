use Rattle.std.proofs.Common.{◌≡◌, drop}
use Rattle.std.specs.List.{list_any}
use Rattle.cx_rules.specs.Ports.{component_of}
use Rattle.cx_design.specs.PlainDesigns.{plain_design}
use Rattle.cx_design.specs.PlainForms.{plain_assigns}
use Rattle.cx_promotion.specs.Promotable.{looks_at_done}
use Rattle.cx_promote.proofs.dones.always_looks.Given as goal

-- one that is left looks at a done, if any does
abbrev pub invariant-loop-assign : goal.invariant-loop-assign
invariant-loop-assign l =
    list_any (looks_at_done (component_of (plain_design l.design) l.number)) (plain_assigns (drop l.assign-index l.assign-items))
    ≡ list_any (looks_at_done (component_of (plain_design l.design) l.number)) (plain_assigns l.assign-items)
