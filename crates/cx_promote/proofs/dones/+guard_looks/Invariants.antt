use Rattle.std.proofs.Common.{◌≡◌, map, drop}
use Rattle.cx_meaning.specs.Designs.{guards_of}
use Rattle.cx_rules.specs.Ports.{component_of}
use Rattle.cx_design.specs.PlainDesigns.{plain_design}
use Rattle.cx_design.specs.PlainForms.{plain_guard}
use Rattle.cx_promote.specs.Looking.{guards_look}
use Rattle.cx_promote.proofs.dones.+guard_looks.Given as goal

-- one that is left looks at a done, if any does
abbrev pub invariant-loop-part : goal.invariant-loop-part
invariant-loop-part l =
    guards_look (component_of (plain_design l.design) l.number) (guards_of (map plain_guard (drop l.part-index l.part-items)))
    ≡ guards_look (component_of (plain_design l.design) l.number) (guards_of (map plain_guard l.part-items))
