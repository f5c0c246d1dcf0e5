use Rattle.std.proofs.Common.{◌≡◌, ◌-◌, length}
use Rattle.cx_design.specs.PlainDesigns.{plain_design}
use Rattle.cx_design_parts.specs.Breaks.{first_of}
use Rattle.cx_design_parts.specs.Numbered.{counted}
use Rattle.cx_shape_rules.specs.ShapeBreaks.{component_breaks}
use Rattle.cx_shape_rules.proofs.checking.add_breaks.Given as goal

-- the first so far, with the components that are left, is the first of all
abbrev pub invariant-loop-number : goal.invariant-loop-number
invariant-loop-number l =
    let d = plain_design l.design in
    first_of l.first (counted (component_breaks d) l.number (length l.design.components.items - l.number)) ≡ first_of l.initial.first (counted (component_breaks d) 0 (length l.design.components.items))
