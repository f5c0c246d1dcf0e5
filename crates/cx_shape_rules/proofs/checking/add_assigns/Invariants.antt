use Rattle.std.proofs.Common.{◌≡◌, drop, map}
use Rattle.cx_design.specs.PlainDesigns.{plain_design}
use Rattle.cx_design_parts.specs.Plain.{plain_owned}
use Rattle.cx_design_parts.specs.Breaks.{first_of}
use Rattle.cx_design_parts.specs.Numbered.{numbered}
use Rattle.cx_shape_rules.specs.ShapeBreaks.{assign_breaks_at}
use Rattle.cx_shape_rules.proofs.checking.add_assigns.Given as goal

-- the first so far, with the assignments that are left, is the first of all
abbrev pub invariant-loop-place : goal.invariant-loop-place
invariant-loop-place l =
    let f = assign_breaks_at (plain_design l.design) l.number in
    first_of l.first (numbered f l.place (map plain_owned (drop l.place l.assigns.items))) ≡ first_of l.initial.first (numbered f 0 (map plain_owned l.assigns.items))
