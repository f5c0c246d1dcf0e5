use Rattle.std.proofs.Common.{◌≡◌, length}
use Rattle.cx_rules.specs.Ports.{component_of}
use Rattle.cx_design.specs.PlainDesigns.{plain_design}
use Rattle.cx_shape_calls.specs.Inputs.{ArePathsOf}
use Rattle.cx_shape_calls.specs.Decisions.{AreShapesOf}
use Rattle.cx_shape_calls.proofs.groups.shapes.Given as goal

-- the groups so far
abbrev pub invariant-loop-place : goal.invariant-loop-place
invariant-loop-place l =
    let i = component_of (plain_design l.design) l.number in
    record {
      many : length l.list.items ≡ l.place;
      so_far : AreShapesOf i l.place l.list.items;
      paths : ArePathsOf i l.paths;
    }
