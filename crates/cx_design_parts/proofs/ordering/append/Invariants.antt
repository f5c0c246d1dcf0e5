use Rattle.std.proofs.Common.{◌≡◌, ◌++◌, map, drop}
use Rattle.cx_meaning.specs.Active.{owned}
use Rattle.cx_design.specs.PlainForms.{plain_assigns}
use Rattle.cx_design_parts.specs.Plain.{plain_owned}
use Rattle.cx_design_parts.proofs.ordering.append.Given as goal

-- the list so far, and the assignments that are left, are all
abbrev pub invariant-loop-assign : goal.invariant-loop-assign
invariant-loop-assign l =
    map plain_owned l.list.items ++ owned l.owner (plain_assigns (drop l.assign-index l.assigns)) ≡ map plain_owned l.initial.list.items ++ owned l.owner (plain_assigns l.assigns)
