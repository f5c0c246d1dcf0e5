use Rattle.std.proofs.Common.{◌≡◌, ◌++◌, map, drop}
use Rattle.cx_rules.specs.Items.{visit_all}
use Rattle.cx_design.specs.PlainForms.{plain_statements}
use Rattle.cx_design_parts.specs.Items.{plain_context, plain_visited}
use Rattle.cx_design_parts.proofs.control.+visit.Given as goal

-- what is added so far, and the statements of the parts that are left, are all
abbrev pub invariant-add_all-loop-part : goal.invariant-add_all-loop-part
invariant-add_all-loop-part l =
    map plain_visited l.list.items ++ visit_all (plain_context l.context) (plain_statements (drop l.part-index l.parts)) ≡ map plain_visited l.initial.list.items ++ visit_all (plain_context l.context) (plain_statements l.parts)
