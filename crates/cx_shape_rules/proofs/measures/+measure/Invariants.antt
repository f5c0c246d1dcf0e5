use Rattle.std.proofs.Common.{◌≡◌, ◌+◌, ◌&&◌, ◌++◌, ◌≤◌, ◌-◌, ◌^◌, max, map, drop}
use Rattle.cx_design.specs.PlainForms.{plain_component, plain_statements}
use Rattle.cx_rules.specs.Items.{InStatic, visit_all}
use Rattle.cx_rules.specs.StaticControl.{all_have_length}
use Rattle.cx_rules.specs.Invokes.{sum_lasts, max_lasts}
use Rattle.cx_design_parts.specs.Items.{plain_context}
use Rattle.cx_shape_rules.specs.Measures.{capped, measure_of}
use Rattle.cx_shape_rules.proofs.measures.+measure.Given as goal

-- what is added so far, and the measures of the parts that are left, are all
abbrev pub invariant-add_all-loop-statement : goal.invariant-add_all-loop-statement
invariant-add_all-loop-statement l =
    let f = measure_of (plain_component l.part) in
    l.list.items ++ map f (visit_all (plain_context l.context) (plain_statements (drop l.statement-index l.parts))) ≡ l.initial.list.items ++ map f (visit_all (plain_context l.context) (plain_statements l.parts))

-- the same, and each total so far with that of the parts that are left is that of all
abbrev pub invariant-add_static-loop-statement : goal.invariant-add_static-loop-statement
invariant-add_static-loop-statement l =
    let part = plain_component l.part in
    let left = plain_statements (drop l.statement-index l.parts) in
    let all = plain_statements l.parts in
    record {
      list : l.list.items ++ map (measure_of part) (visit_all InStatic left) ≡ l.initial.list.items ++ map (measure_of part) (visit_all InStatic all);
      lengths : l.all_have_length && all_have_length part left ≡ all_have_length part all;
      sum : capped (l.sum + sum_lasts part left) ≡ capped (sum_lasts part all);
      longest : capped (max l.longest (max_lasts part left)) ≡ capped (max_lasts part all);
      few : l.sum ≤ 2 ^ 128 - 1;
      short : l.longest ≤ 2 ^ 128 - 1;
    }
