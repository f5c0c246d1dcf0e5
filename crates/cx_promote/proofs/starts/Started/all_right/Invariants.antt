use Rattle.std.proofs.Common.{◌≡◌, drop}
use Rattle.std.specs.List.{list_all}
use Rattle.cx_prim.specs.Table.{row_of}
use Rattle.cx_rules.specs.Ports.{component_of}
use Rattle.cx_design.specs.PlainDesigns.{plain_design}
use Rattle.cx_design.specs.PlainForms.{plain_assigns, plain_group}
use Rattle.cx_promotion.specs.Promotable.{is_right}
use Rattle.cx_promote.proofs.starts.Started.all_right.Given as goal

-- all are right if those that are left are
abbrev pub invariant-loop-assign : goal.invariant-loop-assign
invariant-loop-assign l =
    list_all (is_right (component_of (plain_design l.design) l.number) (plain_group l.group) l.self.cell l.self.port (row_of l.self.primitive.now)) (plain_assigns (drop l.assign-index l.assign-items))
    ≡ list_all (is_right (component_of (plain_design l.design) l.number) (plain_group l.group) l.self.cell l.self.port (row_of l.self.primitive.now)) (plain_assigns l.assign-items)
