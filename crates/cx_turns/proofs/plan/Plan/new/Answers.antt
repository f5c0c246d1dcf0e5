use Rattle.std.proofs.Common.{sym, subst}
use Rattle.cx_design.specs.PlainDesigns.{plain_design}
use Rattle.cx_rules.specs.Flat.{IsFlat}
use Rattle.cx_state.specs.Tables.{IsTable}
use Rattle.cx_turns.specs.declared.plan.Plan.{Plan}
use Rattle.cx_turns.proofs.PlanLemmas.{plan_is}
use Rattle.cx_turns.proofs.plan.Plan.new.Goals as goal

pub returns-clause-plan : goal.returns-clause-plan
returns-clause-plan c =
    let plan : Plan = record { design = c.design-design.result; table = c.in_ok-table.table; groups = c.in_ok-groups.groups } in
    plan_is plan (subst (λ d. IsFlat (plain_design d)) (sym c.design-design.ensures.value) c.requires.flat) c.design-design.ensures.accepted
    (subst (λ d. IsTable (plain_design d) c.in_ok-table.table.rows.items c.in_ok-table.table.children.items) (sym c.design-design.ensures.value) c.in_ok-table.ensures.value) c.in_ok-groups.ensures.value
