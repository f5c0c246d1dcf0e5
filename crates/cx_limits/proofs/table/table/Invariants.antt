use Rattle.cx_design.specs.PlainDesigns.{plain_design}
use Rattle.cx_limits.specs.Rows.{IsTable}
use Rattle.cx_limits.proofs.table.table.Given as goal

abbrev pub invariant-loop-component : goal.invariant-loop-component
invariant-loop-component l = IsTable (plain_design l.design) l.component-items l.component-index l.rows.items
