use Rattle.cx_design.specs.PlainDesigns.{plain_design}
use Rattle.cx_state.proofs.TableLemmas.{IsFilled}
use Rattle.cx_state.proofs.tables.table.Given as goal

abbrev pub invariant-loop-number : goal.invariant-loop-number
invariant-loop-number l = IsFilled (plain_design l.design) l.order l.number l.rows.items l.children.items
