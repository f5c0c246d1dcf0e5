use Rattle.std.proofs.Common.{List, ℕ}
use Rattle.std.proofs.lemmas.Result.{IfOk-weaker}
use Rattle.cx_design.specs.PlainDesigns.{plain_design}
use Rattle.cx_state.specs.declared.tables.InstanceRow.{InstanceRow}
use Rattle.cx_state.specs.Tables.{IsTable}
use Rattle.cx_turns.specs.GroupRows.{AreTables, AreGroups}
use Rattle.cx_turns.proofs.TableLemmas.{are_groups}
use Rattle.cx_turns.proofs.tables.group_tables.Goals as goal

pub returns : goal.returns
returns c =
    let d = plain_design c.args.design.now in
    record {
      value = IfOk-weaker c.component_tables.result (λ tables. AreTables d tables.items)
          (λ tables. (rows : List InstanceRow) (children : List ℕ) → IsTable d rows children → AreGroups d rows tables.items)
          (λ tables all rows children table. are_groups d rows children tables.items all table) c.component_tables.ensures.value;
    }
