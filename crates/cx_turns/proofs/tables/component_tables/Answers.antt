use Rattle.std.proofs.Common.{◌+◌, length, ap, ◌∙◌, sym, subst}
use Rattle.cx_rules.specs.Ports.{component_of}
use Rattle.cx_design.specs.PlainDesigns.{plain_design}
use Rattle.cx_turns.specs.GroupRows.{IsTableOf, AreRight}
use Rattle.cx_turns.proofs.TableLemmas.{pushed}
use Rattle.cx_text.proofs.ListLaws.{one_more}
use Rattle.cx_turns.proofs.tables.component_tables.Goals as goal

pub loop-number-preserved : goal.loop-number-preserved
loop-number-preserved c =
    let d = plain_design c.args.design.now in
    let tables = c.loop-number.tables.items in
    let table = c.in_ok-group_table.field-0 in
    record {
      count = ap length c.in_ok-push.ensures.items ∙ one_more tables table ∙ ap (λ n. n + 1) c.loop-number.invariant.count;
      right = subst (AreRight d) (sym c.in_ok-push.ensures.items)
          (pushed (λ k. IsTableOf (component_of d k)) tables table c.loop-number.invariant.right
          (subst (λ n. IsTableOf (component_of d n) table) (sym c.loop-number.invariant.count) c.in_ok-group_table.ensures.value));
    }
