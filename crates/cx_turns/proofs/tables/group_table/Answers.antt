use Rattle.std.proofs.Common.{◌+◌, length, ap, ◌∙◌, sym, subst}
use Rattle.cx_rules.specs.Ports.{component_of}
use Rattle.cx_design.specs.PlainDesigns.{plain_design}
use Rattle.cx_turns.specs.GroupRows.{IsGroup, AreRows}
use Rattle.cx_turns.proofs.TableLemmas.{pushed}
use Rattle.cx_text.proofs.ListLaws.{one_more}
use Rattle.cx_turns.proofs.tables.group_table.Goals as goal

pub loop-group-preserved : goal.loop-group-preserved
loop-group-preserved c =
    let i = component_of (plain_design c.args.design.now) c.args.number in
    let rows = c.loop-group.rows.items in
    let row = c.in_ok-group_row.field-0 in
    record {
      count = ap length c.in_ok-push.ensures.items ∙ one_more rows row ∙ ap (λ n. n + 1) c.loop-group.invariant.count;
      right = subst (AreRows i) (sym c.in_ok-push.ensures.items)
          (pushed (IsGroup i) rows row c.loop-group.invariant.right (subst (λ n. IsGroup i n row) (sym c.loop-group.invariant.count) c.in_ok-group_row.ensures.value));
    }
