use Rattle.std.proofs.Common.{◌≡◌, ◌+◌, ◌≤◌, length, ap, ◌∙◌, sym, subst, arith}
use Rattle.cx_meaning.specs.Designs.{PlainComponent}
use Rattle.cx_meaning.specs.Instances.{paths_of, tree_of}
use Rattle.cx_turns.specs.Machines.{design_of}
use Rattle.cx_turns.proofs.TableLemmas.{pushed}
use Rattle.cx_text.proofs.ListLaws.{one_more, length-map}
use Rattle.cx_design.specs.PlainForms.{plain_group}
use Rattle.cx_interp.proofs.ZeroCounts.{IsZeroRow, AreZeroRows, zero_row, zeros_have_rows, zeros_are_zero}
use Rattle.cx_interp.proofs.counts.Counts.new.Goals as goal

pub loop-instance-preserved : goal.loop-instance-preserved
loop-instance-preserved c =
    let d = design_of c.args.plan.now in
    let rows = c.loop-instance.rows.items in
    let row = c.in_ok-zeros.field-0 in
    let told : c.len-groups.result ≡ length c.instance_part.result.now.groups.items = omega arith in
    record {
      count = ap length c.in_ok-push.ensures.items ∙ one_more rows row ∙ ap (λ n. n + 1) c.loop-instance.invariant.count;
      zeros = subst (AreZeroRows (λ row. row.items) d) (sym c.in_ok-push.ensures.items)
          (pushed (λ n row. IsZeroRow d n row.items) rows row c.loop-instance.invariant.zeros
          (subst (λ n. IsZeroRow d n row.items) (sym c.loop-instance.invariant.count)
          (zero_row d c.loop-instance.instance c.len-groups.result row.items c.in_ok-zeros.ensures
          (λ path number. told ∙ sym (length-map plain_group c.instance_part.result.now.groups.items) ∙ ap (λ (p : PlainComponent). length p.groups)
          (c.instance_part.ensures path number)))));
    }

pub returns-clause-rows : goal.returns-clause-rows
returns-clause-rows c =
    let d = design_of c.args.plan.now in
    let enough : length (paths_of (tree_of d)) ≤ length c.loop-instance.rows.items = omega
    (arith, c.requires.plan.table.count, c.loop-instance.invariant.count, c.loop-instance-test.false, c.len-instance-end.ensures) in
    zeros_have_rows (λ row. row.items) d c.loop-instance.rows.items enough c.loop-instance.invariant.zeros

pub returns-clause-zeros : goal.returns-clause-zeros
returns-clause-zeros c = zeros_are_zero (λ row. row.items) (design_of c.args.plan.now) c.loop-instance.rows.items c.loop-instance.invariant.zeros
