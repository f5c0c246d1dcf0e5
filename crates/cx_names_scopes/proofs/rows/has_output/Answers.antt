use Rattle.std.proofs.Common.{◌∙◌, sym}
use Rattle.cx_names_scopes.specs.Scopes.{tree_in, part_in}
use Rattle.cx_names_scopes.proofs.PrimitiveLemmas.{output_first, output_other}
use Rattle.cx_names_scopes.proofs.rows.has_output.Goals as goal

pub returns-then-is_output_named : goal.returns-then-is_output_named
returns-then-is_output_named c =
    output_first (tree_in c.args.scope.now) (part_in c.args.scope.now) _ c.loop-number.number c.port.result c.args.name.now _ c.port.ensures.value (sym c.is_output_named.ensures ∙ c.if-is_output_named.true) c.loop-number.invariant.behind

pub loop-number-preserved : goal.loop-number-preserved
loop-number-preserved c = record {
  end = c.loop-number.invariant.end;
  behind = output_other (tree_in c.args.scope.now) (part_in c.args.scope.now) _ c.loop-number.number c.port.result c.args.name.now _ c.port.ensures.value (sym c.is_output_named.ensures ∙ c.if-is_output_named.false) c.loop-number.invariant.behind;
}
