use Rattle.std.proofs.Common.{sym, ap, ◌∙◌}
use Rattle.cx_numbering.specs.Names.{number_of, component_names}
use Rattle.cx_names_scopes.proofs.PrimitiveLemmas.{primitive_absent}
use Rattle.cx_names_scopes.specs.Scopes.{tree_in}
use Rattle.cx_names_parts.specs.Leading.{number_or}
use Rattle.cx_names_parts.proofs.edges.component_number.Goals as goal

pub returns-in-None : goal.returns-in-None
returns-in-None c = record {
  value =
      c.find.ensures.value
      ∙ c.requires.index.components c.args.cell.now.kind
      ∙ sym (ap (λ o. number_or o (number_of c.args.cell.now.kind (component_names (tree_in c.args.scope.now)))) (primitive_absent c.args.cell.now.kind (rw c.bytes.ensures.value at c.in-None.ensures.none)));
}
