use Rattle.std.proofs.Common.{◌∙◌, sym, ap}
use Rattle.cx_numbering.specs.Names.{primitive_or, component_among}
use Rattle.cx_names_scopes.specs.Scopes.{tree_in}
use Rattle.cx_names_scopes.proofs.PrimitiveLemmas.{primitive_absent}
use Rattle.cx_names_scopes.proofs.scopes.Scope.kind.Goals as goal

pub returns-in-None-clause-value : goal.returns-in-None-clause-value
returns-in-None-clause-value c =
    c.component_kind.ensures.value
    ∙ sym (ap (λ o. primitive_or o c.args.cell.now.numbers.items (component_among c.args.cell.now.kind (tree_in c.args.self.now).components)) (primitive_absent c.args.cell.now.kind (rw c.bytes.ensures.value at c.in-None.ensures.none)))
