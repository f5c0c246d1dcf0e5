use Rattle.std.proofs.Common.{sym, subst}
use Rattle.cx_ast.specs.PlainTree.{plain_cell}
use Rattle.cx_names_scopes.specs.Scopes.{tree_in, part_in}
use Rattle.cx_names_parts.specs.Leading.{IsLeading}
use Rattle.cx_names_parts.proofs.Leads.{none_leads}
use Rattle.cx_names_parts.proofs.circles.is_recursive.Goals as goal

pub returns-in-None : goal.returns-in-None
returns-in-None c =
    let tree = tree_in c.args.scope.now in
    let part = part_in c.args.scope.now in
    record { value = sym (none_leads tree part (plain_cell c.args.cell.now) (subst (λ o. IsLeading tree part o) c.in-None.is c.requires.leading) c.requires.stands) }
