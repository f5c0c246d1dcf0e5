use Rattle.std.proofs.Common.{sym, ap, ◌∙◌}
use Rattle.cx_text.specs.declared.rules.Rule.TheVariants.{Recursive}
use Rattle.cx_ast.specs.PlainTree.{plain_cell}
use Rattle.cx_numbering.specs.NameRules.{tell_if}
use Rattle.cx_names_scopes.specs.Scopes.{tree_in, part_in}
use Rattle.cx_names_rules.specs.Found.{first_of}
use Rattle.cx_names_parts.proofs.CellLemmas.{recursive_told}
use Rattle.cx_names_parts.proofs.cells.recursive_break.Goals as goal

pub returns : goal.returns
returns c =
    let cell = plain_cell c.args.cell.now in
    c.in_ok-tell_if.ensures
    ∙ ap (λ b. first_of c.args.found.now (tell_if b Recursive cell.place cell.name)) c.is_recursive-is_broken.ensures.value
    ∙ ap (λ ds. first_of c.args.found.now ds) (sym (recursive_told (tree_in c.args.scope.now) (part_in c.args.scope.now) cell))
