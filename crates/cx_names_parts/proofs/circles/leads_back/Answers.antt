use Rattle.std.proofs.Common.{◌≡◌, ◌∙◌, Some, sym}
use Rattle.std.proofs.lemmas.Option.{slice_get_within}
use Rattle.cx_ast.specs.PlainTree.{plain_cell}
use Rattle.cx_numbering.specs.Names.{cell_of}
use Rattle.cx_names_scopes.specs.Scopes.{tree_in, part_in}
use Rattle.cx_names_parts.specs.Leading.{is_recursive}
use Rattle.cx_names_parts.proofs.Leads.{marked_at}
use Rattle.cx_names_parts.proofs.Numbers.{recursive_none}
use Rattle.cx_names_parts.proofs.circles.leads_back.Goals as goal

pub is_marked-requires : goal.is_marked-requires
is_marked-requires c =
    slice_get_within c.args.marks.now c.in-Some.number _
    (marked_at (tree_in c.args.scope.now) (part_in c.args.scope.now) (plain_cell c.args.cell.now) c.args.marks.now c.in-Some.number c.requires.marks c.requires.stands c.in-Some.ensures.value)

pub returns-in-None : goal.returns-in-None
returns-in-None c = record { value = sym (recursive_none (tree_in c.args.scope.now) (part_in c.args.scope.now).name (plain_cell c.args.cell.now) (sym c.in-None.ensures.value)) }

pub returns-in-Some : goal.returns-in-Some
returns-in-Some c =
    let tree = tree_in c.args.scope.now in
    let part = part_in c.args.scope.now in
    let cell = plain_cell c.args.cell.now in
    let both : Some c.is_marked.result ≡ Some (is_recursive tree part.name (cell_of tree cell)) =
    sym c.is_marked.ensures ∙ marked_at tree part cell c.args.marks.now c.in-Some.number c.requires.marks c.requires.stands c.in-Some.ensures.value in
    record { value = cc }
