use Rattle.std.proofs.Common.{◌≡◌, drop, flat_map}
use Rattle.cx_ast.specs.PlainStatements.{plain_statements, statements_of}
use Rattle.cx_numbering.specs.NameRules.{form_breaks, visit_all}
use Rattle.cx_names_scopes.specs.Scopes.{tree_in, part_in}
use Rattle.cx_names_rules.specs.Found.{first_of}
use Rattle.cx_names_rules.proofs.statements.+visits.Given as goal

-- the first of the breaks so far and of those behind is the first of all
abbrev pub invariant-block-loop-item : goal.invariant-block-loop-item
invariant-block-loop-item l = first_of l.found (flat_map (λ v. form_breaks (tree_in l.scope) (part_in l.scope) v.form v.place) (visit_all (statements_of (plain_statements (drop l.item-index l.item-items))))) ≡ first_of l.initial.found (flat_map (λ v. form_breaks (tree_in l.scope) (part_in l.scope) v.form v.place) (visit_all (statements_of (plain_statements l.item-items))))
