use Rattle.std.proofs.Common.{◌≡◌, ◌∷◌, ◌++◌, ◌+◌, ◌∙◌, ap, sym, drop, flat_map, option_map, List}
use Rattle.cx_text.specs.declared.diagnostics.Diagnostic.{Diagnostic}
use Rattle.cx_ast.specs.PlainStatements.{plain_form, plain_block, plain_statement, plain_statements, statements_of, else_of}
use Rattle.cx_numbering.specs.NameRules.{Visited, form_breaks, visit_all, visit_parts, visit_block, visit_else}
use Rattle.cx_names_scopes.specs.Scopes.{tree_in, part_in}
use Rattle.cx_names_rules.specs.Found.{first_of}
use Rattle.cx_names_rules.specs.Visits.{visit_statement}
use Rattle.cx_names_rules.proofs.FoundLemmas.{parts_step, both_parts}
use Rattle.cx_names_rules.proofs.VisitLemmas.{visit_then, either_parts}
use Rattle.cx_text.proofs.ListLaws.{drop_item}
use Rattle.cx_names_rules.proofs.statements.+visits.Goals as goal

pub block-loop-item-preserved : goal.block-loop-item-preserved
block-loop-item-preserved t c =
    let other : drop c.loop-item.item-index c.deref-item-items.result.now ≡ c.item-item.result ∷ drop (c.loop-item.item-index + 1) c.deref-item-items.result.now = drop_item _ _ _ c.item-item.is c.loop-item-test.true in
    let each : Visited → List Diagnostic = λ v. form_breaks (tree_in c.args.scope.now) (part_in c.args.scope.now) v.form v.place in
    parts_step each (visit_statement (plain_statement c.item-item.result)) (visit_all (statements_of (plain_statements (drop (c.loop-item.item-index + 1) c.deref-item-items.result.now)))) c.loop-item.found c.statement.new.found _
    (ap (λ vs. first_of c.loop-item.found (flat_map each vs)) (sym (visit_then (plain_statement c.item-item.result) (statements_of (plain_statements (drop (c.loop-item.item-index + 1) c.deref-item-items.result.now))))) ∙ rw other at c.loop-item.invariant) c.in_ok-statement.ensures

pub parts-returns-in_ok-otherwise-in-If : goal.parts-returns-in_ok-otherwise-in-If
parts-returns-in_ok-otherwise-in-If t c =
    let each : Visited → List Diagnostic = λ v. form_breaks (tree_in c.args.scope.now) (part_in c.args.scope.now) v.form v.place in
    let all : visit_parts (plain_form c.args.form.now) ≡ visit_block (plain_block c.in-If.yes) ++ visit_else (else_of (option_map plain_block c.in-If.no)) = either_parts _ c.in-If.yes c.in-If.no c.in-If.is in
    both_parts each (visit_block (plain_block c.in-If.yes)) (visit_else (else_of (option_map plain_block c.in-If.no))) _ c.args.found.now c.block.new.found c.otherwise.new.found all c.in_ok-block-in-If.ensures c.in_ok-otherwise-in-If.ensures
