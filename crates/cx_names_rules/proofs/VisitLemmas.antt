-- Statements in order, and the groups that they name.
use Rattle.std.proofs.Common.{◌≡◌, ◌++◌, ◌⊎◌, inl, inr, ℕ, List, option_map, false, Option, None, Some, refl, ap, ◌∙◌}
use Rattle.cx_ast.specs.declared.wiring.GroupWord.{GroupWord}
use Rattle.cx_ast.specs.declared.operands.OperandItem.{OperandItem}
use Rattle.cx_ast.specs.declared.statements.Block.{Block}
use Rattle.cx_ast.specs.declared.statements.StatementForm.{StatementForm}
use Rattle.cx_ast.specs.declared.statements.StatementForm.TheVariants.{If, StaticIf}
use Rattle.cx_ast.specs.PlainStatements.{PlainStatement, Placed, PlainStatements, StatementThen, plain_form, plain_block, else_of}
use Rattle.cx_ast.specs.PlainTree.{PlainTree, PlainComponent, PlainGroup}
use Rattle.cx_numbering.specs.NameRules.{visit_all, visit_parts, visit_block, visit_else, is_comb_group, is_comb_word}
use Rattle.cx_names_scopes.specs.Scopes.{word_of}
use Rattle.cx_names_rules.specs.Visits.{visit_statement}
use Rattle.cx_numbering.proofs.NameRulesLemmas.{if_parts, static_if_parts}

pub visit_then : (s : PlainStatement) (ss : PlainStatements) → visit_all (StatementThen s ss) ≡ visit_statement s ++ visit_all ss
visit_then (Placed attributes form place) ss = refl

pub no_comb : (tree : PlainTree) (part : PlainComponent) (o : Option PlainGroup) → None ≡ word_of o → false ≡ is_comb_group tree part o
no_comb tree part None h = refl
no_comb tree part (Some g) h = absurd cc

pub comb_if : (tree : PlainTree) (part : PlainComponent) (o : Option PlainGroup) (word : GroupWord) → Some word ≡ word_of o → is_comb_word tree part word ≡ is_comb_group tree part o
comb_if tree part None word h = absurd cc
comb_if tree part (Some g) word h = let same : word ≡ g.kind = cc in ap (λ w. is_comb_word tree part w) same

pub either_parts : (form : StatementForm) (then : Block) (other : Option Block)
    → ((test : OperandItem) × (comb : Option (List ℕ)) × form ≡ If test comb then other) ⊎ ((length : Option ℕ) × (test : OperandItem) × form ≡ StaticIf length test then other)
    → visit_parts (plain_form form) ≡ visit_block (plain_block then) ++ visit_else (else_of (option_map plain_block other))
either_parts form then other (inl w) = ap (λ f. visit_parts (plain_form f)) w.2 ∙ if_parts w.0 w.1 then other
either_parts form then other (inr w) = ap (λ f. visit_parts (plain_form f)) w.2 ∙ static_if_parts w.0 w.1 then other
