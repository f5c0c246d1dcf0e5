use Rattle.cx_ast.specs.PlainTree.{plain_tree}
use Rattle.cx_design.specs.PlainDesigns.{plain_design}
use Rattle.cx_compiler.proofs.TextLemmas.{text_targets, tree_design, tree_refused, no_tree_refused}
use Rattle.cx_compiler.proofs.accepting.accepted_design.Goals as goal

pub tried-requires : goal.tried-requires
tried-requires c = record { targets = text_targets c.args.text.now (plain_tree c.in-Ok.tree) c.in-Ok.ensures.tree }

pub returns-in-Ok : goal.returns-in-Ok
returns-in-Ok c = record {
  design = tree_design (λ d. plain_design d) c.args.text.now (plain_tree c.in-Ok.tree) c.tried.result c.in-Ok.ensures.tree c.tried.ensures.accepted c.tried.ensures.value;
  cause = tree_refused c.args.text.now (plain_tree c.in-Ok.tree) c.tried.result c.in-Ok.ensures.tree c.tried.ensures.cause;
}

pub returns-in-Err : goal.returns-in-Err
returns-in-Err c = record { design = tt; cause = no_tree_refused c.args.text.now c.in-Err.stop c.in-Err.ensures.fault }
