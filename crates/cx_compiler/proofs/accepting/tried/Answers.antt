use Rattle.cx_ast.specs.PlainTree.{plain_tree}
use Rattle.cx_compiler.proofs.TextLemmas.{refused_tree}
use Rattle.cx_compiler.proofs.accepting.tried.Goals as goal

pub returns-in-Err-clause-cause : goal.returns-in-Err-clause-cause
returns-in-Err-clause-cause c = refused_tree (plain_tree c.args.tree.now) c.in-Err.refusal c.of_accept.result c.of_accept.ensures c.in-Err.ensures.rule
