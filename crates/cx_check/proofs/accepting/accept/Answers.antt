use Rattle.cx_ast.specs.PlainTree.{plain_tree}
use Rattle.cx_design.specs.declared.designs.Design.{Design}
use Rattle.cx_design.specs.PlainDesigns.{plain_design}
use Rattle.cx_check.proofs.Verdicts.{accepted_of, refused_of, refused_by_name, tells_as, all_told}
use Rattle.cx_check.proofs.accepting.accept.Goals as goal

pub returns-in-Ok-clause-accepted : goal.returns-in-Ok-clause-accepted
returns-in-Ok-clause-accepted c = accepted_of (plain_tree c.args.tree.now) (plain_design c.in-Ok.design) c.accept_named.result c.in-Ok.ensures.accepted c.in-Ok.ensures.value c.accept_named.ensures.accepted

pub returns-in-Ok-clause-rule : goal.returns-in-Ok-clause-rule
returns-in-Ok-clause-rule c = refused_of (plain_tree c.args.tree.now) (plain_design c.in-Ok.design) c.accept_named.result c.in-Ok.ensures.accepted c.in-Ok.ensures.value c.accept_named.ensures.rule

pub returns-in-Ok-clause-all_refusals : goal.returns-in-Ok-clause-all_refusals
returns-in-Ok-clause-all_refusals c told b =
    let tree = plain_tree c.args.tree.now in
    all_told tree c.accept_named.result
    (accepted_of tree (plain_design c.in-Ok.design) c.accept_named.result c.in-Ok.ensures.accepted c.in-Ok.ensures.value c.accept_named.ensures.accepted)
    (refused_of tree (plain_design c.in-Ok.design) c.accept_named.result c.in-Ok.ensures.accepted c.in-Ok.ensures.value c.accept_named.ensures.rule) told b

pub returns-in-Err-clause-rule : goal.returns-in-Err-clause-rule
returns-in-Err-clause-rule c = refused_by_name Design (plain_tree c.args.tree.now) c.in-Err.refusal c.in-Err.ensures.first

pub returns-in-Err-clause-all_refusals : goal.returns-in-Err-clause-all_refusals
returns-in-Err-clause-all_refusals c told b =
    tells_as (plain_tree c.args.tree.now) told c.in-Err.refusal b (refused_by_name Design (plain_tree c.args.tree.now) c.in-Err.refusal c.in-Err.ensures.first)
