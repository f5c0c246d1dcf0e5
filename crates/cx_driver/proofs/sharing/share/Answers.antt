use Rattle.cx_ast.specs.PlainTree.{plain_tree}
use Rattle.cx_compiler.proofs.TextLemmas.{accepted_stop, no_tree_refused, text_stop, tree_refused}
use Rattle.cx_driver.specs.Sharing.{IsSharedTree}
use Rattle.cx_driver.proofs.RewritingLemmas.{all_rewritten, all_told, tree_rewritten}
use Rattle.cx_driver.proofs.sharing.share.Goals as goal

pub share_tree-requires : goal.share_tree-requires
share_tree-requires c = record { source = (c.args.text.now, c.in-Ok.ensures.tree.0, c.in-Ok.ensures.tree.1, c.in-Ok.ensures.tree.2) }

pub returns-in-Ok : goal.returns-in-Ok
returns-in-Ok c =
    let text = c.args.text.now in
    let r = c.share_tree.result in
    let answer = tree_rewritten IsSharedTree (λ v. v.items) text (plain_tree c.in-Ok.tree) r c.in-Ok.ensures.tree c.share_tree.ensures.accepted c.share_tree.ensures.shared in
    let cause = tree_refused text (plain_tree c.in-Ok.tree) r c.in-Ok.ensures.tree c.share_tree.ensures.cause in
    record {
      answer = answer;
      cause = cause;
      all_answers = λ is. all_rewritten text r cause is;
      all_refusals = λ told b. all_told IsSharedTree (λ v. v.items) text r answer cause told b;
    }

pub returns-in-Err-clause-all_answers : goal.returns-in-Err-clause-all_answers
returns-in-Err-clause-all_answers c = λ is. accepted_stop c.args.text.now c.in-Err.stop is (no_tree_refused c.args.text.now c.in-Err.stop c.in-Err.ensures.fault)

pub returns-in-Err-clause-all_refusals : goal.returns-in-Err-clause-all_refusals
returns-in-Err-clause-all_refusals c = λ told b. text_stop c.args.text.now told c.in-Err.stop b (no_tree_refused c.args.text.now c.in-Err.stop c.in-Err.ensures.fault)
