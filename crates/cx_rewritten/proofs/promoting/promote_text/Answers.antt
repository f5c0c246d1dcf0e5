use Rattle.cx_ast.specs.PlainTree.{plain_tree}
use Rattle.cx_design.specs.PlainDesigns.{plain_design}
use Rattle.cx_names.proofs.TargetLemmas.{targets_in_text}
use Rattle.cx_print.proofs.FileGiven.{tree_of_text}
use Rattle.cx_rewritten.proofs.promoting.promote_text.Goals as goal
use Rattle.cx_promote.proofs.PromotedLemmas.{tree_design}

pub written-requires : goal.written-requires
written-requires c =
    let source = c.requires.source in
    let tree = plain_tree c.args.tree.now in
    record { design = c.requires.design; accepted = c.requires.accepted; targets = targets_in_text source.1 tree source.3; printable = tree_of_text source.0 source.1 tree source.2 source.3 }

pub returns-clause-runs : goal.returns-clause-runs
returns-clause-runs c =
    let source = c.requires.source in
    let tree = plain_tree c.args.tree.now in
    c.promoted_texts_end_no_later.ensures.runs tree c.in_ok-text.text.items source c.requires.accepted
    (tree_design tree (plain_design c.args.design.now) (targets_in_text source.1 tree source.3) c.requires.accepted c.requires.design c.args.design.now.keeps)
    c.in_ok-text.ensures
